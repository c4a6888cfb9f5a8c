-- When the bytes that came so far are worth a try as a header. Private: no public contract cites this
-- module.
use Rattle.std.specs.List.{starts_with}
use Rattle.std.specs.Prelude.{ℕ, nat_le, if◌then◌else◌, ◌≡◌, ◌≤◌, List, length, drop, ◌+◌, ◌⊎◌, ◌<◌, nat_eq}
use Rattle.std.specs.Prelude.{◌∷◌, codes, get_or, true}
use Rattle.age_stanza.specs.{header_limit}

-- ---- When it is worth a try to open the header of a file that came in part: where the header may end.

-- after the LF at this place the bytes have a line that begins as the end line of a header does and
-- is as long, and 16 bytes after it
pub record EndsAt (front : List ℕ) (at : ℕ) : Type 0 where
  pub within : at + 65 ≤ length front
  pub begins : starts_with nat_eq (drop at front) (10 ∷ codes "--- ") ≡ true
  pub ends : get_or (drop at front) 48 0 ≡ 10

-- how many of the lengths are reached at which a header is tried in any case
abbrev pub marks_in : ℕ → ℕ
marks_in len =
    if nat_le (header_limit + 16) len then 5
    else if nat_le 65536 len then 4
    else if nat_le 4096 len then 3
    else if nat_le 64 len then 2
    else if nat_le 1 len then 1
    else 0

-- the bytes are worth a try, after this many of them weren't enough: one more of these lengths is
-- reached, or a header may have ended since
abbrev pub IsWorthATry : List ℕ → ℕ → Type 0
IsWorthATry front seen = (marks_in seen < marks_in (length front))
    ⊎ ((at : ℕ) × (seen < at + 65) × EndsAt front at)
