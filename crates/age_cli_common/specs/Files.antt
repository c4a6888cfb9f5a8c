-- The first bytes of a source, and what a file of one line holds.
use Rattle.std.specs.Prelude.{◌-◌, ◌==◌, ◌&&◌, nat_lt, take, slice_index, if◌then◌else◌, ℕ, ◌<◌, ◌≤◌}
use Rattle.std.specs.Prelude.{List, length}
use Rattle.age_io.specs.Supply.{Supply}
use Rattle.age_io.specs.{Consumes, IsAtEnd}

-- The first `most` bytes of a source, or all before its end if it has fewer.
pub record AreFirst (old new : Supply) (most : ℕ) (bytes : List ℕ) : Type 0 where
  pub read : Consumes old new bytes
  pub within : length bytes ≤ most
  pub at_end : length bytes < most → IsAtEnd new

-- The bytes without one line feed at their end.
abbrev pub without_line_feed : List ℕ → List ℕ
without_line_feed xs =
    if nat_lt 0 (length xs) && (slice_index xs (length xs - 1) == 10) then take (length xs - 1) xs
    else xs
