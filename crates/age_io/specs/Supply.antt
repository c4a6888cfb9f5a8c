-- The bytes that a source gave, whatever it is over.
use Rattle.std.specs.Prelude.{◌≡◌, ℕ, List, ◌++◌, ◌<◌, Option, Bool, true, false, Result, MatchResult}
use Rattle.std.specs.Prelude.{length, take}
use Rattle.std.specs.Io.KnownBytes as known

-- the bytes of a source: those that it gave or skipped so far, those that are still to come if they
-- are shown, and whether the last pull that didn't fail found the end
pub record Supply : Type 0 where
  pub given : List ℕ
  pub left : Option (List ℕ)
  pub is_at_end : Bool

-- a source gave these bytes
pub record Consumes (old new : Supply) (bytes : List ℕ) : Type 0 where
  pub given : new.given ≡ old.given ++ bytes
  pub left : known.Consumes old.left new.left bytes

-- a source skipped this many bytes, which nobody read: nothing else is known of them, unless the
-- bytes to come are shown
abbrev pub Skips : Supply → Supply → ℕ → Type 0
Skips old new n = (bytes : List ℕ) × (length bytes ≡ n) × Consumes old new bytes
    × (new.is_at_end ≡ old.is_at_end)

-- a source gave nothing
pub record Keeps (old new : Supply) : Type 0 where
  pub given : new.given ≡ old.given
  pub left : known.Keeps old.left new.left
  pub is_at_end : new.is_at_end ≡ old.is_at_end

-- the last pull that didn't fail found that no bytes are left
abbrev pub IsAtEnd : Supply → Type 0
IsAtEnd supply = (supply.is_at_end ≡ true) × known.IsAtEnd supply.left

-- a pull gave the bytes at the beginning of a slice, none only at the end or if the slice is empty,
-- and some only before the end; or it failed and gave nothing
abbrev pub ReadConsumes : {E : Type 0} → Supply → Supply → Result ℕ E → List ℕ → Type 0
ReadConsumes old new result into = MatchResult result
    (λ n. Consumes old new (take n into) × (n ≡ 0 → 0 < length into → IsAtEnd new)
    × (0 < n → new.is_at_end ≡ false))
    (λ _. Keeps old new)
