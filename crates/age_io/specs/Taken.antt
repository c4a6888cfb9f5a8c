-- The bytes that a sink took, whatever it is over.
use Rattle.std.specs.Prelude.{◌≡◌, ℕ, List, ◌++◌, Option, Result, MatchResult, take}
use Rattle.std.specs.Io.KnownBytes as known

-- the bytes of a sink: those that it took since it was made, and its contents, if they are shown;
-- and its name, which no call changes
pub record Taken : Type 0 where
  pub bytes : List ℕ
  pub contents : Option (List ℕ)
  pub label : List ℕ

-- a sink took these bytes
pub record Appends (old new : Taken) (more : List ℕ) : Type 0 where
  pub bytes : new.bytes ≡ old.bytes ++ more
  pub contents : known.Appends old.contents new.contents more
  pub named : new.label ≡ old.label

-- a sink took nothing
pub record Keeps (old new : Taken) : Type 0 where
  pub bytes : new.bytes ≡ old.bytes
  pub contents : known.Keeps old.contents new.contents
  pub named : new.label ≡ old.label

-- a put took the bytes at the beginning of a slice, or it failed and took nothing
abbrev pub WriteAppends : {E : Type 0} → Taken → Taken → Result ℕ E → List ℕ → Type 0
WriteAppends old new result from = MatchResult result (λ n. Appends old new (take n from))
    (λ _. Keeps old new)
