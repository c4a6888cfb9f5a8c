-- The buffer of bytes that were pulled from a source and not used yet.
use Rattle.std.specs.Prelude.{ℕ, List}

-- the bytes that were pulled and not used yet, and how many pulls gave some
pub record Unread : Type 0 where
  pub bytes : List ℕ
  pub pulls : ℕ
