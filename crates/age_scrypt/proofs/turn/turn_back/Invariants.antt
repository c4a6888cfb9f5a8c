use Rattle.std.proofs.Common.{◌≡◌, ◌<◌, ℕ, List}
use Rattle.age_scrypt.specs.{part}
use Rattle.age_scrypt.specs.inner.{IsTurned}
use Rattle.age_scrypt.proofs.turn.turn_back.Given as goal

abbrev pub invariant-loop-i : goal.invariant-loop-i
invariant-loop-i l = (b : List ℕ) → IsTurned b l.from → (j : ℕ) → j < l.i → part 16 l.to j ≡ part 16 b j
