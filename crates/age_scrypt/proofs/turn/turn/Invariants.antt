use Rattle.std.proofs.Common.{◌≡◌, ◌<◌, ℕ}
use Rattle.age_scrypt.specs.{part}
use Rattle.age_scrypt.specs.inner.{turned}
use Rattle.age_scrypt.proofs.turn.turn.Given as goal

abbrev pub invariant-loop-i : goal.invariant-loop-i
invariant-loop-i l = (j : ℕ) → j < l.i → part 16 l.to j ≡ turned (part 16 l.from j)
