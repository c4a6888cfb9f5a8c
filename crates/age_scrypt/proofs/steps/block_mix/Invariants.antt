use Rattle.std.proofs.Common.{◌≡◌, ◌+◌, ◌*◌, ◌/◌, ◌%◌, ◌<◌, ℕ, List}
use Rattle.age_scrypt.specs.{part, x_part}
use Rattle.age_scrypt.specs.inner.{words, turned, IsTurned}
use Rattle.age_scrypt.proofs.steps.block_mix.Given as goal

abbrev pub invariant-loop-i : goal.invariant-loop-i
invariant-loop-i l = record {
  x : (b : List ℕ) → IsTurned b l.from → words l.x ≡ turned (x_part b l.i);
  to : (b : List ℕ) → IsTurned b l.from → (j : ℕ) → j < l.i → part 16 l.to (j / 2 + j % 2 * 8) ≡ turned (x_part b (j + 1));
}
