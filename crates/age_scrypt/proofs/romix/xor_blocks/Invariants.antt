use Rattle.std.proofs.Common.{◌≡◌, ◌<◌, ℕ}
use Rattle.age_scrypt.specs.{part, xor_words}
use Rattle.age_scrypt.proofs.romix.xor_blocks.Given as goal

abbrev pub invariant-loop-i : goal.invariant-loop-i
invariant-loop-i l = (j : ℕ) → j < l.i → part 16 l.to j ≡ xor_words (part 16 l.x j) (part 16 l.y j)
