use Rattle.std.proofs.Common.{◌≡◌, ◌<◌, ℕ, slice_index}
use Rattle.age_cipher.proofs.{generator_on, word_on}
use Rattle.age_cipher.proofs.keystream.draw.Given as goal

abbrev pub invariant-loop-k : goal.invariant-loop-k
invariant-loop-k l = record {
  drawn : (j : ℕ) → j < l.k → slice_index l.words j ≡ word_on l.initial.generator j;
  generator : l.generator ≡ generator_on l.initial.generator l.k;
}
