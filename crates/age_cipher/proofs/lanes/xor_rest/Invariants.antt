use Rattle.age_cipher.specs.inner.{word_byte}
use Rattle.age_cipher.proofs.{IsXoredBelow}
use Rattle.age_cipher.proofs.lanes.xor_rest.Given as goal

abbrev pub invariant-loop-k : goal.invariant-loop-k
invariant-loop-k l = IsXoredBelow (word_byte l.words) l.k l.initial.text l.text
