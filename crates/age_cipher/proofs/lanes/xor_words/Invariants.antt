use Rattle.std.proofs.Common.{◌*◌}
use Rattle.age_cipher.specs.inner.{word_byte}
use Rattle.age_cipher.proofs.{IsXoredBelow}
use Rattle.age_cipher.proofs.lanes.xor_words.Given as goal

abbrev pub invariant-loop-i : goal.invariant-loop-i
invariant-loop-i l = IsXoredBelow (word_byte l.words) (32 * l.i) l.initial.text l.text
