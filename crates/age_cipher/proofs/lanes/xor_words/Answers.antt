use Rattle.std.proofs.Common.{◌≡◌, ◌-◌, ◌*◌, ◌/◌, ℕ, List, length, take, drop, arith}
use Rattle.age_cipher.specs.inner.{word_byte}
use Rattle.age_cipher.proofs.{part_xored, word_byte-part, all_xored}
use Rattle.age_cipher.proofs.lanes.xor_words.Goals as goal

pub returns : goal.returns
returns c =
    let i : ℕ = length c.args.text.now / 32 in
    let words : List ℕ = c.args.words.now in
    let all : c.loop-i.i ≡ length c.args.text.now / 32 = omega arith in
    all_xored (word_byte words) (length c.args.text.now) c.args.text.now _ (omega arith) (omega arith)
    (part_xored (word_byte words) (word_byte (take (length words - 8 * i) (drop (8 * i) words)))
    (32 * i) (length c.args.text.now) (length c.loop-i.text - 32 * i) c.args.text.now c.loop-i.text c.xor_rest.new.text
    (omega arith) (omega arith) (omega arith) (omega arith)
    (λ m h. word_byte-part words i (length words - 8 * i) m (omega arith)) c.xor_rest.ensures (rw all at c.loop-i.invariant))
