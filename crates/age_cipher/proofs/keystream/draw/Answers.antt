use Rattle.std.proofs.Common.{◌≢◌, ◌<◌, ℕ, length, arith, below_more, get_or-set_other, get_or-set_same}
use Rattle.age_cipher.proofs.{word_drawn}
use Rattle.age_cipher.proofs.keystream.draw.Goals as goal

pub loop-k-preserved : goal.loop-k-preserved
loop-k-preserved c =
    let k : ℕ = c.loop-k.k in
    let next = word_drawn c.args.generator.now c.loop-k.generator c.next_word.new.self c.next_word.result k c.loop-k.invariant.generator c.next_word.ensures in
    let here : k < length c.loop-k.words = omega arith in
    record {
      drawn = below_more _ _ (λ j h. let ne : j ≢ k = omega arith in rw get_or-set_other (c.loop-k.invariant.drawn j h)) (rw get_or-set_same next.0);
      generator = next.1;
    }
