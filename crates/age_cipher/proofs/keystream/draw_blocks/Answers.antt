use Rattle.std.proofs.Common.{◌*◌, ap, arith}
use Rattle.rand_chacha.specs.ChaCha.{ChaCha}
use Rattle.age_cipher.proofs.{generator_on, word_on, drawn_none, drawn_more}
use Rattle.age_cipher.proofs.keystream.draw_blocks.Goals as goal

pub returns : goal.returns
unfolding generator_on word_on
returns c =
    let old : ChaCha = c.args.generator.now in
    let g : ChaCha = record old { word_pos = 16 * c.args.number } in
    let s0 = drawn_none old c.set_word_pos.new.self c.args.number _ c.args.words.now (omega (arith, c.from.ensures)) c.set_word_pos.ensures in
    let s1 = drawn_more g c.set_word_pos.new.self c.draw.new.generator 0 8 _ _ c.draw.new.words (omega arith) (omega arith) (omega arith) c.draw.ensures.words c.draw.ensures.generator s0 in
    let s2 = drawn_more g c.draw.new.generator c.draw-2.new.generator 8 8 _ _ c.draw-2.new.words (omega arith) (omega arith) (omega arith) c.draw-2.ensures.words c.draw-2.ensures.generator s1 in
    let s3 = drawn_more g c.draw-2.new.generator c.draw-3.new.generator 16 8 _ _ c.draw-3.new.words (omega arith) (omega arith) (omega arith) c.draw-3.ensures.words c.draw-3.ensures.generator s2 in
    let s4 = drawn_more g c.draw-3.new.generator c.draw-4.new.generator 24 8 _ _ c.draw-4.new.words (omega arith) (omega arith) (omega arith) c.draw-4.ensures.words c.draw-4.ensures.generator s3 in
    let s5 = drawn_more g c.draw-4.new.generator c.draw-5.new.generator 32 8 _ _ c.draw-5.new.words (omega arith) (omega arith) (omega arith) c.draw-5.ensures.words c.draw-5.ensures.generator s4 in
    let s6 = drawn_more g c.draw-5.new.generator c.draw-6.new.generator 40 8 _ _ c.draw-6.new.words (omega arith) (omega arith) (omega arith) c.draw-6.ensures.words c.draw-6.ensures.generator s5 in
    let s7 = drawn_more g c.draw-6.new.generator c.draw-7.new.generator 48 8 _ _ c.draw-7.new.words (omega arith) (omega arith) (omega arith) c.draw-7.ensures.words c.draw-7.ensures.generator s6 in
    let s8 = drawn_more g c.draw-7.new.generator c.draw-8.new.generator 56 8 _ _ c.draw-8.new.words (omega arith) (omega arith) (omega arith) c.draw-8.ensures.words c.draw-8.ensures.generator s7 in
    record {
      words = s8.drawn;
      key = ap (λ (w : ChaCha). w.key) s8.generator;
      stream = ap (λ (w : ChaCha). w.stream) s8.generator;
    }
