use Rattle.std.proofs.Common.{◌≡◌, ◌+◌, ◌*◌, ◌/◌, ◌%◌, ◌<◌, ◌∙◌, ℕ, List, bit_xor, sym, ap₂, arith, add-one, below_more}
use Rattle.std.proofs.lemmas.Simd.{length-zip2}
use Rattle.age_scrypt.specs.{part, x_part, xor_words}
use Rattle.age_scrypt.specs.inner.{words, turned, IsTurned}
use Rattle.age_scrypt.proofs.{zip2-turned, length-part, length-chained, mixed_turned}
use Rattle.age_scrypt.proofs.steps.block_mix.Goals as goal

pub loop-i-preserved : goal.loop-i-preserved
unfolding x_part
loop-i-preserved c =
    let i : ℕ = c.loop-i.i in
    let below : i < 16 = omega arith in
    let x : (b : List ℕ) → IsTurned b c.args.from.now → words c.salsa20_8-x.result ≡ turned (x_part b (i + 1)) =
    λ (b : List ℕ) (t : IsTurned b c.args.from.now).
    let x_len = length-chained b i t.len (omega arith) in
    let part_len = length-part b i t.len below in
    let xored = c.xor.ensures ∙ ap₂ xor_words (c.loop-i.invariant.x b t) (c.read.ensures ∙ t.at i below)
    ∙ zip2-turned bit_xor (x_part b i) (part 16 b i) x_len part_len in
    rw add-one (c.salsa20_8-x.ensures (xor_words (x_part b i) (part 16 b i))
    (length-zip2 bit_xor (x_part b i) (part 16 b i) (x_len ∙ sym part_len) ∙ x_len) xored) in
    record {
      x = x;
      to = λ b t. below_more _ _
          (λ j below. c.write.ensures.others (j / 2 + j % 2 * 8) (omega arith) (omega arith)
          ∙ c.loop-i.invariant.to b t j below)
          (c.write.ensures.here ∙ x b t);
    }

pub returns-clause-mixed : goal.returns-clause-mixed
returns-clause-mixed c b t = mixed_turned b c.loop-i.to t.len (λ j h. c.loop-i.invariant.to b t j (omega arith))
