use Rattle.std.proofs.Common.{◌<◌, ◌∙◌, ℕ, List, arith, below_more}
use Rattle.age_scrypt.specs.{part}
use Rattle.age_scrypt.specs.inner.{IsDiagonals}
use Rattle.age_scrypt.proofs.{words_of_rows, diagonals_of_words, length-part, same_parts}
use Rattle.age_scrypt.proofs.turn.turn_back.Goals as goal

pub loop-i-preserved : goal.loop-i-preserved
loop-i-preserved c b t =
    let i : ℕ = c.loop-i.i in
    let below : i < 16 = omega arith in
    let x : List ℕ = part 16 b i in
    let h : IsDiagonals x c.read.result = diagonals_of_words x c.read.result (c.read.ensures ∙ t.at i below) in
    below_more _ _
    (λ j below. c.write.ensures.others j (omega arith) (omega arith)
    ∙ c.loop-i.invariant b t j below)
    (c.write.ensures.here
    ∙ words_of_rows x c.rows.result (length-part b i t.len below) (c.rows.ensures x h))

pub returns : goal.returns
returns c b t = same_parts c.loop-i.to b (omega arith) t.len (λ i below. c.loop-i.invariant b t i (omega arith))
