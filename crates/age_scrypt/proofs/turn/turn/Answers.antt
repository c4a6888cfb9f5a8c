use Rattle.std.proofs.Common.{◌∙◌, ap, arith, below_more}
use Rattle.age_scrypt.specs.inner.{words, turned}
use Rattle.age_scrypt.proofs.{rows_of_words, words_of_diagonals}
use Rattle.age_scrypt.proofs.turn.turn.Goals as goal

pub loop-i-preserved : goal.loop-i-preserved
loop-i-preserved c =
    let p = c.read.result in
    below_more _ _
    (λ j below. c.write.ensures.others j (omega arith) (omega arith) ∙ c.loop-i.invariant j below)
    (c.write.ensures.here
    ∙ words_of_diagonals (words p) c.diagonals.result
    (c.diagonals.ensures (words p) (rows_of_words p)) ∙ ap turned c.read.ensures)
