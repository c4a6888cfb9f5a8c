use Rattle.std.proofs.Common.{◌≡◌, ◌∙◌, ℕ, List, ap, ap₂, add-one, arith}
use Rattle.std.specs.Simd.Lanes.{zip2}
use Rattle.age_scrypt.specs.{add32, double_rounds, salsa20_8}
use Rattle.age_scrypt.specs.inner.{words, turned}
use Rattle.age_scrypt.proofs.{length-double_rounds, diagonals_of_words, words_of_diagonals, zip2-turned}
use Rattle.age_scrypt.proofs.salsa.salsa20_8.Goals as goal

pub loop-round-init : goal.loop-round-init
unfolding double_rounds
loop-round-init c x len e = diagonals_of_words x c.args.p e

pub loop-round-preserved : goal.loop-round-preserved
unfolding double_rounds
loop-round-preserved c x len e =
    let y : List ℕ = double_rounds c.loop-round._round x in
    rw add-one (c.double_round-mixed.ensures y (length-double_rounds c.loop-round._round x len) (c.loop-round.invariant x len e))

pub returns : goal.returns
unfolding salsa20_8
returns c x len e =
    let n : ℕ = c.loop-round._round in
    let all : n ≡ 4 = omega arith in
    let mixed : words c.loop-round.mixed ≡ turned (double_rounds 4 x) =
    words_of_diagonals (double_rounds n x) c.loop-round.mixed (c.loop-round.invariant x len e) ∙ ap (λ n. turned (double_rounds n x)) all in
    c.wrapping_add.ensures ∙ ap₂ (zip2 add32) mixed e ∙ zip2-turned add32 (double_rounds 4 x) x (length-double_rounds 4 x len) len
