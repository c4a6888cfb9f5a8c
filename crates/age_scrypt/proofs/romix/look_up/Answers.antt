use Rattle.std.proofs.Common.{◌≡◌, ◌+◌, ◌-◌, ◌*◌, ℕ, List, length, arith, add-one}
use Rattle.std.proofs.lemmas.List.{length-take, length-drop}
use Rattle.age_scrypt.specs.{part, xor_words, x_block}
use Rattle.age_scrypt.proofs.{xor_turned, table_at}
use Rattle.age_scrypt.proofs.romix.look_up.Goals as goal

pub loop-round-preserved : goal.loop-round-preserved
unfolding part x_block
loop-round-preserved c =
    let x : List ℕ = c.loop-round.x in
    let table : List ℕ = c.args.table.now in
    let place : ℕ = c.pick_block-at.result in
    let width : 256 * place + 256 - 256 * place ≡ 256 = omega arith in
    let long : length (part 256 table place) ≡ 256 = omega (arith, length-take {A = ℕ}, length-drop {A = ℕ}) in
    let mixed : c.xor_blocks.new.to ≡ xor_words x (part 256 table place) = rw width at c.xor_blocks.ensures in
    record {
      x = λ b t e.
          let is = c.loop-round.invariant.x b t e in
          let there = table_at c.args.n b table _ place t c.requires.count.some (c.pick_block-at.ensures.place _ is) in
          rw add-one (c.block_mix.ensures.mixed _ (rw (← mixed) at (xor_turned _ _ x (part 256 table place) is there (omega arith) long)));
      counted = omega arith;
    }
