use Rattle.std.proofs.Common.{arith, length, ◌≡◌}
use Rattle.std.proofs.lemmas.Grind.{common_steps}
use Rattle.age_file_position.proofs.chunk_chain.pairs_after.Goals as goal

pub loop-k-preserved : goal.loop-k-preserved
loop-k-preserved c =
    let kept = c.loop-k.invariant in
    record {
      size = grind (arith, common_steps, kept.size);
      are = λ chunks chunk pairs mark size j d lt.
          grind (arith, common_steps, kept, kept.are chunks chunk pairs mark size j d, c.after.ensures.pair chunks chunk, c.after.ensures.same, pairs c.loop-k.k d, mark, size);
    }

pub returns : goal.returns
returns c chunks chunk pairs mark size k d lt =
    let kept = c.loop-k.invariant in
    kept.are chunks chunk pairs mark size k d (omega (arith, kept.size, lt, c.loop-k-test.false))
