use Rattle.std.proofs.lemmas.Grind.{common_steps}
use Rattle.std.proofs.Common.{refl, arith}
use Rattle.age_chunk.specs.{text_length}
use Rattle.age_stream.specs.{with_end, replay_view}
use Rattle.age_stream.proofs.{held_step}
use Rattle.age_stream.proofs.replay.ReplayState.finish_opener.Goals as goal

pub returns-in-Ok : goal.returns-in-Ok
returns-in-Ok g c =
    let after = rw c.in-Ok.is at c.end.follows.holds-at-none in
    record {
      stands = λ s h. held_step g.B.ChunkBox.opening (text_length g.row.SEALED) (replay_view c.args.self.now) _ s (with_end s.segment) _ h refl after.key refl
          (after.stands s.segment h.segment) (c.in-Ok.ensures.ends.text s.segment h.segment) c.push_text.ensures.items;
      capacity = c.push_text.ensures.capacity;
      key = refl;
    }

pub returns-in_default : goal.returns-in_default
returns-in_default g c = grind (arith, common_steps)
