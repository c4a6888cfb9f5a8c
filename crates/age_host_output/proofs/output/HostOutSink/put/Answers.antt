use Rattle.age_host_output.proofs.{noted_well, stays_at, unmade_put}
use Rattle.age_host_output.proofs.output.HostOutSink.put.Goals as goal

pub invariant_of-self : goal.invariant_of-self
invariant_of-self c = let was = c.self.invariant in let put = c.write_made-put.ensures in
    rw c.note_put-taken.ensures.took (
      put.taking _ _ _ was.0 was.1.1.1.1.0 (noted_well _ _ _ _ c.note.ensures.counted c.note_put-taken.ensures.ok),
      (
        put.node was.1.0,
        (
          put.paced _ was.1.1.0,
          (
            put.forwarded _ was.1.1.1.0,
            (unmade_put _ _ _ _ _ _ _ _ _ put.keeps was.1.1.1.1.0 put.made, stays_at c.self.inside.name _ _ _ _ _ _ put.keeps was.1.1.1.1.1),
          ),
        ),
      ),
    )
