use Rattle.age_stream.proofs.{taken}
use Rattle.age_stream.proofs.replay.Replay.take.Goals as goal

pub returns : goal.returns
returns g c =
    let old = c.self.inside.state in
    rw (← c.self.view_is) (taken g.B.ChunkBox.sealing g.B.ChunkBox.opening old c.deliver.new.self c.args.delivery.now c.deliver.result
    (g.met.B.ChunkBox.valid old.key.now) c.deliver.ensures)
