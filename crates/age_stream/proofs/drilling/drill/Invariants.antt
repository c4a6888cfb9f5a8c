use Rattle.std.proofs.Common.{◌≡◌, take}
use Rattle.age_stream.specs.{Replays}
use Rattle.age_stream.proofs.drilling.drill.Given as goal
use Rattle.age_chunk.specs.{text_length}

abbrev pub invariant-loop-event : goal.invariant-loop-event
invariant-loop-event g l =
    (l.replay.key ≡ l.key) × Replays g.B.ChunkBox.opening (text_length g.row.SEALED) l.replay (take l.event-index l.events)
