use Rattle.std.proofs.Common.{◌<◌, List, take, arith, subst, sym, ◌∙◌}
use Rattle.std.proofs.lemmas.List.{take_all, take_more}
use Rattle.age_stream.specs.{Delivery, Replays, HoldsWritten}
use Rattle.age_stream.proofs.{cramped_at, on_err, written}
use Rattle.age_stream.proofs.drilling.drill.Goals as goal
use Rattle.age_chunk.specs.{text_length}

pub returns-in_err-take-clause-memory : goal.returns-in_err-take-clause-memory
returns-in_err-take-clause-memory g c =
    on_err c.from_residual.result
    (cramped_at g.B.ChunkBox.opening (text_length g.row.SEALED) c.loop-event.replay c.args.events.now c.loop-event.event-index _ c.loop-event-test.true
    c.loop-event.invariant.1 c.in_err-take.ensures.memory)

pub loop-event-preserved : goal.loop-event-preserved
loop-event-preserved g c =
    let before = take c.loop-event.event-index c.args.events.now in
    let now = c.in_ok-take.ensures.held before c.loop-event.invariant.1 in
    let more = take_more c.args.events.now c.loop-event.event-index _ c.loop-event-test.true in (
      c.in_ok-take.ensures.key ∙ c.loop-event.invariant.0,
      subst (λ (ds : List Delivery). Replays g.B.ChunkBox.opening (text_length g.row.SEALED) c.take.new.self ds)
          (sym more) now,
    )

pub returns-clause-written : goal.returns-clause-written
returns-clause-written g c =
    let m = text_length g.row.SEALED in
    let positive : 0 < m = omega (arith, c.requires) in
    let r = c.loop-event.replay in
    let key = c.args.key.now in
    let all = take_all c.loop-event.event-index c.args.events.now (omega (arith, c.loop-event-test.false)) in
    let right = written g.B.ChunkBox.sealing g.B.ChunkBox.opening m key r (g.met.B.ChunkBox.valid key) positive c.loop-event.invariant.0 _ c.loop-event.invariant.1 in
    rw (c.into_drill.ensures.text, c.into_drill.ensures.status)
    (subst (λ (ds : List Delivery). HoldsWritten (g.B.ChunkBox.sealing key) (g.B.ChunkBox.opening key) m ds r.text r.opener.status) all right)

pub new-replay-requires : goal.new-replay-requires
new-replay-requires g c = grind arith

pub take-requires : goal.take-requires
take-requires g c = grind arith

pub into_drill-requires : goal.into_drill-requires
into_drill-requires g c = grind arith
