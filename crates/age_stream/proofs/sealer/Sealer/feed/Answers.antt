use Rattle.std.proofs.Common.{◌∙◌, refl, ap, length, None, Some, true, false}
use Rattle.age_stream.proofs.{fed_ok}
use Rattle.age_stream.proofs.sealer.Sealer.feed.Goals as goal

pub returns-then-not-full : goal.returns-then-not-full
returns-then-not-full g c =
    let e = fed_ok g.B.ChunkBox.sealing c.self.inside.state c.advance.new.self (ap (λ v. v.finished) c.self.view_is ∙ c.requires) c.args.piece.now _ false None
    refl tt (rw c.if-not-full.true at c.in_ok-taken.ensures) in
    rw (← c.self.view_is) ((refl, λ _. tt, e.0), record { after = tt; takes = e.1 })

pub returns : goal.returns
returns g c =
    let s = rw c.if-not-full.false at c.in_ok-taken.ensures in
    let block = c.as_slice.ensures.value in
    let e = fed_ok g.B.ChunkBox.sealing c.self.inside.state c.advance.new.self (ap (λ v. v.finished) c.self.view_is ∙ c.requires) c.args.piece.now _ true
    (Some c.as_slice.result) block (ap length block ∙ s.whole refl) s in
    rw (← c.self.view_is) ((refl, λ _. tt, e.0), record { after = tt; takes = e.1 })
