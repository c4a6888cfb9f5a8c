use Rattle.std.proofs.Common.{arith}
use Rattle.age_c.proofs.{body_next}
use Rattle.age_c.proofs.stanzas.put_bodies.Goals as goal

pub loop-stanza-preserved : goal.loop-stanza-preserved
loop-stanza-preserved c =
    let was = c.loop-stanza.invariant in
    let next = body_next c.args.stanzas.now c.loop-stanza.stanza-index c.stanza-item.result c.loop-stanza.written _ c.loop-stanza.out c.args.out.now
    c.copy_from_slice.new.self c.as_slice-body.result.now (omega arith) c.stanza-item.is c.as_slice-body.ensures c.copy_from_slice.ensures.after
    (omega arith) (omega arith) (record { most = was.most; told = was.told; after = was.after }) in
    record { most = next.most; told = next.told; after = next.after }
