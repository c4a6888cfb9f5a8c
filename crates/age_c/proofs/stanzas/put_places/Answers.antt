use Rattle.std.proofs.Common.{length, set, ap, ◌∙◌, arith}
use Rattle.std.proofs.lemmas.List.{drop-set-lt}
use Rattle.age_stanza.proofs.{stanza_within}
use Rattle.age_c.proofs.{body_within, length-stanza, place_next, stanzas_next}
use Rattle.age_c.proofs.stanzas.put_places.Goals as goal

pub overflow_add-body_at : goal.overflow_add-body_at
overflow_add-body_at c =
    let s = c.index-stanzas-index.result in
    let parts = stanza_within c.args.stanzas.now c.loop-index.index s (omega arith) c.index-stanzas-index.is in
    let whole = length-stanza s in
    let body = body_within s.body in
    omega (arith, c.loop-index.invariant.text, c.loop-index.invariant.bodies)

pub loop-index-preserved : goal.loop-index-preserved
loop-index-preserved c =
    let s = c.index-stanzas-index.result in
    let i = c.loop-index.index in
    let parts = stanzas_next c.args.stanzas.now i s (omega arith) c.index-stanzas-index.is in
    let whole = length-stanza s in
    let body = body_within s.body in
    let was = c.loop-index.invariant in
    record {
      text = omega (arith, was.text, parts);
      bodies = omega (arith, was.bodies);
      told = rw (c.stanza_len-at.ensures, c.len-body_at.ensures) (place_next c.loop-index.places _ c.args.stanzas.now i c.loop-index.at
          c.loop-index.body_at s _ (omega arith) c.index-stanzas-index.is (omega arith) (ap (set c.loop-index.places i) c.locate_stanza.ensures) was.told);
      after = drop-set-lt (length c.args.stanzas.now) c.loop-index.places i c.locate_stanza.result (omega arith) ∙ was.after;
    }
