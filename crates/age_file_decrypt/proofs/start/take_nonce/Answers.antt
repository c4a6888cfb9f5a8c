use Rattle.std.proofs.Common.{take, subst, sym, arith, ◌∙◌, ap, length}
use Rattle.std.proofs.lemmas.List.{length-take, length-drop}
use Rattle.age_file_input.specs.{Passes, reader_view, view_of_reader}
use Rattle.age_file_input.proofs.ReadLemmas.{err_is}
use Rattle.age_file_decrypt.proofs.StartLemmas.{passes_on, dries_same}
use Rattle.age_file_decrypt.proofs.start.take_nonce.Goals as goal

pub returns-in_err-need_bytes-clause-fails : goal.returns-in_err-need_bytes-clause-fails
returns-in_err-need_bytes-clause-fails g c =
    let few = length-take c.parts.have c.parts.nonce in
    rw (err_is c.from_residual.result c.from_residual.ensures.1) (
      take c.parts.have c.parts.nonce,
      omega (arith, few),
      dries_same c.in_err-need_bytes.field-0.0 c.parts.invariant.passes c.in_err-need_bytes.ensures.none,
    )

pub parts-preserved : goal.parts-preserved
parts-preserved g c =
    let kept = c.parts.invariant in
    let some = c.in_ok-need_bytes.ensures.some in
    let n = c.copy_some-n.result in
    let old = view_of_reader g.S.Source.view c.args.reader.now in
    let new = reader_view (g.S.Source.view c.need_bytes.new.reader.source.now) c.use_front.new.self in
    let same = c.in_ok-need_bytes.ensures.same in
    record {
      same = (same.0 ∙ kept.same.0, same.1 ∙ kept.same.1, same.2 ∙ kept.same.2);
      most = omega (arith, kept.most, c.copy_some-n.ensures.count);
      few = omega (arith, some.few, ap length c.use_front.ensures.bytes, length-drop n c.need_bytes.new.reader.intake.now.bytes);
      room = c.copy_some-n.array_long;
      passes = subst (Passes old new) (sym c.copy_some-n.ensures.bytes) (passes_on {v = c.use_front.new.self} c.bytes.result.now n kept.passes some
          c.use_front.ensures.pulls c.bytes.ensures.bytes c.use_front.ensures.bytes);
    }
