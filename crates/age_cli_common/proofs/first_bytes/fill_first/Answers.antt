use Rattle.std.proofs.Common.{take, arith, ap, length, ◌∙◌}
use Rattle.std.proofs.lemmas.List.{length-append, length-take}
use Rattle.age_io.proofs.{Consumes-trans}
use Rattle.age_cli_common.proofs.first_bytes.fill_first.Goals as goal

pub pieces-preserved : goal.pieces-preserved
pieces-preserved g c =
    let kept = c.pieces.invariant in
    let n = c.in_ok-n.n in
    let buffer = c.pull_some.new.buffer in
    let items = c.in_ok-extend_from_slice.ensures.items in
    record {
      read = rw items (Consumes-trans _ _ _ c.pieces.held.items (take n buffer) kept.read c.in_ok-n.ensures.piece.read);
      named = c.in_ok-n.ensures.named ∙ kept.named;
      within = omega (
        arith,
        kept.within,
        ap length items,
        length-append c.pieces.held.items (take n buffer),
        length-take n buffer,
        c.in_ok-n.ensures.piece.within,
        c.pieces-test.true,
        c.len.ensures,
      );
      room = c.pull_some.array_long;
    }
