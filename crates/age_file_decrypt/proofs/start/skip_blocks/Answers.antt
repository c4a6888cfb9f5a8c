use Rattle.std.proofs.Common.{◌++◌, ◌∙◌, take, arith}
use Rattle.std.proofs.lemmas.List.{length-append, length-take}
use Rattle.age_file_input.proofs.ReadLemmas.{err_is}
use Rattle.age_file_decrypt.proofs.StartLemmas.{passes_on, dries_same, skip_fails}
use Rattle.age_chunk.specs.{block_length}
use Rattle.age_file_decrypt.proofs.start.skip_blocks.Goals as goal

pub returns-in_err-need_bytes-clause-skipped : goal.returns-in_err-need_bytes-clause-skipped
returns-in_err-need_bytes-clause-skipped g c =
    let kept = c.pieces.invariant in
    rw (err_is c.from_residual.result c.from_residual.ensures.1) (skip_fails block_length c.args.blocks (omega (arith, kept.size, c.pieces-test.true))
    (dries_same c.in_err-need_bytes.field-0.0 kept.passes c.in_err-need_bytes.ensures.none) (omega (arith, kept.size)))

pub pieces-preserved : goal.pieces-preserved
pieces-preserved g c =
    let kept = c.pieces.invariant in
    let n = c.min-n.result in
    let piece = c.bytes.result.now in
    let same = c.in_ok-need_bytes.ensures.same in
    record {
      same = (same.0 ∙ kept.same.0, same.1 ∙ kept.same.1, same.2 ∙ kept.same.2);
      passed = kept.passed ++ take n piece;
      size = omega (arith, kept.size, c.min-n.ensures, length-append kept.passed (take n piece), length-take n piece);
      passes = passes_on {v = c.use_front.new.self} piece n kept.passes c.in_ok-need_bytes.ensures.some c.use_front.ensures.pulls
          c.bytes.ensures.bytes c.use_front.ensures.bytes;
    }
