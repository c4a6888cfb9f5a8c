use Rattle.std.proofs.Common.{◌≡◌, ◌++◌, ◌∙◌, ◌+◌, ℕ, List, Option, Some, sym, ap, suc, arith}
use Rattle.std.proofs.lemmas.List.{length-append}
use Rattle.std.specs.Simd.{first_chunks}
use Rattle.age_file_position.specs.{chain_if, link_if}
use Rattle.age_file_input.specs.{view_of_reader}
use Rattle.age_file_position.specs.inner.{view_of_writer}
use Rattle.age_file_position.specs.declared.position.PositionPolicy.TheVariants.{Kept}
use Rattle.age_file_input.proofs.ReadLemmas.{err_is, passes_then}
use Rattle.age_file_position.proofs.MarkLemmas.{wrote_then}
use Rattle.age_file_decrypt.proofs.ResumeLemmas.{chunks_more, chunk_failed}
use Rattle.age_chunk.specs.{chunk_length}
use Rattle.age_file_decrypt.proofs.copy.copy_chunks.Goals as goal

pub returns-in_err-copy_chunk-clause-copied : goal.returns-in_err-copy_chunk-clause-copied
returns-in_err-copy_chunk-clause-copied g c =
    let kept = c.loop-copied.invariant in
    let old = view_of_reader g.S.Source.view c.args.reader.now in
    let mid = view_of_reader g.S.Source.view c.loop-copied.reader in
    let new = view_of_reader g.S.Source.view c.copy_chunk.new.reader in
    let was = view_of_writer g.O.Sink.view c.args.writer.now in
    let between = view_of_writer g.O.Sink.view c.loop-copied.writer in
    let now = view_of_writer g.O.Sink.view c.copy_chunk.new.writer in
    rw (err_is c.from_residual.result c.from_residual.ensures.1) (chunk_failed chunk_length c.args.chunks c.loop-copied._copied old mid new was
    between now kept.out c.in_err-copy_chunk.field-0.0 kept.size (omega arith) kept.passes kept.wrote kept.failures c.in_err-copy_chunk.ensures.copied)

pub loop-copied-preserved : goal.loop-copied-preserved
loop-copied-preserved g c =
    let kept = c.loop-copied.invariant in
    let step = c.in_ok-copy_chunk.ensures.copied in
    let goes = step.answered in
    let i = c.loop-copied._copied in
    let next : suc i ≡ i + 1 = omega arith in
    let links : c.copy_chunk.new.writer.tally.chain ≡ chain_if Kept (first_chunks chunk_length (i + 1) (kept.out ++ step.out)) =
    goes.4 ∙ ap (λ (xs : Option (List (List ℕ))). link_if xs step.out) kept.chain_is
    ∙ ap Some (sym (chunks_more chunk_length i kept.out step.out kept.size goes.0))
    ∙ ap (λ (k : ℕ). chain_if Kept (first_chunks chunk_length k (kept.out ++ step.out))) next in
    let same = c.in_ok-copy_chunk.ensures.same_reader in
    record {
      same_reader = (same.0 ∙ kept.same_reader.0, same.1 ∙ kept.same_reader.1, same.2 ∙ kept.same_reader.2);
      same_writer = c.in_ok-copy_chunk.ensures.same_writer ∙ kept.same_writer;
      out = kept.out ++ step.out;
      size = omega (arith, kept.size, goes.0, length-append kept.out step.out);
      passes = passes_then kept.out step.out kept.passes goes.1;
      wrote = wrote_then kept.wrote step.wrote;
      failures = goes.2 ∙ kept.failures;
      index = omega (arith, kept.index, goes.3);
      chain_is = links;
    }
