use Rattle.std.proofs.Common.{◌≡◌, ◌++◌, ◌∙◌, ℕ, List, [], refl, sym, ap, subst, take, length, arith, append-nil, inl, inr}
use Rattle.std.proofs.lemmas.List.{length-append, length-take}
use Rattle.age_stream.specs.{IsPrefixOf}
use Rattle.age_io.specs.{HasFailed}
use Rattle.age_io.specs.Taken.{Appends}
use Rattle.age_file_input.proofs.ReadLemmas.{err_is, passes_same}
use Rattle.age_file_decrypt.proofs.StartLemmas.{passes_on, dries_same}
use Rattle.age_file_position.proofs.MarkLemmas.{wrote_none, wrote_then}
use Rattle.age_file_decrypt.proofs.ResumeLemmas.{front_written, hashed_none, hashed_more}
use Rattle.age_file_decrypt.proofs.copy.copy_chunk.Goals as goal

pub parts-init : goal.parts-init
parts-init g c =
    record {
      same_reader = (refl, refl, refl);
      same_writer = refl;
      copied = [];
      size = omega arith;
      passes = record { uses = λ start used h. h; unfailed = refl; goes_on = λ so. so };
      wrote = wrote_none _;
      failures = refl;
      index = refl;
      links_kept = refl;
      noted = c.new-chunk.ensures;
      hashed = hashed_none _ _ c.digest-digest.ensures;
    }

pub returns-in_err-need_bytes-clause-copied : goal.returns-in_err-need_bytes-clause-copied
returns-in_err-need_bytes-clause-copied g c =
    let kept = c.parts.invariant in
    let d = dries_same c.in_err-need_bytes.field-0.0 kept.passes c.in_err-need_bytes.ensures.none in
    rw (err_is c.from_residual.result c.from_residual.ensures.1) (record {
      out = kept.copied;
      wrote = kept.wrote;
      answered = (
        omega (arith, kept.size, c.parts-test.true),
        record {
          pulled = kept.copied;
          read = λ start used h. rw (d.used, append-nil kept.copied) at (d.uses start used h);
          front = ([], append-nil kept.copied);
          few = omega arith;
          why = inl (refl, d.why, kept.failures);
        },
      );
    })

pub returns-in_err-write_all-clause-copied : goal.returns-in_err-write_all-clause-copied
returns-in_err-write_all-clause-copied g c =
    let kept = c.parts.invariant in
    let put = c.in_err-write_all.ensures.writes in
    let n = c.min-n.result in
    let bytes = c.bytes-in-parts.result.now in
    let some = c.in_ok-need_bytes.ensures.some in
    let passes = passes_same kept.passes some.passes in
    let unread = c.need_bytes.new.reader.intake.now.bytes in
    rw (err_is c.from_residual-in_err-write_all.result c.from_residual-in_err-write_all.ensures.1) (record {
      out = kept.copied ++ put.out;
      wrote = wrote_then kept.wrote (record { bytes = put.wrote; count = put.count });
      answered = (
        omega (arith, kept.size, put.stopped, ap length put.parts, length-append {A = ℕ}, length-take n bytes, c.min-n.ensures),
        record {
          pulled = kept.copied ++ unread;
          read = passes.uses;
          front = subst (λ (t : List ℕ). IsPrefixOf (kept.copied ++ put.out) (kept.copied ++ t)) c.bytes-in-parts.ensures.bytes
              (front_written kept.copied put.out put.unwritten bytes n put.parts);
          few = omega (arith, some.few, length-append kept.copied unread, length-append kept.copied put.out);
          why = inr (
            refl,
            subst (λ (m : ℕ). HasFailed m (g.O.Sink.view c.write_all.new.sink).failed (g.O.Sink.view c.write_all.new.sink).failing)
                kept.failures put.answered,
            passes.unfailed,
          );
        },
      );
    })

pub parts-preserved : goal.parts-preserved
parts-preserved g c =
    let kept = c.parts.invariant in
    let n = c.min-n.result in
    let bytes = c.bytes-in-parts.result.now in
    let put = c.in_ok-write_all.ensures.writes in
    let whole : put.out ≡ take n bytes = sym (put.parts ∙ ap (λ (t : List ℕ). put.out ++ t) put.answered.0 ∙ append-nil put.out) in
    let same = c.in_ok-need_bytes.ensures.same in
    record {
      same_reader = (same.0 ∙ kept.same_reader.0, same.1 ∙ kept.same_reader.1, same.2 ∙ kept.same_reader.2);
      same_writer = kept.same_writer;
      copied = kept.copied ++ take n bytes;
      size = omega (
        arith,
        kept.size,
        c.min-n.ensures,
        length-append kept.copied (take n bytes),
        length-take n bytes,
        ap length c.bytes.ensures.bytes,
        ap length c.bytes-in-parts.ensures.bytes,
      );
      passes = passes_on {v = c.use_front.new.self} bytes n kept.passes c.in_ok-need_bytes.ensures.some c.use_front.ensures.pulls
          c.bytes-in-parts.ensures.bytes c.use_front.ensures.bytes;
      wrote = wrote_then {q = take n bytes} kept.wrote (record {
        bytes = subst (λ (t : List ℕ). Appends (g.O.Sink.view c.parts.writer.sink.now).taken (g.O.Sink.view c.write_all.new.sink).taken t) whole put.wrote;
        count = omega (arith, put.count, ap length whole);
      });
      failures = put.answered.1 ∙ kept.failures;
      index = kept.index;
      links_kept = kept.links_kept;
      noted = c.note.ensures ∙ ap (λ (t : List ℕ). t ++ take n bytes) kept.noted;
      hashed = hashed_more _ _ _ kept.copied (take n bytes) c.update.ensures kept.hashed;
    }
