use Rattle.std.proofs.lemmas.Grind.{common_steps}
use Rattle.std.proofs.Common.{refl, length, ap, sym, subst, ◌∙◌, arith, ℕ, ◌++◌}
use Rattle.age_io.proofs.{Consumes-nil}
use Rattle.std.proofs.lemmas.List.{length-append}
use Rattle.age_keys.specs.inner.{box_valid, opens, seals}
use Rattle.age_file_encrypt.specs.inner.{ports_of, front_of}
use Rattle.age_file_input.specs.{start_at, reader_view, view_of_reader, Pulled}
use Rattle.age_file_position.specs.inner.{view_of_writer}
use Rattle.age_file_input.proofs.ReadLemmas.{err_is, nothing_pulled}
use Rattle.age_file_position.proofs.MarkLemmas.{wrote_none}
use Rattle.age_file_encrypt.proofs.SealLemmas.{sealing_failed, cut_source, front_begins, no_front, moved, source_fails, room_left}
use Rattle.age_chunk.specs.{chunk_length}
use Rattle.age_file_encrypt.proofs.payload.seal_all.Goals as goal

pub pulls-init : goal.pulls-init
pulls-init g c = grind (arith, common_steps, Consumes-nil, no_front, wrote_none)

pub returns-in_err-refill-clause-sealed : goal.returns-in_err-refill-clause-sealed
returns-in_err-refill-clause-sealed g c =
    let kept = c.pulls.invariant in
    let r = c.in_err-refill.ensures.refills in
    let all = nothing_pulled r r.answered.0 kept.pulled in
    let key = seals c.args.key.now in
    let old = ports_of g.S.Source.view g.O.Sink.view c.args.reader.now c.args.writer.now in
    rw (err_is c.from_residual.result c.from_residual.ensures.1) (sealing_failed (record {
      text = kept.text;
      out = front_of key chunk_length kept.text;
      moved = moved all kept.sealed.wrote;
      prefix = front_begins key chunk_length kept.text;
      fails = source_fails key chunk_length old (view_of_reader g.S.Source.view c.pulls.reader)
          (reader_view (g.S.Source.view c.refill.new.source) c.refill.new.self) (g.O.Sink.view c.pulls.writer.sink.now) kept.text
          c.in_err-refill.field-0.0 (kept.unfailed, kept.sealed.same) all r.answered.2;
    }))

pub seal_piece-requires : goal.seal_piece-requires
seal_piece-requires g c =
    let kept = c.pulls.invariant in
    record {
      key = c.args.key.now;
      first = view_of_writer g.O.Sink.view c.args.writer.now;
      text = kept.text;
      sealed = kept.sealed;
      small = omega (arith, kept.pulled.small, kept.pulled.most, c.bytes.ensures.most);
      count = c.requires.room;
    }

pub returns-in_err-seal_piece-clause-sealed : goal.returns-in_err-seal_piece-clause-sealed
returns-in_err-seal_piece-clause-sealed g c =
    let p = err_is c.from_residual-in_err-seal_piece.result c.from_residual-in_err-seal_piece.ensures.1 in
    let kept = c.pulls.invariant in
    let r = rw c.if-branch.true at c.in_ok-refill.ensures.refills in
    let all = rw (← c.bytes.ensures.bytes) at (r.pulled (start_at (g.S.Source.view c.args.reader.now.source.now).supply) kept.text kept.pulled) in
    rw p (cut_source (r.answered.4 ∙ kept.unfailed) all (c.in_err-seal_piece.ensures.sealed c.args.key.now _ kept.text kept.sealed))

pub pulls-preserved : goal.pulls-preserved
pulls-preserved g c =
    let kept = c.pulls.invariant in
    let r = rw c.if-branch.true at c.in_ok-refill.ensures.refills in
    let piece = c.bytes.result.now in
    let start = start_at (g.S.Source.view c.args.reader.now.source.now).supply in
    let all = rw (← c.bytes.ensures.bytes) at (r.pulled start kept.text kept.pulled) in
    record {
      same_reader = (kept.same_reader.0, kept.same_reader.1, c.in_ok-refill.ensures.named ∙ kept.same_reader.2);
      same_writer = c.in_ok-seal_piece.ensures.same_writer ∙ kept.same_writer;
      text = kept.text ++ piece;
      pulled = subst (λ (k : ℕ). Pulled start (g.S.Source.view c.refill.new.source).supply k (kept.text ++ piece)) (sym c.use_all.ensures.pulls) all;
      unread = c.use_all.ensures.bytes;
      plain_is = omega (arith, kept.plain_is, length-append {A = ℕ}, ap length (c.bytes.ensures.bytes ∙ sym c.bytes-in-pulls.ensures.bytes));
      sealed = c.in_ok-seal_piece.ensures.sealed c.args.key.now _ kept.text kept.sealed;
      unfailed = r.answered.4 ∙ kept.unfailed;
    }

pub finish-requires-clause-sealed : goal.finish-requires-clause-sealed
finish-requires-clause-sealed g c =
    let kept = c.pulls.invariant in
    record {
      key = c.args.key.now;
      first = view_of_writer g.O.Sink.view c.args.writer.now;
      text = kept.text;
      sealed = kept.sealed;
      small = omega (arith, kept.pulled.small, kept.pulled.most);
      count = c.requires.room;
    }

pub finish-requires-clause-room : goal.finish-requires-clause-room
finish-requires-clause-room g c = room_left seals opens box_valid (omega arith) (finish-requires-clause-sealed g c)

pub returns-in_err-finish-clause-sealed : goal.returns-in_err-finish-clause-sealed
returns-in_err-finish-clause-sealed g c =
    let p = err_is c.from_residual-in_err-finish.result c.from_residual-in_err-finish.ensures.1 in
    let kept = c.pulls.invariant in
    let r = rw c.if-branch.false at c.in_ok-refill.ensures.refills in
    rw p (cut_source (r.answered.3 ∙ kept.unfailed) (nothing_pulled r r.answered.0 kept.pulled)
    (c.in_err-finish.ensures.sealed c.args.key.now _ kept.text kept.sealed).1)

pub returns-clause-sealed : goal.returns-clause-sealed
returns-clause-sealed g c =
    let kept = c.pulls.invariant in
    let r = rw c.if-branch.false at c.in_ok-refill.ensures.refills in
    let last = c.in_ok-finish.ensures.sealed c.args.key.now _ kept.text kept.sealed in
    record {
      done = record {
        text = kept.text;
        few = last.0;
        moved = moved (nothing_pulled r r.answered.0 kept.pulled) last.1.0;
        at_end = r.answered.2;
        plain_is = kept.plain_is;
        none_failed = (r.answered.3 ∙ kept.unfailed, last.1.1);
      };
      counted = refl;
      fails = tt;
      flushed = c.in_ok-finish.ensures.flushed;
    }
