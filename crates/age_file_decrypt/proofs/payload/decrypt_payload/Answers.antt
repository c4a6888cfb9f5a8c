use Rattle.std.proofs.Common.{◌∙◌, ap, refl, length, arith}
use Rattle.age_stream.specs.{has_failed}
use Rattle.age_file_decrypt.specs.inner.{stage_of}
use Rattle.age_keys.specs.inner.{box_valid, opens, seals}
use Rattle.age_file_input.proofs.ReadLemmas.{err_is}
use Rattle.age_file_decrypt.proofs.PayloadLemmas.{begins, fed_all, feed_stops, pulled_more, pulled_none, pull_stops, pour_stopped, pour_ended}
use Rattle.age_file_decrypt.proofs.CountLemmas.{released_none}
use Rattle.age_chunk.specs.{chunk_length}
use Rattle.age_file_decrypt.proofs.payload.decrypt_payload.Goals as goal

pub turns-init : goal.turns-init
turns-init g c =
    let old = stage_of g.S.Source.view g.O.Sink.view c.args.reader.now c.args.writer.now in
    record {
      same_reader = (refl, refl, refl);
      same_writer = refl;
      goes = begins opens chunk_length c.args.key.now c.args.index c.at-opener.result old
          (omega (arith, ap (λ o. length o.held) c.at-opener.ensures.view, c.requires.room.0)) c.requires.room.1
          (ap (λ o. has_failed o.status) c.at-opener.ensures.view) (released_none seals opens box_valid
          chunk_length (omega arith) old.writer c.args.index (ap (λ o. o.key) c.at-opener.ensures.view) c.at-opener.ensures.stands)
          c.requires.goes_on;
    }

pub returns-in_err-feed_piece-clause-decrypts : goal.returns-in_err-feed_piece-clause-decrypts
returns-in_err-feed_piece-clause-decrypts g c =
    let stops = feed_stops opens chunk_length _ _ _ c.turns.reader.intake.now _ c.bytes.ensures.bytes refl c.turns.invariant.goes
    c.in_err-feed_piece.field-0.0 c.in_err-feed_piece.ensures.fed in
    rw (err_is c.from_residual.result c.from_residual.ensures.1) (pour_stopped seals opens box_valid chunk_length (omega arith) _ _ _ _ _ _ stops)

pub returns-in_err-refill-clause-decrypts : goal.returns-in_err-refill-clause-decrypts
returns-in_err-refill-clause-decrypts g c =
    let p = err_is c.from_residual-in_err-refill.result c.from_residual-in_err-refill.ensures.1 in
    let goes = fed_all opens chunk_length _ _ _ c.use_all.new.self _ c.bytes.ensures.bytes c.use_all.ensures.pulls c.turns.invariant.goes
    c.use_all.ensures.bytes c.in_ok-feed_piece.ensures.fed c.in_ok-feed_piece.ensures.goes in
    let stops = pull_stops opens chunk_length _ _ _ c.use_all.ensures.bytes goes c.in_err-refill.field-0.0 c.in_err-refill.ensures.refills in
    rw p (pour_stopped seals opens box_valid chunk_length (omega arith) _ _ _ _ _ _ stops)

pub turns-preserved : goal.turns-preserved
turns-preserved g c =
    let goes = fed_all opens chunk_length _ _ _ c.use_all.new.self _ c.bytes.ensures.bytes c.use_all.ensures.pulls c.turns.invariant.goes
    c.use_all.ensures.bytes c.in_ok-feed_piece.ensures.fed c.in_ok-feed_piece.ensures.goes in
    let same = c.turns.invariant.same_reader in
    record {
      same_reader = (same.0, same.1, c.in_ok-refill.ensures.named ∙ same.2);
      same_writer = c.in_ok-feed_piece.ensures.same ∙ c.turns.invariant.same_writer;
      goes = pulled_more opens chunk_length _ _ _ c.use_all.ensures.bytes goes (rw c.if-not-branch.false at c.in_ok-refill.ensures.refills);
    }

pub returns-clause-decrypts : goal.returns-clause-decrypts
returns-clause-decrypts g c =
    let goes = fed_all opens chunk_length _ _ _ c.use_all.new.self _ c.bytes.ensures.bytes c.use_all.ensures.pulls c.turns.invariant.goes
    c.use_all.ensures.bytes c.in_ok-feed_piece.ensures.fed c.in_ok-feed_piece.ensures.goes in
    let ends = pulled_none opens chunk_length _ _ _ c.use_all.ensures.bytes goes (rw c.if-not-branch.true at c.in_ok-refill.ensures.refills) in
    pour_ended seals opens box_valid chunk_length (omega arith) _ _ _ _ _ _ _ c.finish.result ends c.finish.ensures.ends c.finish.ensures.flushed
