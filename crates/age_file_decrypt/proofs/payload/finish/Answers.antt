use Rattle.std.proofs.Common.{◌∙◌, [], refl, inr, arith, false}
use Rattle.age_io.proofs.{Appends-kept}
use Rattle.age_file_decrypt.specs.inner.{segment}
use Rattle.age_keys.specs.inner.{box_valid, opens, seals}
use Rattle.age_file_input.proofs.ReadLemmas.{err_is}
use Rattle.age_file_decrypt.proofs.CountLemmas.{end_released}
use Rattle.age_file_position.proofs.MarkLemmas.{wrote_none}
use Rattle.age_chunk.specs.{chunk_length}
use Rattle.age_file_decrypt.proofs.payload.finish.Goals as goal

pub returns-in_err-text-clause-ends : goal.returns-in_err-text-clause-ends
returns-in_err-text-clause-ends g c = λ key k first fed h.
    let after = rw c.in_err-text.was at c.end.follows.holds-at-none in
    record {
      unwritten = [];
      released = end_released seals opens box_valid chunk_length (omega arith) h after.key (after.stands (segment k fed false) h.stands)
          (c.in_err-text.ensures.ends.text (segment k fed false) h.stands) (wrote_none _) refl refl;
      answered = rw (err_is c.from_residual.result c.from_residual.ensures.1) (after.fault, refl, refl, refl);
    }

pub returns-in_err-write_all-clause-ends : goal.returns-in_err-write_all-clause-ends
returns-in_err-write_all-clause-ends g c = λ key k first fed h.
    let p = err_is c.from_residual-in_err-write_all.result c.from_residual-in_err-write_all.ensures.1 in
    let after = rw c.in_ok-text.was at c.end.follows.holds-at-none in
    let put = c.in_err-write_all.ensures.writes in
    record {
      unwritten = put.unwritten;
      released = end_released seals opens box_valid chunk_length (omega arith) h after.key (after.stands (segment k fed false) h.stands)
          (rw put.parts at (c.in_ok-text.ensures.ends.text (segment k fed false) h.stands))
          (record { bytes = put.wrote; count = put.count }) refl refl;
      answered = rw p (put.answered, inr (refl, after.done));
    }

pub returns-in_err-flush_all-clause-ends : goal.returns-in_err-flush_all-clause-ends
returns-in_err-flush_all-clause-ends g c = λ key k first fed h.
    let p = err_is c.from_residual-in_err-flush_all.result c.from_residual-in_err-flush_all.ensures.1 in
    let after = rw c.in_ok-text.was at c.end.follows.holds-at-none in
    let put = c.in_ok-write_all.ensures.writes in
    let flushed = c.in_err-flush_all.ensures in
    record {
      unwritten = put.unwritten;
      released = end_released seals opens box_valid chunk_length (omega arith) h after.key (after.stands (segment k fed false) h.stands)
          (rw put.parts at (c.in_ok-text.ensures.ends.text (segment k fed false) h.stands)) (record {
            bytes = Appends-kept _ _ _ _ put.wrote flushed.bytes;
            count = put.count;
          }) refl refl;
      answered = rw p (rw put.answered.1 at flushed.counted, inr (refl, after.done));
    }

pub returns-clause-ends : goal.returns-clause-ends
returns-clause-ends g c = λ key k first fed h.
    let after = rw c.in_ok-text.was at c.end.follows.holds-at-none in
    let put = c.in_ok-write_all.ensures.writes in
    let flushed = c.in_ok-flush_all.ensures in
    record {
      unwritten = put.unwritten;
      released = end_released seals opens box_valid chunk_length (omega arith) h after.key (after.stands (segment k fed false) h.stands)
          (rw put.parts at (c.in_ok-text.ensures.ends.text (segment k fed false) h.stands)) (record {
            bytes = Appends-kept _ _ _ _ put.wrote flushed.bytes;
            count = put.count;
          }) refl refl;
      answered = (after.done, put.answered.0, flushed.counted ∙ put.answered.1);
    }
