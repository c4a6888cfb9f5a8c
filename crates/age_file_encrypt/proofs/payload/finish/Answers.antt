use Rattle.std.proofs.lemmas.Grind.{common_steps}
use Rattle.std.proofs.Common.{◌∙◌, arith}
use Rattle.age_io.proofs.{Appends-kept}
use Rattle.age_file_input.proofs.ReadLemmas.{err_is}
use Rattle.age_file_encrypt.proofs.SealLemmas.{last_cut, last_on}
use Rattle.age_file_encrypt.proofs.payload.finish.Goals as goal

pub finish-requires : goal.finish-requires
finish-requires g c = (omega arith, c.requires.sealed.sealed.feeding.unfinished)

pub returns-in_err-block-clause-sealed : goal.returns-in_err-block-clause-sealed
returns-in_err-block-clause-sealed g c = grind (arith, common_steps)

pub returns-in_err-write_all-clause-sealed : goal.returns-in_err-write_all-clause-sealed
returns-in_err-write_all-clause-sealed g c = λ key first text h.
    let put = c.in_err-write_all.ensures.writes in
    let last = c.in_ok-block.ensures.finishes in
    let is = err_is c.from_residual-in_err-write_all.result c.from_residual-in_err-write_all.ensures.1 in (
      omega (arith, last.limit, h.holds.index),
      rw is (last_cut (omega arith) h put.out put.unwritten
          (record { bytes = put.wrote; count = put.count }) (rw put.parts at (last.chunk text h.holds))
          put.answered),
    )

pub returns-in_err-flush_all-clause-sealed : goal.returns-in_err-flush_all-clause-sealed
returns-in_err-flush_all-clause-sealed g c = λ key first text h.
    let put = c.in_ok-write_all.ensures.writes in
    let last = c.in_ok-block.ensures.finishes in
    let flushed = c.in_err-flush_all.ensures in
    let is = err_is c.from_residual-in_err-flush_all.result c.from_residual-in_err-flush_all.ensures.1 in (
      omega (arith, last.limit, h.holds.index),
      rw is (last_cut (omega arith) h put.out put.unwritten (record {
        bytes = Appends-kept _ _ _ _ put.wrote flushed.bytes;
        count = put.count;
      }) (rw put.parts at (last.chunk text h.holds)) (rw put.answered.1 at flushed.counted)),
    )

pub returns-clause-sealed : goal.returns-clause-sealed
returns-clause-sealed g c = λ key first text h.
    let put = c.in_ok-write_all.ensures.writes in
    let last = c.in_ok-block.ensures.finishes in
    let flushed = c.in_ok-flush_all.ensures in (
      omega (arith, last.limit, h.holds.index),
      (
        last_on (omega arith) h put.out put.unwritten (record {
          bytes = Appends-kept _ _ _ _ put.wrote flushed.bytes;
          count = put.count;
        }) (rw put.parts at (last.chunk text h.holds)) put.answered.0,
        flushed.counted ∙ put.answered.1 ∙ h.same,
      ),
    )
