use Rattle.std.proofs.Common.{◌-◌, ◌^◌}
use Rattle.age_keys.specs.inner.{opens}
use Rattle.age_file_decrypt.specs.inner.{stage_of}
use Rattle.age_file_input.specs.{SameReader}
use Rattle.age_file_position.specs.inner.{SameWriter}
use Rattle.age_file_decrypt.proofs.PayloadLemmas.{GoesOn}
use Rattle.age_chunk.specs.{chunk_length}
use Rattle.age_file_decrypt.proofs.payload.decrypt_payload.Given as goal

abbrev pub invariant-turns : goal.invariant-turns
invariant-turns g l =
    let old = stage_of g.S.Source.view g.O.Sink.view l.fn.reader l.fn.writer in
    let now = stage_of g.S.Source.view g.O.Sink.view l.reader l.writer in
    record {
      same_reader : SameReader g.S.Source.view l.fn.reader l.reader;
      same_writer : SameWriter l.fn.writer l.writer;
      goes : GoesOn opens chunk_length l.key l.index l.opener old now;
    }

abbrev pub decreases-turns : goal.decreases-turns
decreases-turns g l = 2 ^ 63 - l.reader.intake.now.pulls
