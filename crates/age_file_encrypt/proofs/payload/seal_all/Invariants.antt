use Rattle.std.proofs.Common.{◌-◌, ◌^◌, ◌≡◌, ℕ, [], List, length}
use Rattle.age_keys.specs.inner.{seals}
use Rattle.age_file_encrypt.specs.inner.{HasSealedFront}
use Rattle.age_file_input.specs.{start_at, Pulled, SameReader}
use Rattle.age_file_position.specs.inner.{view_of_writer, SameWriter}
use Rattle.age_chunk.specs.{chunk_length}
use Rattle.age_file_encrypt.proofs.payload.seal_all.Given as goal

-- the text that came so far
abbrev pub invariant-pulls : goal.invariant-pulls
invariant-pulls g l = record {
  same_reader : SameReader g.S.Source.view l.fn.reader l.reader;
  same_writer : SameWriter l.fn.writer l.writer;
  text : List ℕ;
  pulled : Pulled (start_at (g.S.Source.view l.fn.reader.source.now).supply)
      (g.S.Source.view l.reader.source.now).supply l.reader.intake.now.pulls text;
  unread : l.reader.intake.now.bytes ≡ [];
  plain_is : l.plain ≡ length text;
  sealed : HasSealedFront seals chunk_length l.key (view_of_writer g.O.Sink.view l.fn.writer) l.sealer
      (view_of_writer g.O.Sink.view l.writer) text;
  unfailed : (g.S.Source.view l.reader.source.now).failed ≡ (g.S.Source.view l.fn.reader.source.now).failed;
}

abbrev pub decreases-pulls : goal.decreases-pulls
decreases-pulls g l = 2 ^ 63 - l.reader.intake.now.pulls
