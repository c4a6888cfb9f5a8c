use Rattle.std.proofs.Common.{◌≡◌, ◌*◌, ℕ, List, length}
use Rattle.std.specs.Simd.{first_chunks}
use Rattle.age_file_position.specs.{chain_if}
use Rattle.age_file_input.specs.{Passes, view_of_reader, SameReader}
use Rattle.age_file_position.specs.inner.{view_of_writer, Wrote, SameWriter}
use Rattle.age_file_position.specs.declared.position.PositionPolicy.TheVariants.{Kept}
use Rattle.age_chunk.specs.{chunk_length}
use Rattle.age_file_decrypt.proofs.copy.copy_chunks.Given as goal

-- the chunks that were copied so far
abbrev pub invariant-loop-copied : goal.invariant-loop-copied
invariant-loop-copied g l = record {
  same_reader : SameReader g.S.Source.view l.fn.reader l.reader;
  same_writer : SameWriter l.fn.writer l.writer;
  out : List ℕ;
  size : length out ≡ l._copied * chunk_length;
  passes : Passes (view_of_reader g.S.Source.view l.fn.reader) (view_of_reader g.S.Source.view l.reader) out;
  wrote : Wrote (view_of_writer g.O.Sink.view l.fn.writer) (view_of_writer g.O.Sink.view l.writer) out;
  failures : (g.O.Sink.view l.writer.sink.now).failed ≡ (g.O.Sink.view l.fn.writer.sink.now).failed;
  index : l.writer.tally.index ≡ l._copied;
  chain_is : l.writer.tally.chain ≡ chain_if Kept (first_chunks chunk_length l._copied out);
}
