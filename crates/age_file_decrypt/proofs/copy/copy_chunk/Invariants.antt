use Rattle.std.proofs.Common.{◌≡◌, ◌+◌, ◌++◌, ℕ, List, length}
use Rattle.std.specs.Prelude.{IfSome}
use Rattle.age_file_position.specs.{chain}
use Rattle.sha2.specs.Hashers.{Holds256}
use Rattle.age_file_input.specs.{Passes, view_of_reader, SameReader}
use Rattle.age_file_position.specs.inner.{view_of_writer, Wrote, SameWriter}
use Rattle.age_chunk.specs.{chunk_length}
use Rattle.age_file_decrypt.proofs.copy.copy_chunk.Given as goal

-- what was copied so far
abbrev pub invariant-parts : goal.invariant-parts
invariant-parts g l = record {
  same_reader : SameReader g.S.Source.view l.fn.reader l.reader;
  same_writer : SameWriter l.fn.writer l.writer;
  copied : List ℕ;
  size : length copied + l.left ≡ chunk_length;
  passes : Passes (view_of_reader g.S.Source.view l.fn.reader) (view_of_reader g.S.Source.view l.reader) copied;
  wrote : Wrote (view_of_writer g.O.Sink.view l.fn.writer) (view_of_writer g.O.Sink.view l.writer) copied;
  failures : (g.O.Sink.view l.writer.sink.now).failed ≡ (g.O.Sink.view l.fn.writer.sink.now).failed;
  index : l.writer.tally.index ≡ l.fn.writer.tally.index;
  links_kept : l.writer.tally.chain ≡ l.fn.writer.tally.chain;
  noted : l.chunk ≡ copied;
  hashed : IfSome l.fn.writer.tally.chain (λ links. Holds256 l.digest (chain links ++ copied));
}

abbrev pub decreases-parts : goal.decreases-parts
decreases-parts g l = l.left
