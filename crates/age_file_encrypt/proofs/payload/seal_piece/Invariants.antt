use Rattle.std.proofs.Common.{length, ◌-◌, ◌≤◌, ◌++◌, take, List, ℕ}
use Rattle.age_keys.specs.inner.{seals}
use Rattle.age_file_encrypt.specs.inner.{HasSealedFront}
use Rattle.age_file_position.specs.inner.{WriterView, view_of_writer, SameWriter}
use Rattle.age_chunk.specs.{chunk_length}
use Rattle.age_file_encrypt.proofs.payload.seal_piece.Given as goal

-- what was fed so far
abbrev pub invariant-loop-at : goal.invariant-loop-at
invariant-loop-at g l = record {
  same_writer : SameWriter l.fn.writer l.writer;
  within : l.at ≤ length l.piece;
  sealed : (key : List ℕ) (first : WriterView) (text : List ℕ)
      → HasSealedFront seals chunk_length key first l.fn.sealer (view_of_writer g.O.Sink.view l.fn.writer) text
      → HasSealedFront seals chunk_length key first l.sealer (view_of_writer g.O.Sink.view l.writer) (text ++ take l.at l.piece);
}

abbrev pub decreases-loop-at : goal.decreases-loop-at
decreases-loop-at g l = length l.piece - l.at
