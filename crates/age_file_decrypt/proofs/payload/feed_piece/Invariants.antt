use Rattle.std.proofs.Common.{length, ◌-◌, ◌≤◌, ◌++◌, ℕ, List, take, [], false}
use Rattle.age_keys.specs.inner.{opens}
use Rattle.age_file_decrypt.specs.inner.{HasReleased, FeedGoes, segment}
use Rattle.age_file_position.specs.inner.{WriterView, view_of_writer, SameWriter}
use Rattle.age_chunk.specs.{chunk_length}
use Rattle.age_file_decrypt.proofs.payload.feed_piece.Given as goal

abbrev pub invariant-loop-at : goal.invariant-loop-at
invariant-loop-at g l =
    let was = view_of_writer g.O.Sink.view l.fn.writer in
    let now = view_of_writer g.O.Sink.view l.writer in
    record {
      same : SameWriter l.fn.writer l.writer;
      within : l.at ≤ length l.piece;
      released : (key : List ℕ) (k : ℕ) (first : WriterView) (fed : List ℕ)
          → HasReleased opens chunk_length key first l.fn.opener was (segment k fed false) []
          → HasReleased opens chunk_length key first l.opener now (segment k (fed ++ take l.at l.piece) false) [];
      goes : FeedGoes opens chunk_length l.fn.opener l.opener was now (take l.at l.piece);
    }

abbrev pub decreases-loop-at : goal.decreases-loop-at
decreases-loop-at g l = length l.piece - l.at
