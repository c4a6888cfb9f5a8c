use Rattle.std.proofs.Common.{length, ◌-◌, ◌≡◌, ◌≤◌, take, false}
use Rattle.age_io.specs.Taken.{Appends}
use Rattle.age_stream.specs.{Holds}
use Rattle.age_chunk.specs.{sealed_before_last, block_bytes, chunk_length}
use Rattle.age_examples.proofs.sealing.seal_to.Given as goal

abbrev pub invariant-loop-at : goal.invariant-loop-at
invariant-loop-at g l =
    record {
      within : l.at ≤ length l.text;
      unfinished : l.sealer.finished ≡ false;
      unfailed : l.sealer.failed ≡ false;
      key : l.sealer.key ≡ l.key;
      holds : Holds chunk_length l.sealer (take l.at l.text);
      wrote : Appends (g.O.Sink.view l.initial.sink).taken (g.O.Sink.view l.sink).taken
          (block_bytes (sealed_before_last (g.B.ChunkBox.sealing l.key) chunk_length (take l.at l.text)));
    }

abbrev pub decreases-loop-at : goal.decreases-loop-at
decreases-loop-at g l = length l.text - l.at
