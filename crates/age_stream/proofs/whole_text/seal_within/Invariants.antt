use Rattle.std.proofs.Common.{◌≡◌, ◌-◌, ◌≤◌, ◌++◌, length, take, false, vec_capacity}
use Rattle.age_stream.specs.{Holds}
use Rattle.age_chunk.specs.{sealed_before_last, block_bytes}
use Rattle.age_stream.proofs.whole_text.seal_within.Given as goal
use Rattle.age_chunk.specs.{text_length}

abbrev pub invariant-loop-at : goal.invariant-loop-at
invariant-loop-at g l =
    record {
      within : l.at ≤ length l.text;
      open_ : l.sealer.finished ≡ false;
      sound : l.sealer.failed ≡ false;
      key : l.sealer.key ≡ l.key;
      holds : Holds (text_length g.row.SEALED) l.sealer (take l.at l.text);
      capacity : vec_capacity l.fn.out ≤ vec_capacity l.out;
      blocks : l.out.items ≡ l.fn.out.items ++ block_bytes (sealed_before_last (g.B.ChunkBox.sealing l.key) (text_length g.row.SEALED) (take l.at l.text));
    }

abbrev pub decreases-loop-at : goal.decreases-loop-at
decreases-loop-at g l = length l.text - l.at
