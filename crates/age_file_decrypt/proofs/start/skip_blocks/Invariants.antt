use Rattle.std.proofs.Common.{◌≡◌, ◌+◌, ◌*◌, ℕ, List, length}
use Rattle.age_file_input.specs.{Passes, view_of_reader, SameReader}
use Rattle.age_chunk.specs.{block_length}
use Rattle.age_file_decrypt.proofs.start.skip_blocks.Given as goal

abbrev pub invariant-pieces : goal.invariant-pieces
invariant-pieces g l = record {
  same : SameReader g.S.Source.view l.fn.reader l.reader;
  passed : List ℕ;
  size : length passed + l.left ≡ l.blocks * block_length;
  passes : Passes (view_of_reader g.S.Source.view l.fn.reader) (view_of_reader g.S.Source.view l.reader) passed;
}

abbrev pub decreases-pieces : goal.decreases-pieces
decreases-pieces g l = l.left
