use Rattle.std.proofs.Common.{◌≤◌, ◌-◌, length, take, drop}
use Rattle.age_c.specs.{EncodesMore, IsTextPieceCall}
use Rattle.age_c.proofs.encode_piece.age_c_encode_piece.Given as goal

abbrev pub invariant-pieces : goal.invariant-pieces
invariant-pieces l = record {
  within : l.at ≤ length l.piece;
  room : l.done ≤ length l.out;
  so_far : EncodesMore l.initial.stream l.stream (take l.at l.piece) (take l.done l.out);
  fits : IsTextPieceCall l.stream (drop l.at l.piece) (length l.out - l.done);
}

abbrev pub decreases-pieces : goal.decreases-pieces
decreases-pieces l = length l.piece - l.at
