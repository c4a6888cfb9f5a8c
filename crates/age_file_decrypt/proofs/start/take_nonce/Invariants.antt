use Rattle.std.proofs.Common.{◌-◌, ◌≡◌, ◌≤◌, take, length}
use Rattle.age_file_input.specs.{Passes, view_of_reader, SameReader, pull_room}
use Rattle.age_file_decrypt.proofs.start.take_nonce.Given as goal

abbrev pub invariant-parts : goal.invariant-parts
invariant-parts g l = record {
  same : SameReader g.S.Source.view l.fn.reader l.reader;
  most : l.have ≤ 16;
  few : length l.reader.intake.now.bytes ≤ pull_room;
  room : length l.nonce ≡ 16;
  passes : Passes (view_of_reader g.S.Source.view l.fn.reader) (view_of_reader g.S.Source.view l.reader) (take l.have l.nonce);
}

abbrev pub decreases-parts : goal.decreases-parts
decreases-parts g l = 16 - l.have
