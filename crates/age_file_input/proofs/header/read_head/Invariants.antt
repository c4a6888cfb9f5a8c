use Rattle.std.proofs.Common.{◌-◌, ◌^◌, ◌≡◌, ℕ, [], List}
use Rattle.age_file_input.specs.Pulls.{start_at, Pulled, SameReader}
use Rattle.age_file_input.specs.inner.{IsFront}
use Rattle.age_file_input.proofs.header.read_head.Given as goal

abbrev pub invariant-pieces : goal.invariant-pieces
invariant-pieces g l = record {
  same : SameReader g.S.Source.view l.fn.reader l.reader;
  held : List ℕ;
  front : IsFront l.front held;
  pulled : Pulled (start_at (g.S.Source.view l.fn.reader.source.now).supply)
      (g.S.Source.view l.reader.source.now).supply l.reader.intake.now.pulls held;
  unread : l.reader.intake.now.bytes ≡ [];
  unfailed : (g.S.Source.view l.reader.source.now).failed ≡ (g.S.Source.view l.fn.reader.source.now).failed;
}

abbrev pub decreases-pieces : goal.decreases-pieces
decreases-pieces g l = 2 ^ 63 - l.reader.intake.now.pulls
