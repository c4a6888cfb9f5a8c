use Rattle.std.proofs.Common.{◌≡◌, ◌+◌, ◌-◌, ◌*◌, ◌^◌, ◌≤◌, ◌++◌, [], ℕ, List, length}
use Rattle.age_file_input.specs.{Start, Pulled, SameReader, pull_room}
use Rattle.age_file_inspect.proofs.inspection.count_rest.Given as goal

-- the bytes that were counted
abbrev pub invariant-pulls : goal.invariant-pulls
invariant-pulls g l = record {
  same : SameReader g.S.Source.view l.fn.reader l.reader;
  passed : List ℕ;
  count_is : l.count ≡ length passed;
  small : l.count ≤ pull_room * (l.reader.intake.now.pulls + 1);
  most : l.reader.intake.now.pulls ≤ 2 ^ 63;
  pulled : (start : Start) (used : List ℕ) → Pulled start (g.S.Source.view l.fn.reader.source.now).supply l.fn.reader.intake.now.pulls
      (used ++ l.fn.reader.intake.now.bytes) → Pulled start (g.S.Source.view l.reader.source.now).supply l.reader.intake.now.pulls (used ++ passed);
  unread : l.reader.intake.now.bytes ≡ [];
  unfailed : (g.S.Source.view l.reader.source.now).failed ≡ (g.S.Source.view l.fn.reader.source.now).failed;
}

abbrev pub decreases-pulls : goal.decreases-pulls
decreases-pulls g l = 2 ^ 63 - l.reader.intake.now.pulls
