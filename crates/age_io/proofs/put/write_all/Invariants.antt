use Rattle.std.proofs.Common.{length, ◌-◌, ◌≡◌, ◌+◌, ◌≤◌, take}
use Rattle.age_io.specs.Taken.{Appends}
use Rattle.age_io.proofs.put.write_all.Given as goal

abbrev pub invariant-loop-at : goal.invariant-loop-at
invariant-loop-at g l = record {
  within : l.at ≤ length l.bytes;
  wrote : Appends (g.O.Sink.view l.fn.sink).taken (g.O.Sink.view l.sink).taken (take l.at l.bytes);
  count : l.written ≡ l.fn.written + l.at;
  failed : (g.O.Sink.view l.sink).failed ≡ (g.O.Sink.view l.fn.sink).failed;
}

abbrev pub decreases-loop-at : goal.decreases-loop-at
decreases-loop-at g l = length l.bytes - l.at
