use Rattle.std.proofs.Common.{◌≡◌, ◌≤◌, ◌-◌, length}
use Rattle.age_io.specs.{Consumes}
use Rattle.age_cli_common.proofs.first_bytes.fill_first.Given as goal

-- what was read so far
abbrev pub invariant-pieces : goal.invariant-pieces
invariant-pieces g l = record {
  read : Consumes (g.S.Source.view l.fn.source).supply (g.S.Source.view l.source).supply l.held.items;
  named : (g.S.Source.view l.source).label ≡ (g.S.Source.view l.fn.source).label;
  within : length l.held.items ≤ l.most;
  room : length l.buffer ≡ 4096;
}

abbrev pub decreases-pieces : goal.decreases-pieces
decreases-pieces g l = l.most - length l.held.items
