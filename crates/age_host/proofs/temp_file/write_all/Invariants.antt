use Rattle.std.proofs.Common.{◌-◌, ◌≤◌, length}
use Rattle.age_host.proofs.temp_file.write_all.Given as goal

abbrev pub invariant-parts : goal.invariant-parts
invariant-parts l = l.at ≤ length l.bytes

abbrev pub decreases-parts : goal.decreases-parts
decreases-parts l = length l.bytes - l.at
