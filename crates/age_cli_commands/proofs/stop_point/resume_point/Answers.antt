use Rattle.std.proofs.Common.{None}
use Rattle.age_cli_commands.proofs.{placed_by}
use Rattle.age_cli_commands.proofs.stop_point.resume_point.Goals as goal

pub returns-in-Some-clause-placed : goal.returns-in-Some-clause-placed
returns-in-Some-clause-placed c = rw c.in-Some.is (placed_by _ _ _ _ _ c.position_within.ensures c.later_position.ensures None)
