use Rattle.age_cli_files.proofs.{does_none, settled_does}
use Rattle.age_cli_commands.proofs.output.durable_len_at_end.Goals as goal

pub returns-then-is_none-clause-does : goal.returns-then-is_none-clause-does
returns-then-is_none-clause-does g c = does_none _

pub returns-then-is_stopped-clause-does : goal.returns-then-is_stopped-clause-does
returns-then-is_stopped-clause-does g c = settled_does _ _ _ _ _ c.durable_len.ensures.noted

pub returns-else-is_stopped-clause-does : goal.returns-else-is_stopped-clause-does
returns-else-is_stopped-clause-does g c = settled_does _ _ _ _ _ c.known_durable_len.ensures.noted
