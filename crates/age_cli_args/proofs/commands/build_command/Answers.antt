use Rattle.age_cli_args.proofs.{usage_said}
use Rattle.age_cli_args.proofs.commands.build_command.Goals as goal

pub returns : goal.returns
returns c = c.with_arguments.ensures _ (usage_said _ _ _ _ c.override_usage.ensures c.command-plain.ensures)
