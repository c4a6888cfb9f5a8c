use Rattle.age_cli_args.proofs.commands.program.Goals as goal

pub returns : goal.returns
returns c = rw c.table.ensures (c.with_commands.ensures _ c.in_ok-bare.ensures)
