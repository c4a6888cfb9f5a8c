use Rattle.std.proofs.Common.{refl}
use Rattle.age_cli_args.specs.{age_tool, encrypting, decrypting, resuming, inspecting, drilling}
use Rattle.age_cli_args.proofs.commands.table.Goals as goal

pub returns : goal.returns
unfolding age_tool encrypting decrypting resuming inspecting drilling
returns c = refl
