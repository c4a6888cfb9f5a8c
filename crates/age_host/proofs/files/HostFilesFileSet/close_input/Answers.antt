use Rattle.std.proofs.Common.{arith}
use Rattle.std.proofs.lemmas.Grind.{common_steps}
use Rattle.age_cli_files.proofs.{does_only, gave_puts}
use Rattle.age_host.proofs.files.HostFilesFileSet.close_input.Goals as goal

pub returns-clause-does : goal.returns-clause-does
returns-clause-does g = grind (arith, common_steps, does_only, gave_puts)
