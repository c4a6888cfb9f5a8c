use Rattle.age_cli_files.proofs.{does_none}
use Rattle.age_cli_common.proofs.identity_option.IdentityOption.read.Goals as goal

pub returns-in-FileKey-clause-does : goal.returns-in-FileKey-clause-does
returns-in-FileKey-clause-does g c = does_none _
