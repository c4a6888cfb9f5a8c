use Rattle.age_cli_files.proofs.{does_none}
use Rattle.age_cli_drill.proofs.drill.read_passphrase.Goals as goal

pub returns-in-None : goal.returns-in-None
returns-in-None g c = does_none _
