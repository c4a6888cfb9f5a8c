use Rattle.age_cli_commands.proofs.{opens_not}
use Rattle.age_cli_commands.proofs.encrypt_command.read_passphrase_file.Goals as goal

pub returns-in_err-held : goal.returns-in_err-held
returns-in_err-held g c = opens_not _ c.from_residual.result c.from_residual.ensures c.read.ensures.does

pub returns-in-Some : goal.returns-in-Some
returns-in-Some g c =
    let words = c.in-Some.ensures in
    let gave = rw words.0.1 at c.in_ok-held.ensures.given in
    record { done = ((words.0.0, gave, words.0.2, words.1, words.2), c.read.ensures.does); fails = tt }

pub returns-in-None : goal.returns-in-None
returns-in-None g c = record { done = tt; fails = c.read.ensures.does }
