use Rattle.age_cli_files.proofs.{does_none, does_same, does_then}
use Rattle.age_cli_commands.proofs.{did_came, opens_by, opens_not}
use Rattle.age_cli_commands.proofs.decrypt_command.read_identity.Goals as goal

pub returns-in_err-choice : goal.returns-in_err-choice
returns-in_err-choice g c = opens_not _ c.from_residual.result c.from_residual.ensures (does_none _)

pub returns-in_err-check_names : goal.returns-in_err-check_names
returns-in_err-check_names g c =
    opens_not _ c.from_residual-in_err-check_names.result c.from_residual-in_err-check_names.ensures (does_same _ _ c.check_names.ensures)

pub returns-in_err-secret : goal.returns-in_err-secret
returns-in_err-secret g c =
    opens_not _ c.from_residual-in_err-secret.result c.from_residual-in_err-secret.ensures
    (does_then _ _ _ (does_same _ _ c.check_names.ensures) c.read.ensures.does)

pub returns-in_err-identity : goal.returns-in_err-identity
returns-in_err-identity g c =
    opens_not _ c.from_residual-in_err-identity.result c.from_residual-in_err-identity.ensures
    (does_then _ _ _ (does_same _ _ c.check_names.ensures) c.read.ensures.does)

pub returns : goal.returns
returns g c =
    let checked = does_same _ _ c.check_names.ensures in
    record {
      done = (opens_by (did_came checked) c.args.asked.now _ _ c.in_ok-choice.ensures c.in_ok-identity.ensures c.in_ok-secret.ensures.given, does_then _ _ _ checked c.read.ensures.does);
      fails = tt;
    }
