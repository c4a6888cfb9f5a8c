use Rattle.std.proofs.Common.{refl}
use Rattle.age_cli_files.proofs.{all_as, does_then}
use Rattle.age_cli_commands.proofs.{came_did, did_came, opens_not}
use Rattle.age_cli_commands.proofs.resume_command.open_earlier.Goals as goal

pub returns-in_err-position : goal.returns-in_err-position
returns-in_err-position g c = opens_not _ c.from_residual.result c.from_residual.ensures c.in_err-position.ensures.fails

pub returns-in_err-source : goal.returns-in_err-source
returns-in_err-source g c = opens_not _ c.from_residual-in_err-source.result c.from_residual-in_err-source.ensures
    (does_then _ _ _ c.in_ok-position.ensures.done.1 c.in_err-source.ensures.fails)

pub returns : goal.returns
returns g c =
    let position = c.in_ok-position.ensures.done in
    let old = c.in_ok-source.ensures.done in
    record {
      done = (
        (all_as _ _ (came_did old.1) _ _ position.0, refl, old.0.1, (old.0.0, did_came position.1 _ (rw c.missing_at.ensures at old.0.2))),
        does_then _ _ _ position.1 old.1,
      );
      fails = tt;
    }
