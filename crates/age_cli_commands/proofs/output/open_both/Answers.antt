use Rattle.age_cli_files.proofs.{does_same, does_then}
use Rattle.age_cli_commands.proofs.{came_did, did_came, opens_no_out, spares_did, spares_then}
use Rattle.age_cli_commands.proofs.output.open_both.Goals as goal

pub returns-in_err-source : goal.returns-in_err-source
returns-in_err-source g c = opens_no_out _ c.from_residual.result c.from_residual.ensures (spares_did _ _ _ c.in_err-source.ensures.fails)

pub returns-in_err-prepare_save : goal.returns-in_err-prepare_save
returns-in_err-prepare_save g c =
    opens_no_out _ c.from_residual-in_err-prepare_save.result c.from_residual-in_err-prepare_save.ensures
    (spares_did _ _ _ (does_then _ _ _ c.in_ok-source.ensures.done.1 (does_same _ _ c.prepare_save.ensures)))

pub returns-in_err-out : goal.returns-in_err-out
returns-in_err-out g c =
    opens_no_out _ c.from_residual-in_err-out.result c.from_residual-in_err-out.ensures
    (spares_then _ _ _ _ (does_then _ _ _ c.in_ok-source.ensures.done.1 (does_same _ _ c.prepare_save.ensures)) c.in_err-out.ensures.fails)

pub returns : goal.returns
returns g c =
    let source = c.in_ok-source.ensures.done in
    let out = c.in_ok-out.ensures.done in
    let prepared = does_same _ _ c.prepare_save.ensures in
    let did = does_then _ _ _ source.1 prepared in
    record {
      done = (
        (
          record { given = source.0.0; taken = out.0.0; failed = out.0.1 },
          source.0.1,
          out.0.2,
          came_did out.1 _ (came_did prepared _ source.0.2),
          (λ refused. did_came did _ (out.0.3 refused)),
        ),
        does_then _ _ _ did out.1,
      );
      fails = tt;
    }
