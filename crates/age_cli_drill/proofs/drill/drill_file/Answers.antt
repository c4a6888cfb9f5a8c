use Rattle.age_cli_files.specs.declared.file_set.IfMissing.TheVariants.{Fails}
use Rattle.age_cli_files.proofs.{does_none, does_same, does_then, opened_does}
use Rattle.age_cli_drill.proofs.drill.drill_file.Goals as goal

pub returns-then-asked-is_some : goal.returns-then-asked-is_some
returns-then-asked-is_some g c = does_none _

pub returns-in_err-check_streams : goal.returns-in_err-check_streams
returns-in_err-check_streams g c = does_same _ _ c.check_streams.ensures.same

pub returns-in_err-pass : goal.returns-in_err-pass
returns-in_err-pass g c = does_then _ _ _ (does_same _ _ c.check_streams.ensures.same) c.read_passphrase.ensures

pub returns-in_err-script : goal.returns-in_err-script
returns-in_err-script g c =
    does_then _ _ _ (does_then _ _ _ (does_same _ _ c.check_streams.ensures.same) c.read_passphrase.ensures) c.read_script.ensures

pub returns-in_err-source : goal.returns-in_err-source
returns-in_err-source g c =
    does_then _ _ _ (does_then _ _ _ (does_then _ _ _ (does_same _ _ c.check_streams.ensures.same) c.read_passphrase.ensures) c.read_script.ensures)
    (opened_does g.F.In.Source.view g.F.FileSet.size Fails c.args.asked.now.from.now _ _ c.open.result c.open.ensures.noted)

pub returns : goal.returns
returns g c =
    does_then _ _ _ (does_then _ _ _ (does_then _ _ _ (does_then _ _ _ (does_same _ _ c.check_streams.ensures.same) c.read_passphrase.ensures) c.read_script.ensures)
    (opened_does g.F.In.Source.view g.F.FileSet.size Fails c.args.asked.now.from.now _ _ c.open.result c.open.ensures.noted)) c.close_input-context.ensures.does

pub returns-in-Ok : goal.returns-in-Ok
returns-in-Ok g c =
    does_then _ _ _ (does_then _ _ _ (does_then _ _ _ (does_then _ _ _ (does_same _ _ c.check_streams.ensures.same) c.read_passphrase.ensures) c.read_script.ensures)
    (opened_does g.F.In.Source.view g.F.FileSet.size Fails c.args.asked.now.from.now _ _ c.open.result c.open.ensures.noted)) c.close_input-context.ensures.does
