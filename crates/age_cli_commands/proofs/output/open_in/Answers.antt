use Rattle.std.proofs.Common.{Ok}
use Rattle.age_cli_files.proofs.{opened_came, opened_does}
use Rattle.age_cli_commands.proofs.{opens_not}
use Rattle.age_cli_commands.proofs.output.open_in.Goals as goal

pub returns-in_err-open : goal.returns-in_err-open
returns-in_err-open g c =
    let a = c.args in
    opens_not _ c.from_residual.result c.from_residual.ensures
    (opened_does g.F.In.Source.view g.F.FileSet.size a.missing a.name.now _ _ c.open.result c.open.ensures.noted)

pub returns : goal.returns
returns g c =
    let In = g.F.In.Source.view in
    let a = c.args in
    let opened = c.in_ok-open.ensures in
    let source = c.in_ok-open.field-0 in
    record {
      done = (
        (opened.begun, opened.named, opened_came In g.F.FileSet.size a.missing a.name.now _ _ (Ok source) opened.noted),
        opened_does In g.F.FileSet.size a.missing a.name.now _ _ (Ok source) opened.noted,
      );
      fails = tt;
    }
