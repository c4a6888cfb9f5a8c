use Rattle.std.proofs.Common.{Ok, ◌∙◌}
use Rattle.age_cli_files.specs.declared.file_set.IfMissing.TheVariants.{Fails}
use Rattle.age_cli_files.proofs.{does_then, opened_does, opened_came}
use Rattle.age_cli_common.proofs.{given_if}
use Rattle.age_cli_common.proofs.first_bytes.read_file.Goals as goal

pub returns-in_err-source-clause-does : goal.returns-in_err-source-clause-does
returns-in_err-source-clause-does g c =
    opened_does g.F.In.Source.view g.F.FileSet.size Fails c.args.name.now _ _ c.open.result c.open.ensures.noted

pub returns-in-Err-clause-does : goal.returns-in-Err-clause-does
returns-in-Err-clause-does g c =
    does_then _ _ _ (opened_does g.F.In.Source.view g.F.FileSet.size Fails c.args.name.now _ _ c.open.result c.open.ensures.noted) c.close_input-context.ensures.does

pub returns-in-Ok-clause-does : goal.returns-in-Ok-clause-does
returns-in-Ok-clause-does g c =
    does_then _ _ _ (opened_does g.F.In.Source.view g.F.FileSet.size Fails c.args.name.now _ _ c.open.result c.open.ensures.noted) c.close_input-context.ensures.does

pub returns-in-Ok-clause-given : goal.returns-in-Ok-clause-given
returns-in-Ok-clause-given g c =
    let name = c.args.name.now in
    let In = g.F.In.Source.view in
    given_if name _ _ _ (In c.in_ok-source.source) (In c.read_up_to-read.new.source) _ c.in_ok-source.ensures.begun
    (opened_came In g.F.FileSet.size Fails name _ _ (Ok c.in_ok-source.source) c.in_ok-source.ensures.noted) c.close_input-context.ensures.over (c.read_up_to-read.ensures.named ∙ c.in_ok-source.ensures.named) c.in-Ok.held c.in-Ok.ensures.all
