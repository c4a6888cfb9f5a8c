use Rattle.std.proofs.Common.{◌∙◌, Ok, ap}
use Rattle.std.proofs.lemmas.Result.{on_ok_weaker}
use Rattle.age_cli_files.specs.{Gave, reading_of}
use Rattle.age_cli_files.specs.declared.file_set.IfMissing.TheVariants.{Fails}
use Rattle.age_cli_files.proofs.{came_one, came_then, does_then, grows_by, opened_does, opened_came, then_came}
use Rattle.age_cli.proofs.{whole_report}
use Rattle.age_cli.proofs.inspect_command.report_file.Goals as goal

pub returns-in-Err-clause-does : goal.returns-in-Err-clause-does
returns-in-Err-clause-does g c =
    opened_does g.F.In.Source.view g.F.FileSet.size Fails c.args.name.now _ _ c.open.result c.open.ensures.noted

pub returns-clause-does : goal.returns-clause-does
returns-clause-does g c =
    does_then _ _ _ (opened_does g.F.In.Source.view g.F.FileSet.size Fails c.args.name.now _ _ c.open.result c.open.ensures.noted) c.close_input-context.ensures.does

pub returns-clause-done : goal.returns-clause-done
returns-clause-done g c =
    let name = c.args.name.now in
    let In = g.F.In.Source.view in
    let first = In c.in-Ok.source in
    let last = In c.report-reported.new.input in
    let opened = opened_does In g.F.FileSet.size Fails name _ _ c.open.result c.open.ensures.noted in
    rw c.with_context.ensures (on_ok_weaker c.report-reported.result
    (λ told. (
      told.0,
      record {
        first = first;
        last = last;
        reading = record {
          unread = c.in-Ok.ensures.begun;
          size = g.F.FileSet.size c.in-Ok.source;
          found = came_then _ _ _ _ (grows_by _ _ c.close_input-context.ensures.does) _ (opened_came In g.F.FileSet.size Fails name _ _ (Ok c.in-Ok.source) c.in-Ok.ensures.noted);
          over = then_came _ _ _ _ (grows_by _ _ opened) _ (came_one _ _ (Gave (reading_of last)) (ap (λ v. v.outcomes) c.close_input-context.ensures.over));
          named = c.report-reported.ensures.named ∙ c.in-Ok.ensures.named;
        };
        whole = whole_report c.length-length.result first.supply _ told.0 c.length-length.ensures.seen told.1;
        reports = rw c.length-length.ensures.noted at told.1.reports;
      },
      told.2,
      told.3,
    )) c.report-reported.ensures.done)
