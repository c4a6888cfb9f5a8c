use Rattle.std.proofs.Common.{refl, subst, Option, Err}
use Rattle.std.specs.Prelude.{IfNone, IfSome}
use Rattle.clap.specs.Walk.{texts}
use Rattle.age_cli_args.specs.declared.request.Request.{Request}
use Rattle.age_cli.specs.{IsCausedBy, IsMadeBy}
use Rattle.age_cli.specs.declared.error.RunError.TheVariants.{Unread}
use Rattle.age_cli.proofs.{declined, for_help, help_done, refused_by, runs}
use Rattle.age_cli.proofs.program.run_words.Goals as goal

pub returns-in-Ok-Some-clause-runs : goal.returns-in-Ok-Some-clause-runs
returns-in-Ok-Some-clause-runs g c =
    let words = texts c.args.words.now in
    let made = rw c.in-Ok-Some.is at c.requires.read.made in
    let is = rw c.in-Ok-Some.is at c.in-Ok-Some.field-0-is in
    runs words _ _ c.run_and_conclude.result (c.run_and_conclude.ensures.obeys words (subst (λ (o : Option Request). IfSome o (IsMadeBy words)) is made))

pub returns-in-Ok-None-clause-runs : goal.returns-in-Ok-None-clause-runs
returns-in-Ok-None-clause-runs g c =
    let words = texts c.args.words.now in
    let unread = rw c.in-Ok-None.is at c.requires.read.unread in
    let is = rw c.in-Ok-None.is at c.in-Ok-None.field-0-is in
    rw c.report_once.ensures.same (
    runs words _ _ (Err Unread)
    (record { done = tt; cause = subst (λ (o : Option Request). IfNone o (IsCausedBy words Unread)) is unread; untouched = refl; quiet = λ no. (refl, refl) }))

pub returns-in-Err-clause-runs : goal.returns-in-Err-clause-runs
returns-in-Err-clause-runs g c =
    rw c.report_once-in-Err.ensures.same (
    let words = texts c.args.words.now in
    let did = c.answer.ensures in
    let read = rw c.in-Err.is at c.requires.read.refuses in
    let help = for_help words c.in-Err.error read.1 in
    runs words _ _ c.answer.result (declined c.answer.result (record {
      done = help_done c.answer.result _ read.0 (λ ok. help (did.asked ok)) did.prints;
      cause = refused_by words c.in-Err.error read.1 c.answer.result did.refused;
      untouched = refl;
      quiet = λ no. (refl, did.quiet (λ so. no (help so)));
    })))
