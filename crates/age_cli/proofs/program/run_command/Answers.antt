use Rattle.std.proofs.Common.{◌∙◌, ap, refl, subst, Some, None}
use Rattle.age_cli.specs.{IsApart, IsMadeBy}
use Rattle.age_cli_args.specs.declared.request.Request.TheVariants.{Inspect, Encrypt, Decrypt, Resume, Drill}
use Rattle.age_cli_commands.proofs.EndingLemmas.{finally_as}
use Rattle.age_cli.proofs.{does, drill_acts, inspect_acts, read_whole, so_finally}
use Rattle.age_cli.proofs.program.run_command.Goals as goal

pub returns-in-Inspect-Some : goal.returns-in-Inspect-Some
returns-in-Inspect-Some g c words made =
    rw c.to_command_result.ensures (so_finally _ (
    does _ _ _ _ (Inspect (Some c.in-Inspect-Some.name)) (subst (IsMadeBy words) (c.in-Inspect-Some.is ∙ ap Inspect (rw c.in-Inspect-Some.is at c.in-Inspect-Some.field-0-is)) made) tt
    (inspect_acts _ _ _ (Some c.in-Inspect-Some.name)) (c.report_file.ensures.does, c.report_file.ensures.done)))

pub returns-in-Inspect-None : goal.returns-in-Inspect-None
returns-in-Inspect-None g c words made =
    rw c.to_command_result-in-Inspect-None.ensures (so_finally _ (
    does _ _ _ _ (Inspect None) (subst (IsMadeBy words) (c.in-Inspect-None.is ∙ ap Inspect (rw c.in-Inspect-None.is at c.in-Inspect-None.field-0-is)) made) tt
    (inspect_acts _ _ _ None) (refl, read_whole _ _ (g.O.Sink.view c.args.output.now) (g.O.Sink.view c.report.new.output) c.report.result c.report.ensures.done)))

pub returns-in-Encrypt : goal.returns-in-Encrypt
returns-in-Encrypt g c words made =
    finally_as c.encrypt_file.result (λ after done acts. does _ _ _ _ (Encrypt c.in-Encrypt.asked) (subst (IsMadeBy words) c.in-Encrypt.is made) (subst IsApart c.in-Encrypt.is c.requires.apart) acts (refl, refl)) c.encrypt_file.ensures

pub returns-in-Decrypt : goal.returns-in-Decrypt
returns-in-Decrypt g c words made =
    finally_as c.decrypt_file.result (λ after done acts. does _ _ _ _ (Decrypt c.in-Decrypt.asked) (subst (IsMadeBy words) c.in-Decrypt.is made) (subst IsApart c.in-Decrypt.is c.requires.apart) acts (refl, refl)) c.decrypt_file.ensures

pub returns-in-Resume : goal.returns-in-Resume
returns-in-Resume g c words made =
    finally_as c.resume_file.result (λ after done acts. does _ _ _ _ (Resume c.in-Resume.asked) (subst (IsMadeBy words) c.in-Resume.is made) (subst IsApart c.in-Resume.is c.requires.apart) acts (refl, refl)) c.resume_file.ensures

pub returns-in-Drill : goal.returns-in-Drill
returns-in-Drill g c words made =
    rw c.to_command_result-in-Drill.ensures (so_finally _ (
    does _ _ _ _ (Drill c.in-Drill.asked) (subst (IsMadeBy words) c.in-Drill.is made) tt
    (drill_acts _ _ _ c.in-Drill.asked) c.drill_file.ensures))
