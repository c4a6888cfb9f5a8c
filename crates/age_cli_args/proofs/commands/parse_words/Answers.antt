use Rattle.std.proofs.Common.{◌≡◌, ◌∙◌, ap}
use Rattle.std.proofs.lemmas.Result.{IfOk-weaker}
use Rattle.clap.specs.Words.{App, app_of, is_simple, is_simple_and_free, subcommand_of, fault_of}
use Rattle.clap.specs.Walk.{texts}
use Rattle.clap.proofs.FaultLemmas.{fails_as}
use Rattle.age_cli_args.specs.{age_tool, named, refusals}
use Rattle.age_cli_args.proofs.{is_simple-age_tool, is_free-age_tool}
use Rattle.age_cli_args.proofs.commands.parse_words.Goals as goal

pub returns-clause-matches : goal.returns-clause-matches
unfolding named
returns-clause-matches c =
    let program_is : app_of c.in_ok-program.field-0 ≡ age_tool = c.in_ok-program.ensures.0 in
    let words = texts c.args.words.now in
    let parse = c.try_get_matches_from in
    IfOk-weaker parse.result _ _ (λ m h. (h (ap is_simple program_is ∙ is_simple-age_tool)).1
    ∙ ap (λ (a : App). subcommand_of a (texts c.args.words.now)) program_is) parse.ensures.matches

pub returns-clause-refusals : goal.returns-clause-refusals
unfolding refusals
returns-clause-refusals c =
    let program_is : app_of c.in_ok-program.field-0 ≡ age_tool = c.in_ok-program.ensures.0 in
    let parse = c.try_get_matches_from in
    fails_as parse.result _ _ (ap (λ (a : App). fault_of a (texts c.args.words.now)) program_is) (parse.ensures.kinds (ap is_simple_and_free program_is
    ∙ is_free-age_tool))
