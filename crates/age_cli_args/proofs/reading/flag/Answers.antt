use Rattle.std.proofs.Common.{◌∙◌, ap, false}
use Rattle.std.specs.Prelude.{bytes_eq, codes, Option}
use Rattle.std.specs.Option.{option_map_or}
use Rattle.std.specs.Str.Parse.{ParsesBool}
use Rattle.clap.specs.Words.{Text, found_of, one_text}
use Rattle.clap.proofs.WalkLemmas.{one_text-rows}
use Rattle.age_cli_args.proofs.{flag_read}
use Rattle.age_cli_args.proofs.reading.flag.Goals as goal

pub returns : goal.returns
returns c =
    c.unwrap_or.ensures
    ∙ (flag_read (λ t x. ParsesBool t x) (one_text (found_of c.args.matches.now) c.args.id.now) c.get_one.result c.get_one.ensures.none c.get_one.ensures.value
    (λ t x g. g)
    ∙ ap (λ (o : Option Text). option_map_or (λ t. bytes_eq t (codes "true")) o false) (one_text-rows (found_of c.args.matches.now) c.args.id.now))
