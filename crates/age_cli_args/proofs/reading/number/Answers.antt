use Rattle.std.proofs.Common.{◌∙◌, ℕ, ap, sym, subst, not, refl, Option}
use Rattle.std.specs.Str.Parse.{ParsesUnsigned, ExplainsUnsignedError, HasUnsignedDigitsIfOk}
use Rattle.std.proofs.lemmas.Option.{IfSome_then}
use Rattle.clap.specs.Words.{Text, found_of, one_text}
use Rattle.clap.proofs.WalkLemmas.{one_text-rows}
use Rattle.age_cli_args.specs.{IsNumber}
use Rattle.age_cli_args.proofs.{number_read, not_number, no_number, no_text, some_text, none_weaker}
use Rattle.age_cli_args.proofs.reading.number.Goals as goal

pub returns-in-Some-clause-value : goal.returns-in-Some-clause-value
returns-in-Some-clause-value c =
    let f = found_of c.args.matches.now in
    let id = c.args.id.now in
    let n = c.in-Some.n in
    IfSome_then c.work_factor_in_range.result c.work_factor_in_range.ensures.some (λ m w. subst (λ (o : Option Text). IsNumber c.args.default o m) (one_text-rows f id)
    (subst (λ (k : ℕ). IsNumber c.args.default (one_text f id) k) (sym w.0)
    (number_read (λ bs r. ParsesUnsigned 32 10 bs r × ExplainsUnsignedError 10 bs r × HasUnsignedDigitsIfOk bs r)
    (one_text f id) n c.args.default c.in-Some.ensures.none c.in-Some.ensures.value (λ t x g. g.0) w.1 w.2)))

pub returns-in-Some-clause-none : goal.returns-in-Some-clause-none
returns-in-Some-clause-none c =
    let f = found_of c.args.matches.now in
    let id = c.args.id.now in
    none_weaker c.work_factor_in_range.result _ _ (λ out m is. not_number (λ bs r. ParsesUnsigned 32 10 bs r × ExplainsUnsignedError 10 bs r × HasUnsignedDigitsIfOk bs r)
    (one_text f id) c.in-Some.n m c.args.default c.in-Some.ensures.none c.in-Some.ensures.value (λ t x g. g.0) out
    (subst (λ (o : Option Text). IsNumber c.args.default o m) (sym (one_text-rows f id)) is)) c.work_factor_in_range.ensures.none

pub returns-in-None-clause-value : goal.returns-in-None-clause-value
returns-in-None-clause-value c =
    let f = found_of c.args.matches.now in
    let id = c.args.id.now in
    let none = no_text f id c.get_str.result c.get_str.ensures (c.is_none.ensures ∙ ap not c.if-is_none.true) in
    subst (λ (o : Option Text). IsNumber c.args.default o c.args.default) (sym none ∙ one_text-rows f id) refl

pub returns-in-None-2-clause-none : goal.returns-in-None-2-clause-none
returns-in-None-2-clause-none c m is =
    let f = found_of c.args.matches.now in
    let id = c.args.id.now in
    no_number (λ bs r. ParsesUnsigned 32 10 bs r × ExplainsUnsignedError 10 bs r × HasUnsignedDigitsIfOk bs r)
    (one_text f id) m c.args.default c.in-None-2.ensures.value (λ t x g. g.0)
    (some_text f id c.get_str.result c.get_str.ensures (c.is_none.ensures ∙ ap not c.if-is_none.false))
    (subst (λ (o : Option Text). IsNumber c.args.default o m) (sym (one_text-rows f id)) is)
