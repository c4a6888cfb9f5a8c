use Rattle.std.proofs.Common.{◌∙◌, sym, ap, refl}
use Rattle.std.proofs.lemmas.List.{drop_all}
use Rattle.clap.specs.Words.{App}
use Rattle.age_cli_args.specs.inner.{with_all}
use Rattle.age_cli_args.proofs.{add_one}
use Rattle.age_cli_args.proofs.commands.with_arguments.Goals as goal

pub loop-argument-init : goal.loop-argument-init
loop-argument-init c a h = (ap (λ (x : App). with_all x c.args.arguments.now) h.0, h.1)

pub loop-argument-preserved : goal.loop-argument-preserved
loop-argument-preserved c a h =
    let rest = c.loop-argument.invariant a h in
    let added = c.in_ok-whole.ensures in
    let local = c.build_arg.ensures.local in
    (add_one _ _ _ _ _ _ c.loop-argument-test.true (added.shape local) c.build_arg.ensures.rule ∙ rest.0, rw (added.globals, rest.1, local) refl)

pub returns : goal.returns
returns c a h =
    let rest = c.loop-argument.invariant a h in
    (sym (ap (with_all _) (drop_all _ _ c.loop-argument-test.false)) ∙ rest.0, rest.1)
