use Rattle.std.proofs.Common.{◌∙◌, sym, ap, refl}
use Rattle.std.proofs.lemmas.List.{drop_all}
use Rattle.clap.specs.Words.{App}
use Rattle.age_cli_args.specs.inner.{with_subcommands}
use Rattle.age_cli_args.proofs.{add_command}
use Rattle.age_cli_args.proofs.commands.with_commands.Goals as goal

pub loop-sub-init : goal.loop-sub-init
loop-sub-init c a h = (ap (λ (x : App). with_subcommands x c.args.subs.now) h.0, h.1)

pub loop-sub-preserved : goal.loop-sub-preserved
loop-sub-preserved c a h =
    let rest = c.loop-sub.invariant a h in
    let longer = c.in_ok-whole.ensures _ (refl, rest.1) in
    (add_command _ _ _ _ _ c.loop-sub-test.true longer.0 ∙ rest.0, longer.1)

pub returns : goal.returns
returns c a h =
    let rest = c.loop-sub.invariant a h in
    (sym (ap (with_subcommands _) (drop_all _ _ c.loop-sub-test.false)) ∙ rest.0, rest.1)
