use Rattle.std.proofs.Common.{◌≡◌, false, drop}
use Rattle.clap.specs.Words.{App, app_of}
use Rattle.age_cli_args.specs.inner.{HasApp, has_globals, with_all}
use Rattle.age_cli_args.proofs.commands.with_arguments.Given as goal

abbrev pub invariant-loop-argument : goal.invariant-loop-argument
invariant-loop-argument l = (a : App) → HasApp a l.fn.plain
    → (with_all (app_of l.whole) (drop l.argument-index l.arguments) ≡ with_all a l.arguments)
    × (has_globals l.whole ≡ false)
