use Rattle.std.proofs.Common.{◌≡◌, false, drop}
use Rattle.clap.specs.Words.{App, app_of}
use Rattle.age_cli_args.specs.inner.{HasApp, has_globals, with_subcommands}
use Rattle.age_cli_args.proofs.commands.with_commands.Given as goal

abbrev pub invariant-loop-sub : goal.invariant-loop-sub
invariant-loop-sub l = (a : App) → HasApp a l.fn.bare
    → (with_subcommands (app_of l.whole) (drop l.sub-index l.subs) ≡ with_subcommands a l.subs) × (has_globals l.whole ≡ false)
