use Rattle.std.proofs.Common.{◌≡◌}
use Rattle.age_cli_commands.proofs.output.is_one_of.Given as goal

abbrev pub invariant-loop-other : goal.invariant-loop-other
invariant-loop-other g l = g.F.FileSet.view l.files ≡ g.F.FileSet.view l.fn.files
