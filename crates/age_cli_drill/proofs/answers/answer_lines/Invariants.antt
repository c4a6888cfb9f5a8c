use Rattle.std.proofs.Common.{◌≡◌}
use Rattle.age_cli_drill.proofs.answers.answer_lines.Given as goal

abbrev pub invariant-loop-line : goal.invariant-loop-line
invariant-loop-line g l = l.number ≡ l.line-index
