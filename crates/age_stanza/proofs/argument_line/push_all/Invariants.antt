use Rattle.std.proofs.Common.{◌≡◌, ◌≤◌, length}
use Rattle.age_stanza.specs.inner.{arguments_from, at_spaces}
use Rattle.age_stanza.proofs.argument_line.push_all.Given as goal

-- what is left gives the answer
abbrev pub invariant-loop-end : goal.invariant-loop-end
invariant-loop-end l = (arguments_from l.args (at_spaces l.rest) ≡ arguments_from l.fn.args (at_spaces l.letters)) × (length l.rest ≤ length l.letters)

abbrev pub decreases-loop-end : goal.decreases-loop-end
decreases-loop-end l = length l.rest
