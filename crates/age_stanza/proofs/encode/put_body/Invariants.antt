use Rattle.std.proofs.Common.{◌≡◌, ◌++◌, length}
use Rattle.age_stanza.specs.{base64_text, in_lines}
use Rattle.age_stanza.proofs.encode.put_body.Given as goal

-- what was written and the lines of what is left are all the lines
abbrev pub invariant-loop-rest : goal.invariant-loop-rest
invariant-loop-rest l = l.out.items ++ in_lines (base64_text l.rest) ≡ l.fn.out.items ++ in_lines (base64_text l.body)

abbrev pub decreases-loop-rest : goal.decreases-loop-rest
decreases-loop-rest l = length l.rest
