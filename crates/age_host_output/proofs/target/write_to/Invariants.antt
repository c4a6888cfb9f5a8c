use Rattle.std.proofs.Common.{◌≡◌}
use Rattle.age_host_output.proofs.target.write_to.Given as goal

-- each try so far wrote nothing
abbrev pub invariant-loop : goal.invariant-loop
invariant-loop g l = record { same : l.forwarded ≡ l.fn.forwarded }
