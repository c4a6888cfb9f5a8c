use Rattle.std.proofs.Common.{◌≡◌}
use Rattle.age_host_input.proofs.input.InputHandle.read.Given as goal

-- each try so far gave nothing
abbrev pub invariant-loop : goal.invariant-loop
invariant-loop l = record { given : l.given ≡ l.fn.given; is_at_end : l.is_at_end ≡ l.fn.is_at_end }
