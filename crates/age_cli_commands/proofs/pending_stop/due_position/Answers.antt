use Rattle.std.proofs.Common.{inl, inr, refl, true, false, rules}
use Rattle.age_cli_files.proofs.{does_none, looked_does, looked_came}
use Rattle.age_cli_commands.proofs.pending_stop.due_position.Goals as goal

pub returns-in_default-clause-does : goal.returns-in_default-clause-does
returns-in_default-clause-does g c = does_none _

pub returns-in_default-2-clause-does : goal.returns-in_default-2-clause-does
returns-in_default-2-clause-does g c = does_none _

pub returns-then-place-gt0-clause-does : goal.returns-then-place-gt0-clause-does
returns-then-place-gt0-clause-does g c = does_none _

pub returns-then-is_absent-clause-does : goal.returns-then-is_absent-clause-does
returns-then-is_absent-clause-does g c = looked_does _ _ _ _ c.is_absent.ensures

pub returns-else-is_absent-clause-does : goal.returns-else-is_absent-clause-does
returns-else-is_absent-clause-does g c = looked_does _ _ _ _ c.is_absent.ensures

pub returns-then-is_absent-clause-due : goal.returns-then-is_absent-clause-due
returns-then-is_absent-clause-due g c =
    rw (c.in-Some-Some.is-0, c.in-Some-Some.is-1)
    (inl (refl, (λ first. looked_came _ _ _ _ c.is_absent.ensures true c.if-is_absent.true)))

pub returns-else-is_absent-clause-due : goal.returns-else-is_absent-clause-due
returns-else-is_absent-clause-due g c =
    rw (c.in-Some-Some.is-0, c.in-Some-Some.is-1)
    (inr (refl, search rules, looked_came _ _ _ _ c.is_absent.ensures false c.if-is_absent.false))
