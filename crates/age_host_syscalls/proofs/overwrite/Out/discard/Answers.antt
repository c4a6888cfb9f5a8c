use Rattle.std.proofs.Common.{refl}
use Rattle.age_host_syscalls.proofs.{touches_removed, saves_discarded, touches_now}
use Rattle.age_host_syscalls.proofs.overwrite.Out.discard.Goals as goal

pub returns-clause-kept : goal.returns-clause-kept
returns-clause-kept c =
    let removed = rw c.as_str.ensures.value at c.remove_if_empty.ensures.removed in
    rw (← c.self.view_is)
    (λ sound none. saves_discarded _ _ c.self.inside.opening _ _ (c.self.invariant.fresh sound none) removed c.remove_if_empty.ensures.there)

pub returns-clause-within : goal.returns-clause-within
returns-clause-within c =
    let removed = rw c.as_str.ensures.value at c.remove_if_empty.ensures.removed in
    rw (← c.self.view_is) (touches_removed _ _ _ removed (touches_now _ _ _ _ _ _ _ _ _ c.self.invariant _ refl))
