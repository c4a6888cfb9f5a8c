use Rattle.age_host_syscalls.proofs.{out_claimed}
use Rattle.age_host_syscalls.proofs.overwrite.Out.claim.Goals as goal

pub invariant_of-self : goal.invariant_of-self
invariant_of-self c = rw c.is_ok-self-inside.ensures.value
    (out_claimed _ _ c.self.inside.opening _ _ _ _ _ _ c.self.invariant _ _ _ c.if-self.false c.lock-locked.ensures.ok c.lock-locked.ensures.err c.lock-locked.ensures.counted)
