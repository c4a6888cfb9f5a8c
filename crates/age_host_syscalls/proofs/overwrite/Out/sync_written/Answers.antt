use Rattle.std.proofs.Common.{◌<◌, arith}
use Rattle.age_host_syscalls.proofs.{some_claimed, out_waited, out_broke}
use Rattle.age_host_syscalls.proofs.overwrite.Out.sync_written.Goals as goal

pub invariant_of-self : goal.invariant_of-self
invariant_of-self c =
    let some : 0 < c.self.inside.written = omega (arith, c.if-self-eq0.false) in
    out_waited _ _ c.self.inside.opening _ _ _ _ _ _ c.self.invariant _ _ some c.in-Ok.ensures.ok c.in-Ok.ensures.counted

pub invariant_of-self-in-Err : goal.invariant_of-self-in-Err
invariant_of-self-in-Err c =
    let some : 0 < c.self.inside.written = omega (arith, c.if-self-eq0.false) in
    let out = c.self.invariant in
    out_broke _ _ c.self.inside.opening _ _ _ _ _ _ out _ _ _ (some_claimed _ _ c.self.inside.opening _ _ _ _ _ _ out some) c.in-Err.ensures.err c.in-Err.ensures.counted
