use Rattle.std.proofs.Common.{◌<◌, false, length, ap, arith, ◌∙◌, sym}
use Rattle.age_host_model.specs.{text_of}
use Rattle.age_host_syscalls.proofs.{out_after}
use Rattle.age_host_syscalls.proofs.overwrite.Out.truncate_after_first_write.Goals as goal

pub invariant_of-self : goal.invariant_of-self
invariant_of-self c =
    let out = c.self.invariant in
    let some : 0 < c.self.inside.written =
    omega (arith, c.requires, ap (λ v. length (text_of v.calls)) c.self.view_is, out.written) in
    out_after _ _ c.self.inside.opening _ _ _ _ _ _ out false _ _ _ some (c.truncate_stale_tail.ensures.held _ _ (omega (arith, out.written))) c.truncate_stale_tail.ensures.text (λ sound. c.in-Ok.ensures.cut _ _ out.written
    (out.begun (sym c.in-Ok.ensures.counted ∙ sound))) (λ is. omega (arith, out.indeterminate is, c.in-Ok.ensures.counted))

pub invariant_of-self-in-Err : goal.invariant_of-self-in-Err
invariant_of-self-in-Err c =
    let out = c.self.invariant in
    let some : 0 < c.self.inside.written =
    omega (arith, c.requires, ap (λ v. length (text_of v.calls)) c.self.view_is, out.written) in
    out_after _ _ c.self.inside.opening _ _ _ _ _ _ out _ _ _ _ some (c.truncate_stale_tail.ensures.held _ _ (omega (arith, out.written))) c.truncate_stale_tail.ensures.text
    (λ sound. absurd (omega (arith, sound, c.in-Err.ensures))) (λ is. omega (arith, c.in-Err.ensures))
