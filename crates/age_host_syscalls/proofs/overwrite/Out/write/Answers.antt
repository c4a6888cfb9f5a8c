use Rattle.std.proofs.Common.{◌≡◌, ◌<◌, ◌+◌, ℕ, length, take, arith, ap, sym}
use Rattle.std.proofs.lemmas.List.{length-take-le}
use Rattle.age_host_syscalls.proofs.{out_wrote, out_broke}
use Rattle.age_host_syscalls.proofs.overwrite.Out.write.Goals as goal

pub invariant_of-self-2 : goal.invariant_of-self-2
invariant_of-self-2 c =
    let n : ℕ = c.in_ok-n.n in let from = c.args.from.now in
    let claimed = rw (← c.self-2.view_is) at c.in_ok-claim.ensures.claimed in
    let long : length (take n from) ≡ n = length-take-le n from c.in_ok-n.ensures.bound in
    let some : 0 < length (take n from) = omega (arith, long, c.in_ok-n.ensures.some c.requires) in
    out_wrote _ _ c.self-2.inside.opening _ _ _ _ _ _ c.self-2.invariant (take n from) _ _ _ claimed c.in_ok-n.ensures.ok some
    (ap (λ (k : ℕ). c.self-2.inside.written + k) (sym long)) c.in_ok-n.ensures.counted

pub invariant_of-self : goal.invariant_of-self
invariant_of-self c =
    let claimed = rw (← c.self-2.view_is) at c.in_ok-claim.ensures.claimed in
    out_broke _ _ c.self-2.inside.opening _ _ _ _ _ _ c.self-2.invariant _ _ _ claimed c.in_err-n.ensures.err c.in_err-n.ensures.counted
