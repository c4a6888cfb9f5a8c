use Rattle.std.proofs.Common.{◌∙◌, length, refl, ap, sym, arith}
use Rattle.std.proofs.lemmas.Result.{on_ok_weaker}
use Rattle.age_host_model.specs.{OutView, text_of}
use Rattle.age_host_syscalls.proofs.{safe_named, placed_closed, leads_begun, on_ok_both, out_held, touches_held, touches_now, waited_for}
use Rattle.age_host_syscalls.proofs.overwrite.Out.end.Goals as goal

pub returns-in-Ok-clause-safe : goal.returns-in-Ok-clause-safe
returns-in-Ok-clause-safe c =
    λ synced sound. let closed = c.close_and_sync_name-closed.new.machine.calls in
    let same = c.claim-claimed.ensures.same in let opening = c.self.inside.opening in
    let unfailed = ap (λ (v : OutView). v.failed) c.self.view_is ∙ (c.in_default.ensures.counted ∙ sound) in
    let long = ap (λ (v : OutView). length (text_of v.calls)) c.self.view_is ∙ sym c.shape-shape.ensures in
    let claimed = rw (← c.self.view_is) at c.in_default.ensures.claimed in
    let stays = rw c.as_str.ensures.value at c.close_and_sync_name-closed.ensures.held in
    let named = rw c.as_str.ensures.value at c.close_and_sync_name-closed.ensures.named in
    let held = stays _ (c.finish-finished.ensures.held _ _ (omega (arith, long)) (out_held _ _ opening _ _ _ _ _ _ c.self.invariant claimed)) in
    rw (← same.0, ← same.2, ← c.self.view_is)
    (on_ok_weaker c.close_and_sync_name-closed.result (λ named disk answers waited. safe_named _ _ _ _ closed (placed_closed _ _ _ _ (c.in-Ok.ensures.finished synced _ _ long (c.self.invariant.begun unfailed)))
    (named synced (waited_for _ _ opening closed disk held.opened answers)) disk answers waited) named)

pub returns-in-Ok-clause-there : goal.returns-in-Ok-clause-there
returns-in-Ok-clause-there c =
    λ sound. let closed = c.close_and_sync_name-closed.new.machine.calls in
    let same = c.claim-claimed.ensures.same in
    let unfailed = ap (λ (v : OutView). v.failed) c.self.view_is ∙ (c.in_default.ensures.counted ∙ sound) in
    let long = ap (λ (v : OutView). length (text_of v.calls)) c.self.view_is ∙ sym c.shape-shape.ensures in
    let keeps = rw c.as_str.ensures.value at c.close_and_sync_name-closed.ensures.begun in
    rw (← same.0, ← same.2, ← c.self.view_is)
    (on_ok_both _ _ c.close_and_sync_name-closed.result
    (on_ok_weaker c.close_and_sync_name-closed.result (λ keeps. leads_begun _ _ _ closed (keeps _ (c.in-Ok.ensures.begun _ _ long (c.self.invariant.begun unfailed)))) keeps)
    c.close_and_sync_name-closed.ensures.closed)

pub returns-in-Ok-clause-within : goal.returns-in-Ok-clause-within
returns-in-Ok-clause-within c =
    let long = ap (λ (v : OutView). length (text_of v.calls)) c.self.view_is ∙ sym c.shape-shape.ensures in
    let claimed = rw (← c.self.view_is) at c.in_default.ensures.claimed in
    let stays = rw c.as_str.ensures.value at c.close_and_sync_name-closed.ensures.held in
    rw (← c.claim-claimed.ensures.same.0, ← c.self.view_is)
    (touches_held _ _ _ refl (stays _ (c.finish-finished.ensures.held _ _ (omega (arith, long)) (out_held _ _ c.self.inside.opening _ _ _ _ _ _ c.self.invariant claimed))))

pub returns-clause-within : goal.returns-clause-within
returns-clause-within c =
    let long = ap (λ (v : OutView). length (text_of v.calls)) c.self.view_is ∙ sym c.shape-shape.ensures in
    let claimed = rw (← c.self.view_is) at c.in_default.ensures.claimed in
    let stays = rw c.as_str.ensures.value at c.close_and_sync_name-closed.ensures.held in
    rw (← c.claim-claimed.ensures.same.0, ← c.self.view_is)
    (touches_held _ _ _ refl (stays _ (c.finish-finished.ensures.held _ _ (omega (arith, long)) (out_held _ _ c.self.inside.opening _ _ _ _ _ _ c.self.invariant claimed))))

pub returns-in-Err-clause-within : goal.returns-in-Err-clause-within
returns-in-Err-clause-within c =
    rw (← c.claim-claimed.ensures.same.0, ← c.self.view_is) (touches_now _ _ _ _ _ _ _ _ _ c.self.invariant _ refl)
