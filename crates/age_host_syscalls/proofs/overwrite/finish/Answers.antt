use Rattle.std.proofs.Common.{refl}
use Rattle.age_host_model.specs.{Indeterminate}
use Rattle.age_host_syscalls.proofs.{held_one, held_settled, begun_settled, on_ok, place_waited}
use Rattle.age_host_syscalls.proofs.overwrite.finish.Goals as goal

pub returns-in_err-sync_if_asked-clause-held : goal.returns-in_err-sync_if_asked-clause-held
returns-in_err-sync_if_asked-clause-held c =
    λ path opening short held. held_one path _ opening (Indeterminate _) _ _ refl c.in_err-sync_if_asked.ensures.broken (c.truncate_stale_tail.ensures.held path opening short held)

pub returns-clause-held : goal.returns-clause-held
returns-clause-held c =
    λ path opening short held. rw c.verify_unchanged.ensures.same
    (held_settled path _ opening _ _ c.in_ok-sync_if_asked.ensures.either (c.truncate_stale_tail.ensures.held path opening short held))

pub returns-clause-finished : goal.returns-clause-finished
returns-clause-finished c = on_ok c.verify_unchanged.result
    (λ synced path text counted begun. rw c.verify_unchanged.ensures.same (place_waited path _ text _ _ (c.in_ok-sync_if_asked.ensures.synced synced)
    (c.in_ok-truncate_stale_tail.ensures.cut path text counted begun)))

pub returns-clause-begun : goal.returns-clause-begun
returns-clause-begun c = on_ok c.verify_unchanged.result
    (λ path text counted begun. rw c.verify_unchanged.ensures.same (begun_settled path _ _ text _ _ c.in_ok-sync_if_asked.ensures.either
    (c.in_ok-truncate_stale_tail.ensures.cut path text counted begun)))
