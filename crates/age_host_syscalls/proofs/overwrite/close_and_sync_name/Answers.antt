use Rattle.std.proofs.Common.{refl}
use Rattle.age_host_syscalls.proofs.{held_one, held_named, closed_named, on_ok}
use Rattle.age_host_syscalls.proofs.overwrite.close_and_sync_name.Goals as goal

pub returns-in_err-close-clause-held : goal.returns-in_err-close-clause-held
returns-in_err-close-clause-held c = λ opening. held_one _ _ opening _ _ _ refl c.in_err-close.ensures.err

pub returns-clause-held : goal.returns-clause-held
returns-clause-held c =
    λ opening held. held_named _ _ opening _ _ c.sync_dir_entry.ensures.either (held_one _ _ opening _ _ _ refl c.in_ok-close.ensures.ok held)

pub returns-clause-closed : goal.returns-clause-closed
returns-clause-closed c = on_ok c.sync_dir_entry.result
    (closed_named _ _ _ _ (rw c.in_ok-close.ensures.ok refl) c.sync_dir_entry.ensures.either)
