use Rattle.std.proofs.Common.{refl}
use Rattle.age_host_syscalls.proofs.{either_way, held_one}
use Rattle.age_host_syscalls.proofs.overwrite.truncate_stale_tail.Goals as goal

pub returns-clause-held : goal.returns-clause-held
returns-clause-held c =
    λ path opening short. either_way c.truncate.result c.truncate.ensures.ok c.truncate.ensures.err (held_one path _ opening _ _ _ (refl, short)) (held_one path _ opening _ _ _ refl)
