use Rattle.std.proofs.Common.{rules, refl}
use Rattle.age_cli_memory.proofs.{kept_one}
use Rattle.age_cli_memory.proofs.files.MemFilesFileSet.known_durable_len.Goals as goal

pub invariant_of-self : goal.invariant_of-self
invariant_of-self c = kept_one _ _ _ _ c.note-2.ensures (λ files q. refl) (search rules) c.self.invariant
