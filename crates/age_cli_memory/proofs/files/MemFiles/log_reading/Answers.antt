use Rattle.std.proofs.Common.{refl}
use Rattle.age_cli_memory.proofs.{kept_one}
use Rattle.age_cli_memory.proofs.files.MemFiles.log_reading.Goals as goal

pub invariant_of-self : goal.invariant_of-self
invariant_of-self c = kept_one _ _ _ _ c.note-3.ensures (λ files q. refl) tt c.self.invariant
