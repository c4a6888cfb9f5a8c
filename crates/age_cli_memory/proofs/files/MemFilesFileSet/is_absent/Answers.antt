use Rattle.std.proofs.Common.{rules, refl}
use Rattle.age_cli_files.specs.{Absent, Present}
use Rattle.age_cli_memory.proofs.{kept_one}
use Rattle.age_cli_memory.proofs.files.MemFilesFileSet.is_absent.Goals as goal

pub invariant_of-self : goal.invariant_of-self
invariant_of-self c = kept_one _ c.self.inside.log _ (Present c.args.name.now) (search rules) (λ files q. refl) (search rules) c.self.invariant

pub invariant_of-self-2 : goal.invariant_of-self-2
invariant_of-self-2 c = kept_one _ c.self.inside.log _ (Absent c.args.name.now) (search rules) (λ files q. refl) (search rules) c.self.invariant
