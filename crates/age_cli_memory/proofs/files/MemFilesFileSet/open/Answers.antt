use Rattle.std.proofs.Common.{rules, refl, Some, length}
use Rattle.age_cli_files.specs.{Found}
use Rattle.age_cli_memory.proofs.{kept_one}
use Rattle.age_cli_memory.proofs.files.MemFilesFileSet.open.Goals as goal

pub invariant_of-self : goal.invariant_of-self
invariant_of-self c = kept_one _ c.self.inside.log _ (Found c.args.missing c.args.name.now (Some c.in-Some.bytes.now) (Some (length c.in-Some.bytes.now))) (search rules) (λ files q. refl) (refl, search rules, refl) c.self.invariant
