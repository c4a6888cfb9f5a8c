use Rattle.std.proofs.Common.{rules, inr}
use Rattle.age_cli_memory.proofs.{kept_created}
use Rattle.age_cli_memory.proofs.files.MemFilesFileSet.create.Goals as goal

pub invariant_of-self : goal.invariant_of-self
invariant_of-self c =
    let kept = rw c.as_slice.ensures.value at c.is_kept-is_kept.ensures in
    kept_created _ c.self.inside.log _ c.args.clobber c.args.name.now (search rules)
    (λ refused some. let no = c.in-Ok.ensures.refused.1 (inr (kept.1 (refused, some))) in cc) c.self.invariant
