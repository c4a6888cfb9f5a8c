use Rattle.std.proofs.lemmas.Grind.{common_steps}
use Rattle.std.proofs.Common.{arith}
use Rattle.age_host_paths.proofs.metadata.numbers_are_apart.Goals as goal

pub returns : goal.returns
returns c one other first second same = grind (arith, common_steps)
