use Rattle.std.proofs.Common.{refl}
use Rattle.age_c.proofs.{at_fresh}
use Rattle.age_c.proofs.start.reader_after.Goals as goal

pub returns-clause-start : goal.returns-clause-start
returns-clause-start c = at_fresh _ refl
