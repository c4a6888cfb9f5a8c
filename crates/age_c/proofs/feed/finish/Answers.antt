use Rattle.std.proofs.Common.{refl, take}
use Rattle.age_c.proofs.{finishes}
use Rattle.age_c.proofs.feed.finish.Goals as goal

pub returns-clause-finishes : goal.returns-clause-finishes
returns-clause-finishes c = finishes _ (take c.open_last.result c.open_last.new.out) c.args.stream.now _ c.open_last.ensures.takes refl
