use Rattle.std.proofs.Common.{take}
use Rattle.age_c.proofs.WriterLemmas.{finishes_text}
use Rattle.age_c.proofs.feed_text.seal_rest.Goals as goal

pub returns-clause-finishes : goal.returns-clause-finishes
returns-clause-finishes c = finishes_text (take c.seal_last.result c.seal_last.new.out) c.args.stream.now _ c.seal_last.ensures.sealed
