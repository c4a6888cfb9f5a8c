use Rattle.std.proofs.lemmas.Grind.{common_steps}
use Rattle.std.proofs.Common.{arith}
use Rattle.std.proofs.lemmas.List.{take_more, map-append, append-nil, append_assoc}
use Rattle.std.proofs.lemmas.List.Folds.{concat-append}
use Rattle.age_kdf.specs.{hmac}
use Rattle.age_kdf.proofs.hmac_of_block.Goals as goal

pub loop-part-preserved : goal.loop-part-preserved
loop-part-preserved c = grind (arith, common_steps, append-nil, append_assoc, concat-append, map-append, take_more)

pub returns : goal.returns
unfolding hmac
returns c key e = grind (arith, common_steps)
