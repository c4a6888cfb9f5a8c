use Rattle.age_c.proofs.DecoderLemmas.{sought_is_right}
use Rattle.age_c.proofs.laws.sought_is_right.Goals as goal

pub returns : goal.returns
returns c = sought_is_right
