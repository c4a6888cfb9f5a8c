use Rattle.age_c.proofs.WrapLemmas.{encoders_are_read}
use Rattle.age_c.proofs.laws.encoders_are_read.Goals as goal

pub returns : goal.returns
returns c = encoders_are_read
