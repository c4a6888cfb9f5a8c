use Rattle.age_c.proofs.DecoderLemmas.{decoders_are_right}
use Rattle.age_c.proofs.laws.decoders_are_right.Goals as goal

pub returns : goal.returns
returns c = decoders_are_right
