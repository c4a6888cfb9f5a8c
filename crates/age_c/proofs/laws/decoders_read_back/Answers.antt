use Rattle.age_c.proofs.OpeningLemmas.{decoders_read_back}
use Rattle.age_c.proofs.laws.decoders_read_back.Goals as goal

pub returns : goal.returns
returns c = decoders_read_back
