use Rattle.age_stream.proofs.LawLemmas.{payload_is_longer}
use Rattle.age_stream.proofs.laws.payload_is_longer.Goals as goal

pub returns : goal.returns
returns c = payload_is_longer
