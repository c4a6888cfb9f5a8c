use Rattle.age_stream.proofs.GoingLemmas.{released_grows}
use Rattle.age_stream.proofs.laws.released_grows.Goals as goal

pub returns : goal.returns
returns c = released_grows
