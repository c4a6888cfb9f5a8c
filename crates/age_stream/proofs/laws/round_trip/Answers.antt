use Rattle.age_stream.proofs.{comes_back}
use Rattle.age_stream.proofs.laws.round_trip.Goals as goal

pub returns : goal.returns
returns c = comes_back
