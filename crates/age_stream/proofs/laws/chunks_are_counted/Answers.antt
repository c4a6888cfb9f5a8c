use Rattle.age_stream.proofs.{is_counted}
use Rattle.age_stream.proofs.laws.chunks_are_counted.Goals as goal

pub returns : goal.returns
returns c = is_counted
