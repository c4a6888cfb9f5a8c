use Rattle.age_stream.proofs.ChunkLemmas.{chunks_are_one}
use Rattle.age_stream.proofs.laws.chunks_are_one.Goals as goal

pub returns-clause-one : goal.returns-clause-one
returns-clause-one c = chunks_are_one
