use Rattle.age_stream.proofs.LawLemmas.{closed_stays}
use Rattle.age_stream.proofs.laws.closed_stays.Goals as goal

pub returns-clause-closed : goal.returns-clause-closed
returns-clause-closed c = closed_stays
