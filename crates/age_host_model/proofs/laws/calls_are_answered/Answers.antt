use Rattle.age_host_model.proofs.LawLemmas.{calls_answered}
use Rattle.age_host_model.proofs.laws.calls_are_answered.Goals as goal

pub returns : goal.returns
returns c = calls_answered
