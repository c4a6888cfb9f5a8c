use Rattle.age_host_model.proofs.LawLemmas.{outs_answered}
use Rattle.age_host_model.proofs.laws.outs_are_answered.Goals as goal

pub returns : goal.returns
returns c = outs_answered
