use Rattle.age_stanza.proofs.FaultLemmas.{one_fault}
use Rattle.age_stanza.proofs.laws.one_fault.Goals as goal

pub returns : goal.returns
returns c = one_fault
