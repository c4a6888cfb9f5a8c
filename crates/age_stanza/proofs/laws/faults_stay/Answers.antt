use Rattle.age_stanza.proofs.{more_fault}
use Rattle.age_stanza.proofs.laws.faults_stay.Goals as goal

pub returns : goal.returns
returns c = more_fault
