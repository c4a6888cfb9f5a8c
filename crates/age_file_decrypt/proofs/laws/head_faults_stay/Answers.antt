use Rattle.age_file_input.proofs.ReadLemmas.{fault_if_shown}
use Rattle.age_file_decrypt.proofs.laws.head_faults_stay.Goals as goal

pub returns : goal.returns
returns c = fault_if_shown
