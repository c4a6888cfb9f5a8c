use Rattle.age_file_decrypt.proofs.RunLemmas.{in_a_row}
use Rattle.age_file_decrypt.proofs.laws.runs_in_a_row.Goals as goal

pub returns : goal.returns
returns c = λ text last earlier few follow. in_a_row text few last earlier follow
