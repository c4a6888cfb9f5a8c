use Rattle.age_file_decrypt.proofs.RunLemmas.{hands_carry, writes_of, writes_all}
use Rattle.age_file_decrypt.proofs.laws.authentic_runs.Goals as goal

pub returns : goal.returns
returns g c = λ who old new written r text limit auth. (
  λ is. (writes_of r limit is.prefix text auth, hands_carry r limit is.prefix text auth),
  λ d. writes_all r limit d.whole d.done text auth,
)
