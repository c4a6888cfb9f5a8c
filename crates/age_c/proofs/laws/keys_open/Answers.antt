use Rattle.age_c.proofs.WrapLemmas.{keys_open}
use Rattle.age_c.proofs.laws.keys_open.Goals as goal

pub returns : goal.returns
returns c = keys_open
