use Rattle.age_file_decrypt.proofs.RunLemmas.{bound, bound_done}
use Rattle.age_file_decrypt.proofs.laws.bound_positions.Goals as goal

pub returns-clause-runs : goal.returns-clause-runs
returns-clause-runs g c = λ who text p old new written r binds is. bound (g.U.Unlock.allows who) text p old new written r binds is

pub returns-clause-done : goal.returns-clause-done
returns-clause-done g c = λ who text p old new written r binds d. bound_done (g.U.Unlock.allows who) text p old new written r binds d
