use Rattle.age_host_model.proofs.LawLemmas.{second_unchanged}
use Rattle.age_host_model.proofs.laws.second_run_changes_nothing.Goals as goal

pub returns : goal.returns
returns c = second_unchanged
