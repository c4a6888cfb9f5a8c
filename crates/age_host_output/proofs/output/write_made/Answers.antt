use Rattle.age_host_output.proofs.{taken_on}
use Rattle.age_host_output.proofs.output.write_made.Goals as goal

pub returns-clause-taking : goal.returns-clause-taking
returns-clause-taking c = λ before after took taking none well.
    taken_on _ _ _ _ _ _ _ c.write_paced.ensures.goes.0 (c.in_ok-create_missing.ensures.taking before took taking none) well
