use Rattle.age_cli.proofs.program.run.Goals as goal

pub returns-clause-runs : goal.returns-clause-runs
returns-clause-runs g c = (c.run_words-ended.result, c.status.ensures, c.run_words-ended.ensures.runs)
