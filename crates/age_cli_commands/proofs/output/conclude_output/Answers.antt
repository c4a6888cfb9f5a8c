use Rattle.age_cli_commands.proofs.{concludes_all, concludes_stop}
use Rattle.age_cli_commands.proofs.output.conclude_output.Goals as goal

pub returns-in-Ok : goal.returns-in-Ok
returns-in-Ok g c = record { done = concludes_all _ _ _ _ _ _ c.args.engine c.in-Ok.ensures; unfinished = tt }

pub returns-in-Err : goal.returns-in-Err
returns-in-Err g c = record {
  done = tt;
  unfinished = λ new ending so. concludes_stop _ _ _ _ _ _ new c.args.engine c.in-Err.error ending c.in-Err.ensures so.unended so.put;
}
