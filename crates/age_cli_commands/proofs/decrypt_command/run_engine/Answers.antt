use Rattle.std.proofs.Common.{refl}
use Rattle.age_cli_commands.proofs.decrypt_command.run_engine.Goals as goal

pub returns-in-None-clause-decrypts : goal.returns-in-None-clause-decrypts
returns-in-None-clause-decrypts g c = rw c.in-None.is c.decrypt_marked.ensures.decrypts

pub returns-in-None-clause-old : goal.returns-in-None-clause-old
returns-in-None-clause-old g c = rw c.in-None.is tt

pub returns-in-Some-clause-decrypts : goal.returns-in-Some-clause-decrypts
returns-in-Some-clause-decrypts g c = rw c.in-Some.is c.resume_marked.ensures.resumes

pub returns-in-Some-clause-old : goal.returns-in-Some-clause-old
returns-in-Some-clause-old g c = rw c.in-Some.is (refl, c.resume_marked.ensures.old_named)
