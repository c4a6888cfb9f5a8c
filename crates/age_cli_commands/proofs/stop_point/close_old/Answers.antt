use Rattle.std.proofs.Common.{ap}
use Rattle.age_cli_files.specs.{Gave, reading_of}
use Rattle.age_cli_files.proofs.{came_one, does_none}
use Rattle.age_cli_commands.proofs.stop_point.close_old.Goals as goal

pub returns-in-Some-clause-over : goal.returns-in-Some-clause-over
returns-in-Some-clause-over g c =
    let old = c.in-Some.old in
    let view = g.F.FileSet.view in
    rw c.in-Some.is (came_one (view c.args.files.now) (view c.close_input.new.self) (Gave (reading_of (g.F.In.Source.view old.source)))
    (ap (λ v. v.outcomes) c.close_input.ensures.over))

pub returns-in-None-clause-does : goal.returns-in-None-clause-does
returns-in-None-clause-does g c = does_none _
