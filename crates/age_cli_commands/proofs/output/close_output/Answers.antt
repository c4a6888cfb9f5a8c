use Rattle.std.proofs.Common.{refl}
use Rattle.age_cli_commands.proofs.{closed_as}
use Rattle.age_cli_commands.proofs.output.close_output.Goals as goal

pub returns-in-Ok : goal.returns-in-Ok
returns-in-Ok g c =
    let closed = c.close.ensures in
    rw c.in-Ok.is (closed_as _ _ _ c.close.result _ _ closed.noted closed.faults closed.closed)

pub returns-in-Err : goal.returns-in-Err
returns-in-Err g c = rw c.in-Err.is (refl, c.close_after_stop.ensures)
