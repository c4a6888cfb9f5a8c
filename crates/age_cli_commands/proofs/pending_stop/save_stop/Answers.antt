use Rattle.std.proofs.Common.{Ok, Err}
use Rattle.age_cli_commands.proofs.{concluded_so}
use Rattle.age_cli_commands.proofs.pending_stop.save_stop.Goals as goal

pub returns-in-Ok : goal.returns-in-Ok
returns-in-Ok g c =
    let due = c.due_position-due in
    concluded_so _ _ _ due.ensures.does c.args.stop.now due.result due.ensures.due (Ok tt) c.in-Ok.ensures

pub returns-in-Err : goal.returns-in-Err
returns-in-Err g c =
    let due = c.due_position-due in
    rw c.new.ensures (concluded_so _ _ _ due.ensures.does c.args.stop.now due.result due.ensures.due (Err c.in-Err.error) c.in-Err.ensures)
