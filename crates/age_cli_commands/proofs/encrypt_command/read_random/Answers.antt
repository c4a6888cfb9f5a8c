use Rattle.std.proofs.Common.{◌∙◌}
use Rattle.age_cli_files.proofs.{does_then}
use Rattle.age_cli_common.proofs.{given_so}
use Rattle.age_cli_commands.proofs.{opens_not}
use Rattle.age_cli_commands.proofs.encrypt_command.read_random.Goals as goal

pub returns-in_err-source : goal.returns-in_err-source
returns-in_err-source g c = opens_not _ c.from_residual.result c.from_residual.ensures c.in_err-source.ensures.fails

pub returns-in-Err : goal.returns-in-Err
returns-in-Err g c = record { done = tt; fails = does_then _ _ _ c.in_ok-source.ensures.done.1 c.close_input-context.ensures.does }

pub returns-in-Some : goal.returns-in-Some
returns-in-Some g c =
    let name = c.args.name.now in
    let source = c.in_ok-source.ensures.done in
    let over = c.close_input-context.ensures.over in
    let first = g.F.In.Source.view c.in_ok-source.source in
    let last = g.F.In.Source.view c.read_first-read.new.source in
    record {
      done = (
        (c.in-Ok.bytes.items, given_so name _ _ _ first last _ source.0.0 source.0.2 over (c.read_first-read.ensures.named ∙ source.0.1) _ c.in-Ok.ensures.first.read, rw c.as_slice.ensures.value at c.in-Some.ensures),
        does_then _ _ _ source.1 c.close_input-context.ensures.does,
      );
      fails = tt;
    }

pub returns : goal.returns
returns g c = record { done = tt; fails = does_then _ _ _ c.in_ok-source.ensures.done.1 c.close_input-context.ensures.does }
