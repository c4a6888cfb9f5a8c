use Rattle.std.proofs.Common.{◌∙◌, List, ℕ, subst, sym}
use Rattle.age_cli_files.specs.{NotedSince, HasGivenAll}
use Rattle.age_cli_commands.proofs.{opens_not}
use Rattle.age_cli_commands.proofs.resume_command.read_position.Goals as goal

pub returns-in_err-held : goal.returns-in_err-held
returns-in_err-held g c = opens_not _ c.from_residual.result c.from_residual.ensures c.read_file.ensures.does

pub returns-in_err-read-in-Some : goal.returns-in_err-read-in-Some
returns-in_err-read-in-Some g c =
    opens_not _ c.from_residual-in_err-read-in-Some.result c.from_residual-in_err-read-in-Some.ensures c.read_file.ensures.does

pub returns-in_ok-read-in-Some : goal.returns-in_ok-read-in-Some
returns-in_ok-read-in-Some g c =
    let same = sym c.as_slice.ensures.value ∙ c.in_ok-read-in-Some.ensures.read in
    record {
      done = (subst (λ (b : List ℕ). HasGivenAll (NotedSince (g.F.FileSet.view c.args.files.now) (g.F.FileSet.view c.read_file.new.files)) c.args.name.now b) same (rw c.in-Some.is at c.in_ok-held.ensures.given), c.read_file.ensures.does);
      fails = tt;
    }

pub returns-in-None : goal.returns-in-None
returns-in-None g c = record { done = tt; fails = c.read_file.ensures.does }
