use Rattle.std.proofs.Common.{List, ℕ, subst}
use Rattle.age_cli_files.specs.{NotedSince, HasGiven}
use Rattle.age_cli_files.proofs.{all_as, does_same, does_then, given_as}
use Rattle.age_cli_commands.proofs.{came_did, did_came, opens_not}
use Rattle.age_cli_commands.proofs.encrypt_command.read_material.Goals as goal

pub returns-in_err-check_names : goal.returns-in_err-check_names
returns-in_err-check_names g c = opens_not _ c.from_residual.result c.from_residual.ensures (does_same _ _ c.check_names.ensures)

pub returns-in_err-pass : goal.returns-in_err-pass
returns-in_err-pass g c =
    opens_not _ c.from_residual-in_err-pass.result c.from_residual-in_err-pass.ensures (does_then _ _ _ (does_same _ _ c.check_names.ensures) c.in_err-pass.ensures.fails)

pub returns-in_err-random : goal.returns-in_err-random
returns-in_err-random g c =
    opens_not _ c.from_residual-in_err-random.result c.from_residual-in_err-random.ensures
    (does_then _ _ _ (does_then _ _ _ (does_same _ _ c.check_names.ensures) c.in_ok-pass.ensures.done.1) c.in_err-random.ensures.fails)

pub returns : goal.returns
returns g c =
    let checked = does_same _ _ c.check_names.ensures in
    let pass = c.in_ok-pass.ensures.done in
    let random = c.in_ok-random.ensures.done in
    let before = does_then _ _ _ checked pass.1 in
    let words = pass.0 in
    let parts = random.0.2 in
    record {
      done = (
        record {
          pass = (words.0, all_as _ _ (λ o came. did_came checked o (came_did random.1 o came)) _ _ words.1, words.2);
          log_is = words.3;
          within = words.4;
          rest = parts.rest;
          random_given = subst (λ (bytes : List ℕ). HasGiven (NotedSince (g.F.FileSet.view c.args.files.now) (g.F.FileSet.view c.read_random.new.files)) c.args.random_name.now bytes)
              parts.parts (given_as _ _ (did_came before) _ _ random.0.1);
          key_length = parts.key_length;
          salt_length = parts.salt_length;
          nonce_length = parts.nonce_length;
        },
        does_then _ _ _ before random.1,
      );
      fails = tt;
    }
