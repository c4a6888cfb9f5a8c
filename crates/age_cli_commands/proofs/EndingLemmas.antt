-- How a command ended, or will when it is concluded.
use Rattle.std.proofs.Common.{◌≡◌, subst, sym, inl, Result, Ok, Err}
use Rattle.std.proofs.lemmas.Result.{IfErr-weaker, on_ok_weaker}
use Rattle.std.specs.Prelude.{IfSome, IsErr, IsErrAnd}
use Rattle.age_cli_files.specs.{FilesView}
use Rattle.age_cli_args.specs.declared.request.Request.{Request}
use Rattle.age_cli_common.specs.declared.command_error.CommandError.{CommandError}
use Rattle.age_cli_commands.proofs.DecryptionLemmas.{if_some}
use Rattle.age_cli_commands.specs.Effects.{Acts, Concluding, HoldsAfter}
use Rattle.age_cli_commands.specs.Done.{paths_of}
use Rattle.age_cli_commands.specs.Left.{Spares}
use Rattle.age_cli_commands.specs.declared.pending_stop.CommandFailure.{CommandFailure}
use Rattle.age_cli_commands.specs.declared.pending_stop.CommandFailure.TheVariants.{Ended}

-- ---- What is unfinished.

-- what ended is concluded as it ended
pub as_ended : (P : FilesView → Result (Unit {0}) CommandError → Type 0) (files : FilesView) (u : CommandFailure) (e : CommandError) → u ≡ Ended e → P files (Err e)
    → (new : FilesView) (ending : CommandError) → Concluding u files new ending → P new (Err ending)
as_ended P files u e is p new ending so =
    let same = subst (λ x. Concluding x files new ending) is so in subst (λ v. P v (Err ending)) (sym same.1) (subst (λ y. P files (Err y)) (sym same.0) p)

-- a command ended so
pub ended_finally : {P : FilesView → Result (Unit {0}) CommandError → Type 0} {files : FilesView} (r : Result (Unit {0}) CommandFailure) (e : CommandError)
    → IsErr r × IsErrAnd r (λ u. u ≡ Ended e) → P files (Err e) → HoldsAfter P files r
ended_finally (Ok x) e is p = absurd is.1
ended_finally {P = P} {files = files} (Err u) e is p = record { done = tt; unfinished = as_ended P files u e is.1 p }

-- what follows of it
pub finally_as : {P Q : FilesView → Result (Unit {0}) CommandError → Type 0} {files : FilesView} (r : Result (Unit {0}) CommandFailure)
    → ((new : FilesView) (ended : Result (Unit {0}) CommandError) → P new ended → Q new ended) → HoldsAfter P files r → HoldsAfter Q files r
finally_as r so p = record {
  done = on_ok_weaker r (λ all. so _ (Ok tt) all) p.done;
  unfinished = IfErr-weaker r _ _ (λ u rest new ending concluded. so new (Err ending) (rest new ending concluded)) p.unfinished;
}

-- a command that ended before its engine ran
pub acts_before : (asked : Request) {before after : FilesView} (r : Result (Unit {0}) CommandFailure) (e : CommandError) → IsErr r × IsErrAnd r (λ u. u ≡ Ended e)
    → IfSome (paths_of asked) (λ p. Spares p.to.now before after) → HoldsAfter (Acts asked before) after r
acts_before asked r e is spares = ended_finally r e is (record { done = tt; stopped = if_some (paths_of asked) (λ p s. inl s) spares })
