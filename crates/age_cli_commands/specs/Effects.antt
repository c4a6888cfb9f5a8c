-- A command and its files, done or not.
use Rattle.std.specs.Prelude.{◌≡◌, ℕ, Result, Ok, Err, List, [], ◌∷◌, Option, Some, None, OnOk, IfErr, ◌⊎◌}
use Rattle.std.specs.Prelude.{IfSome, ◌≤◌, ◌*◌}
use Rattle.clap.specs.Words.{Text}
use Rattle.age_chunk.specs.{chunk_length}
use Rattle.age_fault.specs.declared.fault.FileFault.{FileFault}
use Rattle.age_file_position.specs.{position_text}
use Rattle.age_file_position.specs.declared.position.Position.{Position}
use Rattle.age_cli_files.specs.{FilesView, Outcome, Absent, Present, NotedSince, HasGiven, HasGivenAll, Entry}
use Rattle.age_cli_files.specs.{PutsOnly, entry}
use Rattle.age_cli_args.specs.{option_text}
use Rattle.age_cli_args.specs.declared.request.Request.{Request}
use Rattle.age_cli_common.specs.declared.command_error.CommandError.{CommandError}
use Rattle.age_cli_commands.specs.Done.{CameFirst, paths_of, LeavesFor, OutHolds}
use Rattle.age_cli_commands.specs.Left.{stop_ending, Spares, Left}
use Rattle.age_cli_commands.specs.declared.pending_stop.StopPoint.{StopPoint}
use Rattle.age_cli_commands.specs.declared.pending_stop.PendingStop.{PendingStop}
use Rattle.age_cli_commands.specs.declared.pending_stop.CommandFailure.{CommandFailure}
use Rattle.age_cli_commands.specs.declared.pending_stop.CommandFailure.TheVariants.{Ended, Stopped as StoppedAt}

-- ---- What becomes of the position to save, by how its save went.

-- The position is due to be saved to the file of this name. One at chunk 0, from which `resume`
-- does what `decrypt` does, is due only if the set of files said that nothing has the name, and not
-- if it said that something has it, or may have it.
abbrev pub MustSave : (Came : Outcome → Type 0) → (position : Option Position) → Option Text
    → (due : Option Position) → Type 0
MustSave Came (Some p) (Some name) due = ((due ≡ Some p) × (p.index ≡ 0 → Came (Absent name)))
    ⊎ ((due ≡ None) × (p.index ≡ 0) × Came (Present name))
MustSave Came position name due = due ≡ position

-- The position was put to the file of a name, if there are both, and only if so much of OUT is
-- certain; or nothing was put.
abbrev pub IsSaved : (settled : ℕ) → Option Position → Option Text → (save : Result (Unit {0}) FileFault)
    → (puts : List Entry) → Type 0
IsSaved settled (Some p) (Some name) (Ok done) puts =
    (p.index * chunk_length ≤ settled) × (puts ≡ entry name (position_text p) ∷ [])
IsSaved settled position name save puts = puts ≡ []

-- The position was saved or not, and the ending tells how saving it went.
pub record PutsRest (save : Option Text) (fault : FileFault) (place : StopPoint)
    (old new : FilesView) (ending : CommandError) : Type 0 where
  pub how : Result (Unit {0}) FileFault
  pub reported : ending ≡ stop_ending fault how
  pub rest : List Entry
  pub puts : PutsOnly rest old new
  pub due : Option Position
  pub is_due : MustSave (NotedSince old new) place.position save due
  pub saved : IsSaved place.settled due save how rest

-- The position of this stop was saved or not, and nothing else was done.
pub record IsConcluded (s : PendingStop) (old new : FilesView) (ending : CommandError) : Type 0 where
  pub unended : new.ended ≡ old.ended
  pub put : PutsRest (option_text s.save) s.fault s.place old new ending

-- An unfinished command was concluded, with this ending.
abbrev pub Concluding : CommandFailure → (old new : FilesView) → CommandError → Type 0
Concluding (Ended e) old new ending = (ending ≡ e) × (new ≡ old)
Concluding (StoppedAt s) old new ending = IsConcluded s old new ending

-- `P` holds of the files and of how a command ended: at once if it is done, and otherwise however
-- it is concluded.
pub record HoldsAfter (P : FilesView → Result (Unit {0}) CommandError → Type 0) (files : FilesView)
    (result : Result (Unit {0}) CommandFailure) : Type 0 where
  pub done : OnOk result (P files (Ok tt))
  pub unfinished : IfErr result
      (λ u. (new : FilesView) (ending : CommandError) → Concluding u files new ending → P new (Err ending))

-- ---- What holds before and after a command.

-- The command is done, and OUT is what was requested, of what the named files gave before anything
-- was put. Or it isn't done, and no output is touched, or OUT is left with a beginning of that.
pub record Acts (asked : Request) (before after : FilesView) (ended : Result (Unit {0}) CommandError) : Type 0 where
  pub done : OnOk ended (let First = CameFirst before after in
      LeavesFor (HasGivenAll First) (HasGiven First) (OutHolds before after) asked)
  pub stopped : IfErr ended (λ ending. IfSome (paths_of asked) (λ p.
      Spares p.to.now before after ⊎ Left asked p before after ending))
