-- What a run leaves over files in memory.
use Rattle.std.specs.Borrow.{Bor}
use Rattle.std.specs.Prelude.{◌≡◌, ℕ, List, ◌++◌, Option, Some, option_map, Result}
use Rattle.clap.specs.Words.{Text}
use Rattle.age_file_inspect.specs.{IsReport}
use Rattle.age_cli_memory.specs.InMemory.{Files, Shelf, entry_of, seen_in}
use Rattle.age_cli_args.specs.Requests.{Requests}
use Rattle.age_cli_args.specs.declared.request.Request.{Request}
use Rattle.age_cli_args.specs.declared.request.Request.TheVariants.{Inspect}
use Rattle.age_cli_commands.specs.Done.{paths_of, LeavesFor}
use Rattle.age_cli_commands.specs.Left.{save_of}
use Rattle.age_cli.specs.Printing.{PrintsReport}
use Rattle.age_cli.specs.Runs.{Runs, World, status_by}
use Rattle.age_cli.specs.declared.error.RunError.{RunError}

-- The file of this name holds just these bytes.
abbrev pub FileHolds : Files → Text → List ℕ → Type 0
FileHolds files name bytes = files name ≡ Some bytes

-- The file of this name begins with these bytes.
abbrev pub FileBegins : Files → Text → List ℕ → Type 0
FileBegins files name bytes = (more : List ℕ) × (files name ≡ Some (bytes ++ more))

-- The name of OUT, if a request has one.
abbrev pub out_of : Request → Option Text
out_of asked = option_map (λ p. p.to.now) (paths_of asked)

-- A run changes only OUT and the file of `--save`, if the request has them; no file, if the command
-- line is refused; and OUT alone, if all was done.
abbrev pub SparesOthers : List Text → (old new : Files) → ℕ → Type 0
SparesOthers words old new status = ((asked : Request) → Requests words asked
    → (q : Text) → (out_of asked ≡ Some q → ⊥) → (save_of asked ≡ Some q → ⊥) → new q ≡ old q)
    × (status ≡ 2 → (q : Text) → new q ≡ old q)
    × ((asked : Request) → Requests words asked → status ≡ 0
    → (q : Text) → (out_of asked ≡ Some q → ⊥) → new q ≡ old q)

-- The file that was inspected held what was reported.
abbrev pub ReportsEntry : List Text → (old : Files) → (before after : World) → ℕ → Type 0
ReportsEntry words old before after status = (file : Bor Text) → Requests words (Inspect (Some file))
    → status ≡ 0 → (bytes : List ℕ) × FileHolds old file.now bytes
    × PrintsReport (IsReport bytes) before.output after.output

-- A run over files in memory changes no other files; and after status 0, OUT holds what was
-- requested, of what the files held.
abbrev pub RunsOverMemory : (old new : Shelf) → Type 0
RunsOverMemory old new = (words : List Text) (before after : World) (ended : Result (Unit {0}) RunError)
    → before.files ≡ seen_in old → after.files ≡ seen_in new → Runs words before after ended
    → let was = entry_of old.entries in let is = entry_of new.entries in let status = status_by ended in
    SparesOthers words was is status × ReportsEntry words was before after status
    × ((asked : Request) → Requests words asked → status ≡ 0
    → LeavesFor (FileHolds was) (FileBegins was) (λ p bytes. is p.to.now ≡ Some bytes) asked)
