-- What only private code cites: how a part of the program ended, what a report of an input says, and what is
-- done of a request.
use Rattle.std.specs.Prelude.{◌≡◌, ◌≢◌, ◌⊎◌, ℕ, List, [], Option, Some, None, Result, Ok, Err, OnOk}
use Rattle.std.specs.Prelude.{IfSome, length, IfErr}
use Rattle.clap.specs.Values.{kind_of}
use Rattle.clap.specs.Words.{Text}
use Rattle.clap.specs.declared.error.Error.{Error}
use Rattle.clap.specs.declared.error.kind.ErrorKind.{ErrorKind}
use Rattle.clap.specs.declared.error.kind.ErrorKind.TheVariants.{DisplayHelp, DisplayVersion, OutOfMemory}
use Rattle.age_io.specs.Supply.{Supply}
use Rattle.age_file_inspect.specs.{Inspects, IsReport}
use Rattle.age_file_inspect.specs.declared.report.Report.{Report}
use Rattle.age_cli_files.specs.{NotedSince, Does}
use Rattle.age_cli_args.specs.{IsForHelp}
use Rattle.age_cli_args.specs.declared.request.Request.{Request}
use Rattle.age_cli_args.specs.declared.request.Request.TheVariants.{Inspect, Drill}
use Rattle.age_cli_common.specs.declared.command_error.CommandError.{CommandError}
use Rattle.age_cli_commands.specs.Effects.{Acts}
use Rattle.age_cli_commands.specs.declared.pending_stop.CommandFailure.{CommandFailure}
use Rattle.age_cli_commands.specs.declared.pending_stop.CommandFailure.TheVariants.{Ended}
use Rattle.age_cli.specs.Printing.{PrintsReport, ReportsAs, ReportsFile}
use Rattle.age_cli.specs.Runs.{IsApart, IsMadeBy, IsCausedBy, Prints, World}
use Rattle.age_cli.specs.declared.error.RunError.{RunError}
use Rattle.age_cli.specs.declared.error.RunError.TheVariants.{Words, Unread, Ended as RanSo}

-- a refusal that isn't one: help or the version is asked for
abbrev pub IsForOutput : ErrorKind → Type 0
IsForOutput kind = (kind ≡ DisplayHelp) ⊎ (kind ≡ DisplayVersion)

-- how a command without a position ended
abbrev pub ended_so : Result (Unit {0}) CommandError → Result (Unit {0}) CommandFailure
ended_so (Ok done) = Ok done
ended_so (Err e) = Err (Ended e)

-- the report of an input, which was read to its end, or whose length is this
pub record IsInspected (size : Option ℕ) (old new : Supply) (r : Report) : Type 0 where
  pub reports : ReportsAs size old new r
  pub whole : (bytes : List ℕ) → old.left ≡ Some bytes → IfSome size (λ n. n ≡ length bytes)
      → IsReport bytes r

-- ---- What a run does of what its words ask for.

-- the input and the output are as they were
abbrev pub IsQuiet : (before after : World) → Type 0
IsQuiet before after = (after.input ≡ before.input) × (after.output ≡ before.output)

-- Why words that were refused with this error weren't obeyed: for that, unless memory ran out; or a fault.
abbrev pub IsRefusedBy : Error → RunError → Type 0
IsRefusedBy error (Words e) = (e ≡ error) × (kind_of error ≢ OutOfMemory)
IsRefusedBy error Unread = ⊥
IsRefusedBy error (RanSo ending) = Unit {0}

module _ (words : List Text) (before after : World) where
  -- `inspect` reported the input, which it read to its end, or its file. Neither it nor a drill puts
  -- anything under a name; and others read no input and print nothing.
  abbrev pub DoesOther : Request → Result (Unit {0}) CommandError → Type 0
  DoesOther (Inspect None) ended = (after.files ≡ before.files) × OnOk ended
      (PrintsReport (Inspects before.input.supply after.input.supply) before.output after.output)
  DoesOther (Inspect (Some name)) ended = Does before.files after.files × OnOk ended
      (PrintsReport (ReportsFile (NotedSince before.files after.files) name.now) before.output after.output)
  DoesOther (Drill d) ended = Does before.files after.files
  DoesOther other ended = IsQuiet before after

  -- Words that make a request are obeyed. No words ask for a report of the input.
  pub record DoesRequest (ended : Result (Unit {0}) CommandError) : Type 0 where
    pub asked : Request
    pub made : IsMadeBy words asked
    pub apart : IsApart asked
    -- What was done with files.
    pub acts : Acts asked before.files after.files ended
    -- What was written to the output.
    pub answers : DoesOther asked ended

  -- Other words are refused, unless help or the version is asked for; and so are names that are equal.
  pub record Declines (ended : Result (Unit {0}) RunError) : Type 0 where
    pub done : OnOk ended ((words ≢ []) × IsForHelp words × Prints before.output after.output)
    pub cause : IfErr ended (IsCausedBy words)
    -- No file was opened, made or changed.
    pub untouched : after.files ≡ before.files
    pub quiet : (IsForHelp words → ⊥) → IsQuiet before after

  -- A run did one of these, of its words.
  abbrev pub Obeys : Result (Unit {0}) RunError → Type 0
  Obeys (Ok done) = DoesRequest (Ok done) ⊎ Declines (Ok done)
  Obeys (Err (RanSo e)) = DoesRequest (Err e) ⊎ Declines (Err (RanSo e))
  Obeys (Err other) = Declines (Err other)
