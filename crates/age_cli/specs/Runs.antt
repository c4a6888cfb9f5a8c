-- What a run of the program does: read this first, and then what a command leaves, in
-- `age_cli_commands`.
use Rattle.std.specs.Prelude.{◌≡◌, ◌⊎◌, ℕ, List, [], ◌∷◌, Some, ◌≢◌, Option, None, IfSome, IsSomeAnd, Result}
use Rattle.std.specs.Prelude.{Ok, Err, OnOk, if◌then◌else◌, IfOk, IfErr, IfNone, true}
use Rattle.clap.specs.Kinds.{IsAmong}
use Rattle.clap.specs.Values.{kind_of}
use Rattle.clap.specs.Words.{Text, HasKind}
use Rattle.clap.specs.declared.error.Error.{Error}
use Rattle.age_io.specs.{SourceView, SinkView}
use Rattle.age_io.specs.Taken.{Appends}
use Rattle.age_file_inspect.specs.{Inspects}
use Rattle.age_cli_files.specs.{FilesView, HasGiven, HasGivenAll, PutsOnly, entry, Does}
use Rattle.age_cli_args.specs.{IsForHelp, option_text, refusals}
use Rattle.age_cli_args.specs.Requests.{Requests}
use Rattle.age_cli_args.specs.declared.request.Decrypting.{Decrypting}
use Rattle.age_cli_args.specs.declared.request.Paths.{Paths}
use Rattle.age_cli_args.specs.declared.request.Request.{Request}
use Rattle.age_cli_args.specs.declared.request.Request.TheVariants.{Encrypt, Decrypt, Resume, Inspect}
use Rattle.age_cli_common.specs.{is_usage}
use Rattle.age_cli_commands.specs.Done.{CameFirst, paths_of, LeavesFor, OutHolds}
use Rattle.age_cli_commands.specs.Left.{Spares, Left}
use Rattle.age_cli.specs.Printing.{PrintsReport, ReportsFile}
use Rattle.age_cli.specs.declared.error.RunError.{RunError}
use Rattle.age_cli.specs.declared.error.RunError.TheVariants.{Words, Unread, Ended}

-- The world of a run: the set of files, the input and the output.
pub record World : Type 0 where
  pub files : FilesView
  pub input : SourceView
  pub output : SinkView

-- The exit status of the program: 0 if all was done, 1 on a fault, 2 for a bad command line.
abbrev pub status_by : {A : Type 0} → Result A RunError → ℕ
status_by (Ok done) = 0
status_by (Err (Ended ending)) = if is_usage ending then 2 else 1
status_by (Err other) = 2

-- ---- What status 0 says, over any set of files.

-- If the status is 0, there were no words, or they asked for help or the version; or what they
-- request was done, with what the named files gave before anything was put.
abbrev pub ZeroLeaves : List Text → (before after : FilesView) → (status : ℕ) → Type 0
ZeroLeaves words before after status = status ≡ 0 → (words ≡ []) ⊎ (IsForHelp words
    ⊎ ((asked : Request) × Requests words asked × (let First = CameFirst before after in
    LeavesFor (HasGivenAll First) (HasGiven First) (OutHolds before after) asked)))

-- ---- Names that must differ.

-- The output has the name of no file that is read, and the earlier output isn't the input. `first`
-- and `second` are the files of the passphrase, and of the shared secret or the random bytes.
pub record IsOutputApart (from to : Text) (first second position old : Option Text) : Type 0 where
  pub input : to ≢ from
  pub pass : first ≢ Some to
  pub shared : second ≢ Some to
  pub place : position ≢ Some to
  pub earlier : old ≢ Some to
  pub old_input : old ≢ Some from

-- The file of `--save` has a name of its own, or that of the position.
pub record IsSaveApart (from to : Text) (first second old : Option Text) (save : Text) : Type 0 where
  pub output : save ≢ to
  pub input : save ≢ from
  pub pass : first ≢ Some save
  pub shared : second ≢ Some save
  pub earlier : old ≢ Some save

-- The names of a decryption differ, where they must.
abbrev pub AreApart : Decrypting → (position old : Option Text) → Type 0
AreApart d position old =
    let from = d.paths.from.now in
    let to = d.paths.to.now in
    let pass = option_text d.identity.pass in
    let shared = option_text d.identity.shared in
    IsOutputApart from to pass shared position old
    × IfSome (option_text d.save) (IsSaveApart from to pass shared old)

-- The names of a request differ, where they must.
abbrev pub IsApart : Request → Type 0
IsApart (Encrypt e) =
    IsOutputApart e.paths.from.now e.paths.to.now (Some e.pass.now) (option_text e.random) None None
IsApart (Decrypt d) = AreApart d None None
IsApart (Resume r) = AreApart r.decrypting (Some r.position.now) (Some r.old.now)
IsApart other = Unit {0}

-- ---- What a run did.

-- Some text was written, and flushed.
abbrev pub Prints : (old new : SinkView) → Type 0
Prints old new = (text : List ℕ) × (text ≢ []) × Appends old.taken new.taken text × (new.flushed ≡ true)

-- A report was written: on the input, which was read to its end, or on the file of a name.
abbrev pub Reports : (before after : World) → Option Text → Type 0
Reports before after None =
    PrintsReport (Inspects before.input.supply after.input.supply) before.output after.output
Reports before after (Some name) =
    PrintsReport (ReportsFile (CameFirst before.files after.files) name) before.output after.output

-- A report was written, if the request is for one.
abbrev pub ReportsFor : (before after : World) → Request → Type 0
ReportsFor before after (Inspect file) = Reports before after (option_text file)
ReportsFor before after other = Unit {0}

-- Nothing was put, and no output was touched; but an empty new OUT may have been made.
abbrev pub WritesNone : List Text → (before after : FilesView) → Type 0
WritesNone words before after = Does before after ⊎ ((asked : Request) × Requests words asked
    × IsSomeAnd (paths_of asked) (λ p. Spares p.to.now before after))

-- If all was done, OUT alone was put. If the command isn't done, OUT was left as `Left` says.
abbrev pub PutsFor : Request → Paths → (before after : FilesView) → Result (Unit {0}) RunError → Type 0
PutsFor asked p before after (Ok done) = (took : List ℕ) × PutsOnly (entry p.to.now took ∷ []) before after
PutsFor asked p before after (Err (Ended ending)) = Left asked p before after ending
PutsFor asked p before after (Err other) = ⊥

-- Words are refused only by the parser's rules, or if they make no request.
abbrev pub IsCausedBy : List Text → RunError → Type 0
IsCausedBy words (Words e) = IsAmong (kind_of e) (refusals words)
IsCausedBy words Unread = (refusals words ≡ []) × ((asked : Request) → Requests words asked → ⊥)
IsCausedBy words (Ended ending) = Unit {0}

-- A run of these words led from one world to another, and ended so. Its exit status is `status_by
-- ended`.
pub record Runs (words : List Text) (before after : World) (ended : Result (Unit {0}) RunError) : Type 0 where
  -- what done means of the commands that write
  pub zero : ZeroLeaves words before.files after.files (status_by ended)
  -- and of the others: no words ask for a report of the input
  pub report : words ≡ [] → OnOk ended (Reports before after None)
  pub reports : OnOk ended ((words ≡ []) ⊎ ((IsForHelp words × Prints before.output after.output)
      ⊎ ((asked : Request) × Requests words asked × ReportsFor before after asked)))
  -- words that ask for something are understood
  pub cause : IfErr ended (IsCausedBy words)
  -- a bad command line changes no file
  pub refused : status_by ended ≡ 2 → WritesNone words before.files after.files
  -- Nor do words that give one name to two files, which are refused.
  pub apart : (asked : Request) → Requests words asked
      → IsApart asked ⊎ (OnOk ended ⊥ × (after.files ≡ before.files))
  -- However it ended, no file was written, or just those that the words name.
  pub wrote : WritesNone words before.files after.files ⊎ ((asked : Request) × Requests words asked
      × IsSomeAnd (paths_of asked) (λ p. PutsFor asked p before.files after.files ended))
  -- A command that writes a file reads no standard input and prints nothing.
  pub quiet : (asked : Request) → Requests words asked
      → IfSome (paths_of asked) (λ p. (after.input ≡ before.input) × (after.output ≡ before.output))

-- ---- What was read of the words.

-- The words make this request. No words mean a report on the input.
abbrev pub IsMadeBy : (words : List Text) → Request → Type 0
IsMadeBy words asked = Requests words asked ⊎ ((words ≡ []) × (asked ≡ Inspect None))

-- The words were parsed so: they make the request, if one was found, or are refused by the parser's
-- rules.
pub record IsReadOf (words : List Text) (read : Result (Option Request) Error) : Type 0 where
  pub made : IfOk read (λ o. IfSome o (IsMadeBy words))
  pub unread : IfOk read (λ o. IfNone o (IsCausedBy words Unread))
  pub refuses : IfErr read (λ e. (words ≢ []) × HasKind (refusals words) e)
