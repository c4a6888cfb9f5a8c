-- The request that the words of a command line make.
use Rattle.std.specs.Prelude.{◌≡◌, ◌⊎◌, Bool, false, List, [], bytes_eq, Option, Some, codes, ◌≤◌, ℕ, None}
use Rattle.std.specs.Prelude.{option_map, if◌then◌else◌}
use Rattle.std.specs.Option.{option_map_or}
use Rattle.std.specs.Borrow.{Bor}
use Rattle.std.specs.Str.Parse.{IsNumeral, digits_value, without_leading_plus}
use Rattle.clap.specs.Words.{Row, Text, one_of, fault_of, subcommand_of, first_of}
use Rattle.clap.specs.Kinds.{Kinds, IsAmong}
use Rattle.clap.specs.declared.error.kind.ErrorKind.TheVariants.{DisplayHelp, DisplayVersion}
use Rattle.age_host_model.specs.declared.options.Durability.TheVariants.{Synced, Buffered}
use Rattle.age_cli_args.specs.Commands.{age_tool}
use Rattle.age_host_model.specs.declared.options.ClobberOption.TheVariants.{Allowed, Refused}
use Rattle.age_cli_args.specs.declared.request.Decrypting.{Decrypting}
use Rattle.age_cli_args.specs.declared.request.Drilling.{Drilling}
use Rattle.age_cli_args.specs.declared.request.Encrypting.{Encrypting}
use Rattle.age_cli_args.specs.declared.request.IdentityOptions.{IdentityOptions}
use Rattle.age_cli_args.specs.declared.request.Paths.{Paths}
use Rattle.age_cli_args.specs.declared.request.ProgressOption.TheVariants.{Shown, Silent}
use Rattle.age_cli_args.specs.declared.request.Request.{Request}
use Rattle.age_cli_args.specs.declared.request.Request.TheVariants.{Inspect, Decrypt, Resume, Encrypt, Drill}
use Rattle.age_cli_args.specs.declared.request.Resuming.{Resuming}

-- ---- What the words after the program's name ask for, by the definitions of the parser of command
-- lines.

-- The kinds of errors by which the parser refuses the words: none if it accepts them.
unfoldable pub refusals : List Text → Kinds
refusals words = fault_of age_tool words

-- The command that the words name, and the values of its arguments.
unfoldable pub named : List Text → Option (Text × List Row)
named words = subcommand_of age_tool words

-- The parser accepts the words, and they name this command with these values of its arguments.
pub record Asks (words : List Text) (name : Text) (rows : List Row) : Type 0 where
  pub taken : refusals words ≡ []
  pub command : named words ≡ Some (name, rows)

-- The words ask for help or for the version, which the parser counts as a kind of error.
abbrev pub IsForHelp : List Text → Type 0
IsForHelp words = IsAmong DisplayHelp (refusals words) ⊎ IsAmong DisplayVersion (refusals words)

-- Whether a flag is given: its value is `true` then.
abbrev pub is_given : Text → List Row → Bool
is_given id rows = option_map_or (λ t. bytes_eq t (codes "true")) (one_of id rows) false

-- ---- What a command asks for, by what stands for each of its arguments.

-- The number from 1 to 22 that a text spells, or the default if there is no text.
abbrev pub IsNumber : ℕ → Option Text → ℕ → Type 0
IsNumber default None n = n ≡ default
IsNumber default (Some text) n = IsNumeral 10 (without_leading_plus text)
    × (n ≡ digits_value 10 (without_leading_plus text)) × (1 ≤ n) × (n ≤ 22)

-- The text of an optional argument.
abbrev pub option_text : Option (Bor Text) → Option Text
option_text = option_map (λ s. s.now)

-- The files of a command that writes one, and how it writes, by the values of its arguments.
pub record IsPaths (rows : List Row) (p : Paths) : Type 0 where
  pub from : Some p.from.now ≡ first_of (codes "IN") rows
  pub to : Some p.to.now ≡ first_of (codes "OUT") rows
  -- An existing OUT is refused; what is written may reach the disk later; and progress is shown.
  pub clobber : p.clobber ≡ (if is_given (codes "no-clobber") rows then Refused else Allowed)
  pub durability : p.durability ≡ (if is_given (codes "no-sync") rows then Buffered else Synced)
  pub progress : p.progress ≡ (if is_given (codes "progress") rows then Shown else Silent)

-- The arguments of `encrypt`, by their values.
pub record IsEncrypting (rows : List Row) (e : Encrypting) : Type 0 where
  pub pass : Some e.pass.now ≡ first_of (codes "pass") rows
  pub log : IsNumber 18 (one_of (codes "log") rows) e.log
  pub random : option_text e.random ≡ first_of (codes "random") rows
  pub paths : IsPaths rows e.paths

-- The identity options, by the values of the arguments.
pub record IsIdentityOptions (rows : List Row) (u : IdentityOptions) : Type 0 where
  pub pass : option_text u.pass ≡ first_of (codes "pass") rows
  pub file_key : option_text u.file_key ≡ first_of (codes "file-key") rows
  pub shared : option_text u.shared ≡ first_of (codes "shared") rows
  pub max_log : IsNumber 22 (one_of (codes "max-log") rows) u.max_log

-- The arguments of `decrypt`, by their values.
pub record IsDecrypting (rows : List Row) (d : Decrypting) : Type 0 where
  pub identity : IsIdentityOptions rows d.identity
  pub save : option_text d.save ≡ first_of (codes "save") rows
  pub paths : IsPaths rows d.paths

-- The arguments of `resume`, by their values.
pub record IsResuming (rows : List Row) (r : Resuming) : Type 0 where
  pub decrypting : IsDecrypting rows r.decrypting
  pub position : Some r.position.now ≡ first_of (codes "position") rows
  pub old : Some r.old.now ≡ first_of (codes "old") rows

-- The arguments of `drill`, by their values.
pub record IsDrilling (rows : List Row) (d : Drilling) : Type 0 where
  pub clear : d.clear ≡ is_given (codes "clear") rows
  pub pass : option_text d.pass ≡ first_of (codes "pass") rows
  pub script : Some d.script.now ≡ first_of (codes "SCRIPT") rows
  pub from : Some d.from.now ≡ first_of (codes "IN") rows

-- The request of a command, by its name and the values of its arguments.
abbrev pub IsRequest : Text → List Row → Request → Type 0
IsRequest name rows (Encrypt e) = (name ≡ codes "encrypt") × IsEncrypting rows e
IsRequest name rows (Decrypt d) = (name ≡ codes "decrypt") × IsDecrypting rows d
IsRequest name rows (Resume r) = (name ≡ codes "resume") × IsResuming rows r
IsRequest name rows (Drill d) = (name ≡ codes "drill") × IsDrilling rows d
IsRequest name rows (Inspect file) = (name ≡ codes "inspect")
    × (option_text file ≡ first_of (codes "FILE") rows)

-- The words make this request.
abbrev pub Requests : List Text → Request → Type 0
Requests words r = (name : Text) × (rows : List Row) × Asks words name rows × IsRequest name rows r
