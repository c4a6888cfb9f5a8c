-- The identity that opens a file, by the options and by the files that they name.
use Rattle.std.specs.Prelude.{◌≡◌, ℕ, List, ◌++◌, length, Option, Some, None, option_map, codes}
use Rattle.std.specs.Option.{option_or}
use Rattle.std.specs.declared.vec.Vec.{Vec}
use Rattle.clap.specs.Words.{Text}
use Rattle.age_stanza.specs.declared.header.Header.{Header}
use Rattle.age_keys.specs.{SpellsKey, IsAllowed, IsPassphraseKey, PassphraseRefuses, passphrase_steps, Shared}
use Rattle.age_keys.specs.{IsSharedKey, SharedRefuses}
use Rattle.age_fault.specs.declared.key.KeyFault.{KeyFault}
use Rattle.age_cli_files.specs.{Outcome, HasGivenAll}
use Rattle.age_cli_args.specs.{option_text}
use Rattle.age_cli_args.specs.declared.request.IdentityOptions.{IdentityOptions}
use Rattle.age_cli_common.specs.Files.{without_line_feed}
use Rattle.age_cli_common.specs.declared.identity_option.IdentityOption.{IdentityOption}
use Rattle.age_cli_common.specs.declared.identity_option.IdentityOption.TheVariants.{PassphraseFile, FileKey, SharedFile}
use Rattle.age_cli_common.specs.declared.identity.Identity.{Identity}
use Rattle.age_cli_common.specs.declared.identity.Identity.TheVariants.{ByPassphrase, ByFileKey, ByShared}

-- ---- What opens a file, by all options together.

-- The file keys that the identity may find in a header.
abbrev pub allows_by : Identity → Header → List ℕ → Type 0
allows_by (ByPassphrase words) h key = IsPassphraseKey words h key
allows_by (ByFileKey known) h key = key ≡ known
allows_by (ByShared shared) h key = IsSharedKey shared h key

-- The faults by which the identity may refuse a header.
abbrev pub refuses_by : Identity → Header → KeyFault → Type 0
refuses_by (ByPassphrase words) h fault = PassphraseRefuses words h fault
refuses_by (ByFileKey known) h fault = ⊥
refuses_by (ByShared shared) h fault = SharedRefuses shared h fault

-- The largest number of steps of scrypt for a header.
abbrev pub steps_by : Identity → ℕ
steps_by (ByPassphrase words) = passphrase_steps words
steps_by (ByFileKey known) = 0
steps_by (ByShared shared) = 0

-- The passphrase is what a file gave, without one line feed at its end.
abbrev pub IsPassphraseIn : (Gave : List ℕ → Type 0) → List ℕ → Type 0
IsPassphraseIn Gave pass = (bytes : List ℕ) × Gave bytes × (pass ≡ without_line_feed bytes)

-- A file gave the shared secret, followed by the recipient for which it was made.
pub record IsSharedIn (Gave : List ℕ → Type 0) (shared : Shared) : Type 0 where
  pub bytes : Gave (shared.secret ++ shared.recipient)
  pub secret_length : length shared.secret ≡ 32
  pub recipient_length : length shared.recipient ≡ 32

-- The identity option is the only one that is given, and makes this identity, of all that the file
-- gave that it names.
abbrev pub IsIdentity : (GaveAll : Text → List ℕ → Type 0) → Option Text → Option Text → Option Text → ℕ
    → Identity → Type 0
IsIdentity GaveAll (Some pass) None None max_log (ByPassphrase words) =
    IsPassphraseIn (GaveAll pass) words.pass
    × (words.max_log ≡ max_log) × IsAllowed words.pass words.max_log
IsIdentity GaveAll None (Some digits) None max_log (ByFileKey known) = SpellsKey digits known
IsIdentity GaveAll None None (Some name) max_log (ByShared shared) = IsSharedIn (GaveAll name) shared
IsIdentity GaveAll pass file_key shared max_log identity = ⊥

-- The options, and all that the file gave that they name, make this identity.
abbrev pub MakesBy : (GaveAll : Text → List ℕ → Type 0) → IdentityOptions → Identity → Type 0
MakesBy GaveAll u identity = IsIdentity GaveAll (option_text u.pass) (option_text u.file_key)
    (option_text u.shared) u.max_log identity

-- A file holds these bytes, if it was read.
abbrev pub HoldsBytes : Option (List ℕ) → List ℕ → Type 0
HoldsBytes held bytes = held ≡ Some bytes

-- ---- What opens a file, by the one option that is chosen.

-- The file that a choice names, if it names one.
abbrev pub file_of : IdentityOption → Option Text
file_of (PassphraseFile name max_log) = Some name.now
file_of (FileKey known) = None
file_of (SharedFile name) = Some name.now

-- The bytes of a file that was read, if it wasn't too long.
abbrev pub file_bytes : {Z : Type 0} → Option (Vec ℕ Z) → Option (List ℕ)
file_bytes = option_map (λ v. v.items)

-- These bytes, if there are any, are all that the file of this name gave, if there is a name.
abbrev pub IsSecretGiven : (Came : Outcome → Type 0) → Option Text → Option (List ℕ) → Type 0
IsSecretGiven Came (Some name) (Some bytes) = HasGivenAll Came name bytes
IsSecretGiven Came name bytes = Unit {0}

-- A choice makes this identity of the bytes of its file.
abbrev pub Makes : IdentityOption → Option (List ℕ) → Identity → Type 0
Makes (PassphraseFile name max_log) held (ByPassphrase words) = IsPassphraseIn (HoldsBytes held) words.pass
    × (words.max_log ≡ max_log) × IsAllowed words.pass words.max_log
Makes (FileKey known) held (ByFileKey key) = key ≡ known
Makes (SharedFile name) held (ByShared shared) = IsSharedIn (HoldsBytes held) shared
Makes choice held identity = ⊥

-- The choice is what these options say.
pub record Chooses (options : IdentityOptions) (choice : IdentityOption) : Type 0 where
  -- Its file is the one that the options name.
  pub file : file_of choice ≡ option_or (option_text options.pass) (option_text options.shared)
  -- What it makes of the bytes of its file is what the options make of them.
  pub makes : (held : Option (List ℕ)) (identity : Identity) → Makes choice held identity
      → MakesBy (λ name. HoldsBytes held) options identity

-- ---- The random bytes of an encryption.

-- The name of the file of random bytes: `/dev/urandom`, if none is given.
abbrev pub random_name : Option Text → Text
random_name None = codes "/dev/urandom"
random_name (Some name) = name
