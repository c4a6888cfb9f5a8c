-- What the commands that write OUT find in the options and the files.
use Rattle.std.specs.Prelude.{◌≡◌, ℕ, List, [], ◌++◌, length, Option}
use Rattle.clap.specs.Words.{Text}
use Rattle.age_io.specs.{SourceView}
use Rattle.age_keys.specs.{IsAllowed}
use Rattle.age_file_encrypt.specs.{SecretView}
use Rattle.age_cli_files.specs.{Outcome, Found, Gave, reading_of}
use Rattle.age_cli_files.specs.declared.file_set.IfMissing.{IfMissing}
use Rattle.age_cli_args.specs.{option_text}
use Rattle.age_cli_args.specs.declared.request.Encrypting.{Encrypting}
use Rattle.age_cli_common.specs.{random_name, IsPassphraseIn}

-- ---- What was read of a file.

-- A file of this name was opened, or an empty one if a missing one counts so, and its reading is
-- over. Its source was `first` before anything was read of it, and `last` at the end.
pub record WasRead (Came : Outcome → Type 0) (missing : IfMissing) (name : Text) (first last : SourceView)
    : Type 0 where
  pub unread : first.supply.given ≡ []
  -- how long it is, if the set of files can say
  pub size : Option ℕ
  pub found : Came (Found missing name first.supply.left size)
  pub over : Came (Gave (reading_of last))
  pub named : last.label ≡ name

-- ---- What `encrypt` makes a file of.

-- The secret of an encryption. Its passphrase is all that the passphrase file gave, without one
-- line feed; its work factor is the one that was given; and the file of random bytes begins with
-- its file key, the stanza's salt and the payload nonce.
pub record MakesSecret (GaveAll Gave : Text → List ℕ → Type 0) (asked : Encrypting) (s : SecretView)
    : Type 0 where
  pub pass : IsPassphraseIn (GaveAll asked.pass.now) s.pass
  pub log_is : s.log ≡ asked.log
  pub within : IsAllowed s.pass s.log
  pub rest : List ℕ
  pub random_given : Gave (random_name (option_text asked.random)) (s.key ++ (s.salt ++ (s.nonce ++ rest)))
  pub key_length : length s.key ≡ 16
  pub salt_length : length s.salt ≡ 16
  pub nonce_length : length s.nonce ≡ 16
