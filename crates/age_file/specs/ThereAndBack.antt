-- A file that was encrypted under a passphrase and is decrypted with it.
use Rattle.age_io.specs.Supply.{Supply}
use Rattle.age_io.specs.Taken.{Appends}
use Rattle.std.specs.Prelude.{◌≡◌, ℕ, List, ◌≤◌, Option, Some, Result, MatchResult, length}
use Rattle.base64.specs.GeneralPurpose.{IsBytes}
use Rattle.age_chunk.specs.{chunk_count, chunk_length, chunk_limit}
use Rattle.age_stream.specs.{HasUnambiguousEnd}
use Rattle.age_keys.specs.{PassphraseIdentity, IsAllowed, IsPassphraseKey, PassphraseRefuses, box}
use Rattle.age_keys.specs.{unbox}
use Rattle.age_file_decrypt.specs.{Run, DecryptAnswers, IsWhole, StopsOutside, from_start}
use Rattle.age_file_input.specs.{Ports}
use Rattle.age_file_encrypt.specs.{SecretView, AgeFile}
use Rattle.age_file_encrypt.specs.Encrypts.{Encrypts}
use Rattle.age_file_decrypt.specs.declared.decryption.Done.{Done}
use Rattle.age_file_decrypt.specs.declared.decryption.Stopped.{Stopped}
use Rattle.age_file_encrypt.specs.declared.encryption.Written.{Written}
use Rattle.age_file_position.specs.declared.position.PositionPolicy.{PositionPolicy}

-- a secret whose parts have their sizes
pub record IsSecret (s : SecretView) : Type 0 where
  pub within : IsAllowed s.pass s.log
  pub salt_length : length s.salt ≡ 16
  pub salt_bytes : IsBytes s.salt
  pub key_length : length s.key ≡ 16

-- a secret's passphrase, with a greatest work factor
abbrev pub passphrase_identity : SecretView → ℕ → PassphraseIdentity
passphrase_identity s max_log = record { pass = s.pass; max_log = max_log }

-- the age file of a secret and a plaintext is a complete one for the secret's passphrase, if the
-- limit allows its work factor
abbrev pub AgeFileIsWhole : Type 0
AgeFileIsWhole = (s : SecretView) (max_log : ℕ) (text bytes : List ℕ) (coming : Supply)
    → coming.left ≡ Some bytes → IsSecret s → s.log ≤ max_log
    → chunk_count chunk_length text ≤ chunk_limit → AgeFile s text bytes
    → IsWhole (IsPassphraseKey (passphrase_identity s max_log))
    (PassphraseRefuses (passphrase_identity s max_log)) coming text

-- after an encryption, a decryption of what its sink took, with the same passphrase, gives back the
-- plaintext that its source gave, or stops as reading, writing or running out of memory may stop it
abbrev pub RoundTrip : Type 0
RoundTrip = (keep : PositionPolicy) (s : SecretView) (max_log : ℕ) (was became now last : Ports)
    (written : Written) (e : Encrypts s was became written) (result : Result Done Stopped)
    (run : Option Run) → IsSecret s
    → s.log ≤ max_log
    → HasUnambiguousEnd (box s.key s.nonce) (unbox s.key s.nonce) chunk_length e.text
    → now.source.supply.left ≡ Some e.file
    → let who = passphrase_identity s max_log in let Allows = IsPassphraseKey who in
    DecryptAnswers keep Allows (from_start Allows (PassphraseRefuses who)) now last run result
    → MatchResult result (λ done. Appends now.sink.taken last.sink.taken e.text)
    (λ stopped. StopsOutside stopped.fault)
