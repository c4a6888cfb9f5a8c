-- What was encrypted under a passphrase, decrypted with it.
use Rattle.std.proofs.Common.{◌≡◌, ℕ, ◌≤◌, List, Some, None, Result, Ok, Err, MatchResult}
use Rattle.age_io.specs.Taken.{Appends}
use Rattle.age_io.specs.Supply.{Supply}
use Rattle.age_stanza.specs.{OneHeader}
use Rattle.age_chunk.specs.{chunk_count, chunk_length, chunk_limit}
use Rattle.age_keys.specs.{PassphraseOpens, IsPassphraseKey, PassphraseRefuses, scrypt_head}
use Rattle.age_file_input.specs.{Ports}
use Rattle.age_file_decrypt.specs.{IsWhole, WritesText, StopsOutside}
use Rattle.age_file_decrypt.specs.declared.decryption.Stopped.{Stopped}
use Rattle.age_file_decrypt.specs.declared.decryption.Done.{Done}
use Rattle.age_file_encrypt.specs.{SecretView, AgeFile}
use Rattle.age_file.specs.ThereAndBack.{IsSecret, passphrase_identity, RoundTrip}
use Rattle.age_file_decrypt.proofs.UndamagedLemmas.{writes_text}

pub whole : PassphraseOpens → (s : SecretView) (max_log : ℕ) (text bytes : List ℕ) (coming : Supply) → coming.left ≡ Some bytes → IsSecret s
    → s.log ≤ max_log → chunk_count chunk_length text ≤ chunk_limit → AgeFile s text bytes
    → IsWhole (IsPassphraseKey (passphrase_identity s max_log)) (PassphraseRefuses (passphrase_identity s max_log)) coming text
whole opens s max_log text bytes coming shown is within few file =
    let a = opens (passphrase_identity s max_log) s.log s.salt s.key is.within.least_log is.within.most_log
    within is.salt_length is.salt_bytes is.key_length in
    record {
      header = scrypt_head s.pass s.log s.salt s.key;
      key = s.key;
      nonce = s.nonce;
      bytes = bytes;
      file = file;
      all = shown;
      few = few;
      alone = a.alone;
      only = a.no_other;
      never = a.never;
    }

appended : (old new : Ports) (text : List ℕ) (result : Result Done Stopped)
    → MatchResult result (λ done. WritesText old.sink.taken new.sink.taken done.written text) (λ stopped. StopsOutside stopped.fault)
    → MatchResult result (λ done. Appends old.sink.taken new.sink.taken text) (λ stopped. StopsOutside stopped.fault)
appended old new text (Ok done) w = w.0
appended old new text (Err s) w = w

pub there_and_back : OneHeader → PassphraseOpens → RoundTrip
unfolding whole
there_and_back one opens keep s max_log was became now last written e result run is within closed coming f =
    let id = passphrase_identity s max_log in
    appended now last e.text result (writes_text one (IsPassphraseKey id) (PassphraseRefuses id) keep now last e.text None result run f
    (record { whole = whole opens s max_log e.text e.file now.source.supply coming is within e.few e.is; closed = closed }))
