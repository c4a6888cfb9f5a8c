-- The promise of an encryption: which file it writes of a plaintext, or how much of it.
use Rattle.std.specs.Prelude.{ℕ, List, ◌≡◌, ◌-◌, ◌^◌, ◌<◌, ◌≤◌, ◌++◌, length}
use Rattle.age_io.specs.Taken.{Appends}
use Rattle.age_io.specs.{Consumes, IsAtEnd}
use Rattle.age_chunk.specs.{chunk_limit, chunk_count, chunk_length, sealed_before_last, block_bytes}
use Rattle.age_stream.specs.{IsPrefixOf, too_many}
use Rattle.age_stanza.specs.{HeadText}
use Rattle.age_keys.specs.{scrypt_head, box, FileOf, payload_key}
use Rattle.age_fault.specs.declared.fault.FileFault.{FileFault}
use Rattle.age_fault.specs.declared.fault.FileFault.TheVariants.{Stream, Read, Write, Memory}
use Rattle.age_fault.specs.declared.fault.FileFault.TheVariants.{ReadNeverEnds}
use Rattle.age_file_input.specs.{IsByAllPulls, Ports, NoneFailed, ReadFailed, WriteFailed}
use Rattle.age_file_encrypt.specs.declared.encryption.Written.{Written}

-- ---- The parts of an age file for a passphrase.

-- the view of a secret: the passphrase, the work factor, the stanza's salt, the file key and the
-- payload nonce
pub record SecretView : Type 0 where
  pub pass : List ℕ
  pub log : ℕ
  pub salt : List ℕ
  pub key : List ℕ
  pub nonce : List ℕ

-- ---- The age file of a plaintext, and how an encryption ended with it.

-- the beginning of the age file of each plaintext for a secret: the header's text and the payload
-- nonce
pub record BeginsFile (s : SecretView) (bytes : List ℕ) : Type 0 where
  pub front : List ℕ
  pub head : HeadText (scrypt_head s.pass s.log s.salt s.key) front
  pub parts : bytes ≡ front ++ s.nonce
  pub size : length s.nonce ≡ 16

-- the beginning of an age file, and the key of the payload after it
pub record FrontView : Type 0 where
  pub bytes : List ℕ
  pub key : List ℕ

-- the beginning of an age file, and the key, are those of a secret
abbrev pub IsFrontOf : SecretView → FrontView → Type 0
IsFrontOf s f = BeginsFile s f.bytes × (f.key ≡ payload_key s.key s.nonce)

-- the bytes are the age file of the plaintext for the passphrase: its header has one scrypt stanza
abbrev pub AgeFile : SecretView → List ℕ → List ℕ → Type 0
AgeFile s text bytes = FileOf (scrypt_head s.pass s.log s.salt s.key) s.key s.nonce text bytes

-- the age file of all that the source gave was written
pub record Encrypts (s : SecretView) (old new : Ports) (written : Written) : Type 0 where
  pub text : List ℕ
  pub file : List ℕ
  -- the plaintext has no more than 2^48 chunks
  pub few : chunk_count chunk_length text ≤ chunk_limit
  -- the file is the plaintext's
  pub is : AgeFile s text file
  -- the plaintext is all that the source gave
  pub read : Consumes old.source.supply new.source.supply text
  pub at_end : IsAtEnd new.source.supply
  -- the sink took the file
  pub wrote : Appends old.sink.taken new.sink.taken file
  -- the bytes of both are counted
  pub plain_is : written.plain ≡ length text
  pub file_is : written.file ≡ length file
  -- no call of the source or the sink failed
  pub none_failed : NoneFailed old new

-- ---- The stop of an encryption.

-- the file of a plaintext without its last block: the header's text, the payload nonce, and the
-- blocks before the last
abbrev pub without_last : SecretView → (front text : List ℕ) → List ℕ
without_last s front text = (front ++ s.nonce)
    ++ block_bytes (sealed_before_last (box s.key s.nonce) chunk_length text)

-- the reason of a stop, after this plaintext was read and these bytes were written. If a pull
-- failed, or the source never ended, the last block is missing, so they are no complete file
abbrev pub WhyStopped : SecretView → Ports → Ports → (front text out : List ℕ) → FileFault
    → Type 0
WhyStopped s old new front text out (Stream fault) = (2 ^ 64 < length text)
    × (fault ≡ too_many (chunk_limit - 1)) × NoneFailed old new
WhyStopped s old new front text out Read = (out ≡ without_last s front text) × ReadFailed old new
WhyStopped s old new front text out Write = WriteFailed old new
WhyStopped s old new front text out ReadNeverEnds = (out ≡ without_last s front text)
    × IsByAllPulls (length text) × NoneFailed old new
WhyStopped s old new front text out other = ⊥

-- a prefix of the age file of what was read was written
pub record EncryptsFront (s : SecretView) (old new : Ports) (fault : FileFault) : Type 0 where
  pub text : List ℕ
  pub file : List ℕ
  pub out : List ℕ
  pub is : AgeFile s text file
  pub read : Consumes old.source.supply new.source.supply text
  pub wrote : Appends old.sink.taken new.sink.taken out
  pub prefix : IsPrefixOf out file
  pub why : WhyStopped s old new is.front text out fault

-- the fault of an encryption: memory ran out before anything was read or written, or another fault
-- came after a prefix of the file was written
abbrev pub EncryptFails : SecretView → Ports → Ports → FileFault → Type 0
EncryptFails s old new Memory = new ≡ old
EncryptFails s old new fault = EncryptsFront s old new fault
