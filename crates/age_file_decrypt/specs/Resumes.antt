-- The promise of a resumed decryption, from the text of the position to the end of the payload.
use Rattle.std.specs.Prelude.{◌≡◌, ◌≢◌, ℕ, List, ◌++◌, length, ◌*◌, ◌≤◌, take, Option, Some, ◌⊎◌}
use Rattle.std.specs.Prelude.{◌/◌, ◌+◌, ◌<◌, None}
use Rattle.age_io.specs.Taken.{Appends}
use Rattle.age_io.specs.Supply.{Supply}
use Rattle.age_io.specs.{Consumes, IsAtEnd, SourceView, HasFailed}
use Rattle.age_stanza.specs.declared.header.Header.{Header}
use Rattle.age_chunk.specs.{chunk_length, block_length, chunk_count}
use Rattle.age_chunk.specs.declared.fault.StreamKind.TheVariants.{Truncated}
use Rattle.age_stream.specs.{IsPrefixOf}
use Rattle.age_fault.specs.declared.key.KeyFault.{KeyFault}
use Rattle.age_fault.specs.declared.fault.FileFault.{FileFault}
use Rattle.age_fault.specs.declared.fault.FileFault.TheVariants.{Stream, OtherFile, ShortText, Read}
use Rattle.age_fault.specs.declared.fault.FileFault.TheVariants.{Write, ReadNeverEnds}
use Rattle.age_fault.specs.declared.fault.FileFault.TheVariants.{PositionForged, OldTextDiffers}
use Rattle.age_file_position.specs.declared.position.Position.{Position}
use Rattle.age_file_position.specs.{chain_over, file_id}
use Rattle.age_file_decrypt.specs.Runs.{BelongsTo, CarriesText, HasId, HasTag, IsTagged, OpenedFile}
use Rattle.age_file_decrypt.specs.Runs.{Reads, Run, WritesNone}
use Rattle.age_file_input.specs.{IsByAllPulls, NoneFailed, Ports, ReadFailed, WriteFailed, pull_room}
use Rattle.age_file_decrypt.specs.Decrypts.{Beginning, StartFails, IsUndamagedFile, from_start}
use Rattle.age_file_decrypt.specs.declared.decryption.Stopped.{Stopped}

-- ---- The earlier output that a position was made for.

-- the earlier output begins with the chunks of this plaintext before the position's
pub record BeginsWith (p : Position) (old_coming : Supply) (text : List ℕ) : Type 0 where
  pub all : List ℕ
  pub shown : old_coming.left ≡ Some all
  pub within : p.index * chunk_length ≤ length text
  pub begins : IsPrefixOf (take (p.index * chunk_length) text) all

-- the position has the hash chain over the first chunks of a plaintext, and the bytes that were
-- copied have another hash chain if they are other bytes
pub record IsBoundTo (p : Position) (copied text : List ℕ) : Type 0 where
  pub carries : CarriesText text p
  pub distinct : chain_over p.index copied ≡ chain_over p.index text
      → copied ≡ take (p.index * chunk_length) text

-- the earlier output is the one that the position was made for: its chunks have the position's hash
-- chain
pub record IsOldText (p : Position) (copied : List ℕ) : Type 0 where
  pub size : length copied ≡ p.index * chunk_length
  pub same : chain_over p.index copied ≡ p.chain

-- ---- The bytes that a resumed decryption reads and writes before its payload.

-- a resumption: the position, and the views of the earlier output's source, before and after
pub record Resumption : Type 0 where
  pub position : Position
  pub first : SourceView
  pub last : SourceView

-- the resumption of these parts
abbrev pub resumption : Position → SourceView → SourceView → Resumption
resumption position first last = record { position = position; first = first; last = last }

-- the bytes written are only these bytes of the earlier output
pub record WritesOld (e : Resumption) (old new : Ports) (written : ℕ) (copied : List ℕ) : Type 0 where
  -- the bytes that were read of the earlier output
  pub pulled : List ℕ
  pub read : Consumes e.first.supply e.last.supply pulled
  -- no more than one pull beyond the position's chunks was read
  pub few : length pulled ≤ e.position.index * chunk_length + pull_room
  -- the first of these bytes were written, and nothing else
  pub front : IsPrefixOf copied pulled
  pub wrote : Appends old.sink.taken new.sink.taken copied
  pub count : written ≡ length copied
  -- the copied bytes are a prefix of a plaintext, if the earlier output begins with the chunks of
  -- that plaintext before the position
  pub of : (text : List ℕ) → BeginsWith e.position e.first.supply text → IsPrefixOf copied text

-- a run that begins from a position
pub record IsFrom (e : Resumption) (r : Run) : Type 0 where
  pub index : r.first ≡ e.position.index
  -- the position is the file's, and was made under its key
  pub own : BelongsTo e.position r.file
  -- the bytes that were copied are the plaintext that the position was made for
  pub old_text : IsOldText e.position r.copied
  -- no more than one pull beyond them was read of the earlier output, and no pull failed
  pub more : List ℕ
  pub old_read : Consumes e.first.supply e.last.supply (r.copied ++ more)
  pub few : length more ≤ pull_room
  pub unfailed : e.last.failed ≡ e.first.failed

-- ---- The stop of a resumed decryption, and what it did: before the earlier output, in it, in the
-- blocks that are skipped, or in the payload.

-- | A stop                | with the fault              | What was written   | Position           |
-- |-----------------------|-----------------------------|--------------------|--------------------|
-- | before the old text   | 1 to 16, 24, 26, 28, 29, 30 | nothing            | none               |
-- | in the old text       | 25, 26, 27, 29, 31          | some of it         | none               |
-- | in the skipped blocks | 20, 26, 29                  | the old text       | where it began     |
-- | in the payload        | 17 to 22, 26, 27, 29        | that and more text | where it stopped   |

-- the file and the earlier output together gave bytes by 2^63 pulls, and so are taken for sources
-- that never end
abbrev pub NeverEndTogether : Resumption → Ports → Ports → Type 0
NeverEndTogether e old new = (bytes : List ℕ) × (texts : List ℕ)
    × Consumes old.source.supply new.source.supply bytes
    × Consumes e.first.supply e.last.supply texts × IsByAllPulls (length bytes + length texts)

module _ (Allows : Header → List ℕ → Type 0) (e : Resumption) (old new : Ports) where
  -- this file was opened, and no more was read after its nonce than one pull gives
  abbrev pub HasOpened : OpenedFile → Type 0
  HasOpened f = (rest : List ℕ) × (length rest ≤ pull_room)
      × Reads Allows old.source.supply new.source.supply f rest

  -- Before the earlier output: the position is another file's, or wasn't made under this file's
  -- key; or there is no payload
  abbrev pub BeforeOldFails : (Header → KeyFault → Type 0) → FileFault → Type 0
  BeforeOldFails Refused OtherFile = (f : OpenedFile) × HasOpened f × (HasId e.position f → ⊥)
  BeforeOldFails Refused PositionForged =
      (f : OpenedFile) × HasOpened f × HasId e.position f × (HasTag e.position f → ⊥)
  BeforeOldFails Refused fault = StartFails Allows Refused old.source new.source fault

  -- While the earlier output is copied, a failed read of it leaves all that it gave written; so
  -- does its end, and a source that never ends
  abbrev pub CopyFails : (pulled copied : List ℕ) → FileFault → Type 0
  CopyFails pulled copied ShortText = (copied ≡ pulled) × IsAtEnd e.last.supply
  CopyFails pulled copied Read = (copied ≡ pulled) × NoneFailed old new
      × HasFailed e.first.failed e.last.failed e.last.failing
  CopyFails pulled copied ReadNeverEnds = (copied ≡ pulled) × NeverEndTogether e old new
  CopyFails pulled copied Write = WriteFailed old new × (e.last.failed ≡ e.first.failed)
  CopyFails pulled copied other = ⊥

  -- the fault of a stop in the earlier output: all of it up to the position was copied, and isn't
  -- the plaintext that the position was made for; or less was copied
  abbrev pub InOldFails : (pulled copied : List ℕ) → FileFault → Type 0
  InOldFails pulled copied OldTextDiffers = (length copied ≡ e.position.index * chunk_length)
      × (chain_over e.position.index copied ≢ e.position.chain)
  InOldFails pulled copied fault = (length copied < e.position.index * chunk_length)
      × CopyFails pulled copied fault

  -- a stop in the earlier output has no position
  pub record StopsInOld (stopped : Stopped) : Type 0 where
    pub file : OpenedFile
    pub opened : HasOpened file
    pub own : BelongsTo e.position file
    pub copied : List ℕ
    pub writes : WritesOld e old new stopped.written copied
    pub nowhere : stopped.position ≡ None
    pub why : InOldFails writes.pulled copied stopped.fault

  -- While blocks are skipped, the file ends, after a number of full ones that the fault names, or
  -- no more comes of it
  abbrev pub InSkippedFails : (skipped : List ℕ) → FileFault → Type 0
  InSkippedFails skipped (Stream fault) = (fault.kind ≡ Truncated)
      × (fault.chunk ≡ length skipped / block_length) × IsAtEnd new.source.supply
      × NoneFailed old new
  InSkippedFails skipped Read = ReadFailed old new
  InSkippedFails skipped ReadNeverEnds = NeverEndTogether e old new × NoneFailed old new
  InSkippedFails skipped other = ⊥

  -- a stop in the blocks that are skipped has the earlier output written, and the position that the
  -- call began from, whether positions are kept or dropped
  pub record StopsInSkipped (stopped : Stopped) : Type 0 where
    pub file : OpenedFile
    pub skipped : List ℕ
    pub reads : Reads Allows old.source.supply new.source.supply file skipped
    pub own : BelongsTo e.position file
    pub short : length skipped < e.position.index * block_length
    pub copied : List ℕ
    pub old_text : IsOldText e.position copied
    pub writes : WritesOld e old new stopped.written copied
    pub unfailed : e.last.failed ≡ e.first.failed
    pub here : stopped.position ≡ Some e.position
    pub why : InSkippedFails skipped stopped.fault

  -- a stop before the earlier output wrote nothing, and has no position
  abbrev pub StopsBeforeOld : (Header → KeyFault → Type 0) → Stopped → Type 0
  StopsBeforeOld Refused stopped = WritesNone old new stopped × (e.last ≡ e.first)
      × BeforeOldFails Refused stopped.fault

-- the beginning of a decryption from a position: it may stop before the earlier output, in it, in
-- the blocks that are skipped, or in the payload
abbrev pub from_position : (Header → List ℕ → Type 0) → (Header → KeyFault → Type 0) → Resumption → Beginning
from_position Allows Refused e = record {
  run = IsFrom e;
  early = λ old new stopped. StopsBeforeOld Allows e old new Refused stopped
      ⊎ StopsInOld Allows e old new stopped ⊎ StopsInSkipped Allows e old new stopped;
  never = NeverEndTogether e;
}

-- the beginning of a decryption from the file's start, or from a position
abbrev pub from_either : (Header → List ℕ → Type 0) → (Header → KeyFault → Type 0) → Option Resumption
    → Beginning
from_either Allows Refused None = from_start Allows Refused
from_either Allows Refused (Some e) = from_position Allows Refused e

-- ---- A file that is undamaged from a position on.

-- an undamaged file of this plaintext is to be resumed at this position
pub record IsUndamagedRest (Allows : Header → List ℕ → Type 0) (Refused : Header → KeyFault → Type 0)
    (e : Resumption) (coming : Supply) (text : List ℕ) : Type 0 where
  pub is : IsUndamagedFile Allows Refused coming text
  -- the position is of a chunk that the plaintext has
  pub below : e.position.index < chunk_count chunk_length text
  -- the position is the file's, and was made under its key
  pub own : e.position.file_id ≡ file_id is.whole.file.front is.whole.nonce
  pub tagged : IsTagged e.position is.whole.key is.whole.nonce
  -- the position carries the chain over the plaintext's first chunks
  pub carries : e.position.chain ≡ chain_over e.position.index text
  -- the earlier output begins with these chunks
  pub old_text : BeginsWith e.position e.first.supply text
