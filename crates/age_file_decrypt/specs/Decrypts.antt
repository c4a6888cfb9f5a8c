-- The promise of a decryption, done or stopped.
use Rattle.std.specs.Prelude.{Option, ◌≢◌, ◌⊎◌, ℕ, ◌<◌, ◌≤◌, List, ◌++◌, length, ◌≡◌, Some, None}
use Rattle.std.specs.Prelude.{true, Result, MatchResult, OnOk, IsSomeAnd}
use Rattle.age_io.specs.Taken.{Taken, Appends}
use Rattle.age_io.specs.Supply.{Supply}
use Rattle.age_io.specs.{Consumes, IsAtEnd, SourceView}
use Rattle.age_stanza.specs.{HeadText}
use Rattle.age_stanza.specs.declared.header.Header.{Header}
use Rattle.age_chunk.specs.{chunk_count, chunk_length, chunk_limit}
use Rattle.age_stream.specs.{HasUnambiguousEnd}
use Rattle.age_keys.specs.{Opens, Refuses, IsScryptNotAlone, box, unbox, FileOf}
use Rattle.age_fault.specs.declared.key.KeyFault.{KeyFault}
use Rattle.age_fault.specs.declared.key.KeyFault.TheVariants.{Memory as KeyMemory}
use Rattle.age_fault.specs.declared.fault.FileFault.{FileFault}
use Rattle.age_fault.specs.declared.fault.FileFault.TheVariants.{Key, NonceCut, Read, Write, Memory}
use Rattle.age_fault.specs.declared.fault.FileFault.TheVariants.{ReadNeverEnds}
use Rattle.age_file_input.specs.{pull_room, InHeader, HeadFails, NeverEnds, Ports, NoneFailed}
use Rattle.age_file_decrypt.specs.Runs.{Run, IsFromStart, WritesNone, StopsInPayload, IsDone, MarksView}
use Rattle.age_file_decrypt.specs.Runs.{FindsMarks}
use Rattle.age_file_decrypt.specs.declared.decryption.Done.{Done}
use Rattle.age_file_decrypt.specs.declared.decryption.Stopped.{Stopped}
use Rattle.age_file_position.specs.declared.position.PositionPolicy.{PositionPolicy}

-- ---- The bytes that were read up to a payload.

-- the bytes that came are a header that was opened, and fewer than 16 bytes after it
abbrev pub InNonce : (Header → List ℕ → Type 0) → Supply → Supply → Type 0
InNonce Allows old new =
    (h : Header) × (front : List ℕ) × (key : List ℕ) × (short : List ℕ) × HeadText h front
    × Opens Allows h key × (length short < 16) × Consumes old new (front ++ short)

-- the bytes that came have no fault so far
abbrev pub IsEarly : (Header → List ℕ → Type 0) → Supply → Supply → Type 0
IsEarly Allows old new = InHeader old new ⊎ InNonce Allows old new

-- the reason why there is no payload; after a header that wasn't opened, no more was read than one
-- pull gives
abbrev pub StartFails : (Header → List ℕ → Type 0) → (Header → KeyFault → Type 0) → SourceView
    → SourceView → FileFault → Type 0
StartFails Allows Refused old new (Key fault) =
    (h : Header) × (front : List ℕ) × (rest : List ℕ) × HeadText h front
    × Consumes old.supply new.supply (front ++ rest) × (fault ≢ KeyMemory)
    × Refuses Allows Refused h fault × (length rest ≤ pull_room)
StartFails Allows Refused old new NonceCut = InNonce Allows old.supply new.supply
    × IsAtEnd new.supply
StartFails Allows Refused old new fault = HeadFails (IsEarly Allows) old new fault

-- ---- A file that is undamaged.

-- the source is an age file of this plaintext, and the unlocker opens it
pub record IsWhole (Allows : Header → List ℕ → Type 0) (Refused : Header → KeyFault → Type 0)
    (coming : Supply) (text : List ℕ) : Type 0 where
  pub header : Header
  pub key : List ℕ
  pub nonce : List ℕ
  pub bytes : List ℕ
  -- the bytes are the age file of the plaintext, with this header, key and nonce
  pub file : FileOf header key nonce text bytes
  -- the source has these bytes and no more
  pub all : coming.left ≡ Some bytes
  -- the plaintext isn't too long for a payload
  pub few : chunk_count chunk_length text ≤ chunk_limit
  -- no scrypt stanza stands beside another stanza
  pub alone : ¬ IsScryptNotAlone header
  -- the unlocker yields no key but the file's
  pub only : (k : List ℕ) → Allows header k → k ≡ key
  -- the unlocker fails only if memory runs out
  pub never : (fault : KeyFault) → Refused header fault → fault ≡ KeyMemory

-- the source is a complete file, and its last block, if that is full, doesn't open as one before
-- the last
pub record IsUndamagedFile (Allows : Header → List ℕ → Type 0) (Refused : Header → KeyFault → Type 0)
    (coming : Supply) (text : List ℕ) : Type 0 where
  pub whole : IsWhole Allows Refused coming text
  pub closed : HasUnambiguousEnd (box whole.key whole.nonce) (unbox whole.key whole.nonce) chunk_length text

-- the faults that can stop the decryption even of an undamaged file
abbrev pub StopsOutside : FileFault → Type 0
StopsOutside Read = Unit {0}
StopsOutside Write = Unit {0}
StopsOutside Memory = Unit {0}
StopsOutside ReadNeverEnds = Unit {0}
StopsOutside other = ⊥

-- ---- The promise of a decryption.

-- exactly this plaintext was written, of this many bytes
abbrev pub WritesText : Taken → Taken → ℕ → List ℕ → Type 0
WritesText old new written text = Appends old new text × (written ≡ length text)

-- the beginning of a decryption. From a file's start and from a position a decryption promises the
-- same, except for this
pub record Beginning : Type 1 where
  -- the run begins as it must, if it comes to the payload
  pub run : Run → Type 0
  -- the reason of a stop before that
  pub early : Ports → Ports → Stopped → Type 0
  -- the sources never end
  pub never : Ports → Ports → Type 0

-- the beginning at the file's first chunk; if there is no payload, nothing is written
abbrev pub from_start : (Header → List ℕ → Type 0) → (Header → KeyFault → Type 0) → Beginning
from_start Allows Refused = record {
  run = IsFromStart;
  early = λ old new stopped. WritesNone old new stopped
      × StartFails Allows Refused old.source new.source stopped.fault;
  never = λ old new. NeverEnds old.source.supply new.source.supply;
}

-- the promise of a decryption for which positions are kept or dropped
module _ (keep : PositionPolicy) (Allows : Header → List ℕ → Type 0) (begun : Beginning)
    (old new : Ports) where
  -- the decryption ended in this run
  abbrev pub DecryptEnds : Done → Run → Type 0
  DecryptEnds done r = begun.run r × IsDone Allows old new done.written r × NoneFailed old new

  -- the decryption stopped in this run, or before the payload
  abbrev pub DecryptStops : Option Run → Stopped → Type 0
  DecryptStops None stopped = begun.early old new stopped
  DecryptStops (Some r) stopped = begun.run r
      × StopsInPayload keep Allows (begun.never old new) old new stopped r

  -- a decryption that returned Ok ended in its run; one with a fault stopped in that, or before the
  -- payload
  abbrev pub DecryptAnswers : Option Run → Result Done Stopped → Type 0
  DecryptAnswers run result = MatchResult result (λ done. IsSomeAnd run (DecryptEnds done)) (DecryptStops run)

  -- the promise of a decryption
  pub record Decrypts (result : Result Done Stopped) : Type 0 where
    -- the run, if it came to the payload
    pub run : Option Run
    pub answers : DecryptAnswers run result
    -- after Ok the sink has passed on what it took
    pub flushed : OnOk result (new.sink.flushed ≡ true)
    -- the sink keeps its label
    pub named : new.sink.taken.label ≡ old.sink.taken.label

  -- the promise of a decryption that returns its marks as well
  pub record DecryptsMarked (result : Result Done Stopped) (marks : Option MarksView) : Type 0 where
    pub is : Decrypts result
    pub found : FindsMarks is.run keep marks
