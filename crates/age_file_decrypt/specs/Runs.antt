-- A run: what it read and wrote, the positions at which a reader may continue after it, and its
-- end.
use Rattle.std.specs.Prelude.{◌≡◌, ◌⊎◌, ◌↔◌, ◌*◌, ◌/◌, ◌<◌, ◌≤◌, ℕ, min, List, [], ◌++◌, length, take}
use Rattle.std.specs.Prelude.{Option, Some, None, IsSomeAnd, Bool, true, false}
use Rattle.age_io.specs.Taken.{Appends}
use Rattle.age_io.specs.Supply.{Supply}
use Rattle.age_io.specs.{Consumes, IsAtEnd}
use Rattle.age_stanza.specs.{HeadText}
use Rattle.age_stanza.specs.declared.header.Header.{Header}
use Rattle.age_chunk.specs.{chunk_length, chunk_count, block_length, chunk_limit}
use Rattle.age_stream.specs.{has_failed, Outcome, outcome, released, IsPrefixOf, IsAuthentic}
use Rattle.age_stream.specs.declared.step.Status.TheVariants.{Done, Failed}
use Rattle.age_stream.specs.Segment.{Segment}
use Rattle.age_keys.specs.{position_key, Opens, box, unbox}
use Rattle.age_fault.specs.declared.fault.FileFault.{FileFault}
use Rattle.age_fault.specs.declared.fault.FileFault.TheVariants.{Read, ReadNeverEnds, Stream, Write}
use Rattle.age_file_position.specs.{file_id, position_tag, chain, chain_over, IsWithinFourfold}
use Rattle.age_file_decrypt.specs.declared.decryption.Stopped.{Stopped}
use Rattle.age_file_position.specs.declared.position.Position.{Position}
use Rattle.age_file_position.specs.declared.position.PositionPolicy.{PositionPolicy}
use Rattle.age_file_position.specs.declared.position.PositionPolicy.TheVariants.{Kept, Dropped}
use Rattle.age_file_input.specs.{Ports, NoneFailed, ReadFailed, WriteFailed}

-- ---- A run: what was read of an age file, and what was written. A decryption is a run that begins
-- with chunk 0; a resumed one begins with the chunk of its position, after the earlier output.

-- a file whose header was opened and whose nonce was read
pub record OpenedFile : Type 0 where
  pub header : Header
  pub header_bytes : List ℕ
  pub key : List ℕ
  pub nonce : List ℕ

-- a run: the file that was opened, the chunk that the run begins with, the earlier output that was
-- copied and the blocks that were skipped before it, the bytes that were read after them, whether
-- the source ended there, and what was written after the earlier output
pub record Run : Type 0 where
  pub file : OpenedFile
  pub first : ℕ
  pub copied : List ℕ
  pub skipped : List ℕ
  pub bytes : List ℕ
  pub ended : Bool
  pub out : List ℕ

-- a run begins with the file's first chunk
pub record IsFromStart (r : Run) : Type 0 where
  pub zero : r.first ≡ 0
  pub none_copied : r.copied ≡ []
  pub none_skipped : r.skipped ≡ []

-- the segment of a run: the bytes that it read of the payload
abbrev pub segment_of : Run → Segment
segment_of r = record { start = r.first; bytes = r.bytes; ended = r.ended; late = false }

-- the outcome of a run's segment
abbrev pub run_outcome : Run → Outcome
run_outcome r = outcome (unbox r.file.key r.file.nonce) chunk_length (segment_of r)

-- the plaintext that a run's segment releases: every chunk of it was opened
abbrev pub run_text : Run → List ℕ
run_text r = released (unbox r.file.key r.file.nonce) chunk_length (segment_of r)

-- the output of a run: the earlier output that it copied, and what it wrote after that
abbrev pub held : Run → List ℕ
held r = r.copied ++ r.out

-- these bytes were read of the file, and the rest after its nonce
pub record Reads (Allows : Header → List ℕ → Type 0) (old new : Supply) (f : OpenedFile)
    (rest : List ℕ) : Type 0 where
  pub text : HeadText f.header f.header_bytes
  pub opens : Opens Allows f.header f.key
  pub size : length f.nonce ≡ 16
  pub read : Consumes old new ((f.header_bytes ++ f.nonce) ++ rest)

-- the run matches what was read and written: this many bytes, the earlier output and then a prefix
-- of the plaintext that was released
pub record IsRun (Allows : Header → List ℕ → Type 0) (old new : Ports) (written : ℕ) (r : Run)
    : Type 0 where
  pub reads : Reads Allows old.source.supply new.source.supply r.file (r.skipped ++ r.bytes)
  pub copied_size : length r.copied ≡ r.first * chunk_length
  pub skipped_size : length r.skipped ≡ r.first * block_length
  pub at_end : r.ended ≡ true ↔ IsAtEnd new.source.supply
  pub wrote : Appends old.sink.taken new.sink.taken (held r)
  pub count : written ≡ length (held r)
  pub prefix : IsPrefixOf r.out (run_text r)

-- ---- A run that is authentic.

-- every block that is tried and opens is one that the writer of this plaintext sealed there
abbrev pub IsTexts : List ℕ → Run → Type 0
IsTexts text r = IsAuthentic (box r.file.key r.file.nonce) (unbox r.file.key r.file.nonce)
    chunk_length text (segment_of r)

-- the blocks of a run are a plaintext's, and the earlier output is that plaintext's before the
-- chunk that the run begins with
pub record IsAuthenticRun (r : Run) (text : List ℕ) : Type 0 where
  pub few : chunk_count chunk_length text ≤ chunk_limit
  pub old_text : r.copied ≡ take (r.first * chunk_length) text
  pub authentic : IsTexts text r

-- ---- The positions at which a reader may continue.

-- the tag was made under the position key of a file of this key and nonce
abbrev pub IsTagged : Position → List ℕ → List ℕ → Type 0
IsTagged p key nonce = p.tag ≡ position_tag (position_key key nonce) p.index p.file_id p.chain

-- the id of a position is the file's
abbrev pub HasId : Position → OpenedFile → Type 0
HasId p f = p.file_id ≡ file_id f.header_bytes f.nonce

-- the tag of a position was made under the file's key
abbrev pub HasTag : Position → OpenedFile → Type 0
HasTag p f = IsTagged p f.key f.nonce

-- a position is the file's: its id is, and its tag was made under the file's key
abbrev pub BelongsTo : Position → OpenedFile → Type 0
BelongsTo p f = HasId p f × HasTag p f

-- a position stands after chunks of a plaintext, and has the hash chain over them
abbrev pub CarriesText : List ℕ → Position → Type 0
CarriesText text p = (p.index * chunk_length ≤ length text) × (p.chain ≡ chain_over p.index text)

-- the number of chunks that are written: the full ones, copied or released as not last
abbrev pub whole_chunks : Run → ℕ
whole_chunks r = min (length (held r) / chunk_length) (run_outcome r).index

-- a position at which a reader may continue: after the full chunks, with the file's id, the hash
-- chain over those chunks, and the tag
pub record IsPositionOf (r : Run) (p : Position) : Type 0 where
  pub index : p.index ≡ whole_chunks r
  pub own : BelongsTo p r.file
  pub chain_is : p.chain ≡ chain_over p.index (held r)

-- a position is returned if positions are kept, and none if they are dropped
abbrev pub GivesPosition : PositionPolicy → (Position → Type 0) → Option Position → Type 0
GivesPosition Kept Is position = IsSomeAnd position Is
GivesPosition Dropped Is position = position ≡ None

-- ---- Marks: the positions within a part of what was written.

-- the view of a run's marks: the position key and the id of its file, and its full chunks
pub record MarksView : Type 0 where
  pub key : List ℕ
  pub file_id : List ℕ
  pub chunks : List (List ℕ)

-- a position after some of these chunks, which are at most so many bytes
pub record IsMarked (m : MarksView) (bytes : ℕ) (p : Position) : Type 0 where
  pub few : p.index ≤ length m.chunks
  pub within : p.index * chunk_length ≤ bytes
  pub near : IsWithinFourfold (length m.chunks) bytes p.index
  pub own : p.file_id ≡ m.file_id
  pub chain_is : p.chain ≡ chain (take p.index m.chunks)
  pub tagged : p.tag ≡ position_tag m.key p.index p.file_id p.chain

-- a position at which a reader may continue if only so many bytes of a run's output exist: the
-- run's own position if its chunks are no more than these, and else one after fewer that is near
pub record IsPositionWithin (r : Run) (bytes : ℕ) (p : Position) : Type 0 where
  pub few : p.index ≤ whole_chunks r
  pub within : p.index * chunk_length ≤ bytes
  pub near : IsWithinFourfold (whole_chunks r) bytes p.index
  pub own : BelongsTo p r.file
  pub chain_is : p.chain ≡ chain_over p.index (held r)

-- marks are returned if the run came to its payload and positions are kept, and mark its positions
abbrev pub FindsMarks : Option Run → PositionPolicy → Option MarksView → Type 0
FindsMarks None keep marks = marks ≡ None
FindsMarks (Some r) Dropped marks = marks ≡ None
FindsMarks (Some r) Kept marks = IsSomeAnd marks
    (λ m. (bytes : ℕ) (p : Position) → IsMarked m bytes p → IsPositionWithin r bytes p)

-- ---- The end of a run.

-- a stop before anything was written: it has no position
pub record WritesNone (old new : Ports) (stopped : Stopped) : Type 0 where
  pub sink : new.sink ≡ old.sink
  pub written : stopped.written ≡ 0
  pub position : stopped.position ≡ None

-- the end of the source was not seen, and what came has no fault
abbrev pub HasNoFault : Run → Type 0
HasNoFault r = (r.ended ≡ false) × (has_failed (run_outcome r).status ≡ false)

-- the fault of a stop in a payload, and when it comes. Unless the sink failed, all plaintext was
-- written; no more came only if what did has no fault; and if the sink failed, some plaintext was
-- not written, or the end of the file was seen and only the flush was left
abbrev pub PayloadFails : (Never : Type 0) → Ports → Ports → Run → FileFault → Type 0
PayloadFails Never old new r (Stream fault) = (r.out ≡ run_text r)
    × ((run_outcome r).status ≡ Failed fault) × NoneFailed old new
PayloadFails Never old new r Read = (r.out ≡ run_text r) × HasNoFault r × ReadFailed old new
PayloadFails Never old new r Write =
    ((length r.out < length (run_text r)) ⊎ ((run_outcome r).status ≡ Done)) × WriteFailed old new
PayloadFails Never old new r ReadNeverEnds = (r.out ≡ run_text r) × HasNoFault r × Never
    × NoneFailed old new
PayloadFails Never old new r other = ⊥

-- a run that stopped in its payload
pub record StopsInPayload (keep : PositionPolicy) (Allows : Header → List ℕ → Type 0)
    (Never : Type 0) (old new : Ports) (stopped : Stopped) (r : Run) : Type 0 where
  pub is : IsRun Allows old new stopped.written r
  pub here : GivesPosition keep (IsPositionOf r) stopped.position
  pub why : PayloadFails Never old new r stopped.fault

-- a run that wrote all of its plaintext and saw the end
pub record IsDone (Allows : Header → List ℕ → Type 0) (old new : Ports) (written : ℕ) (r : Run)
    : Type 0 where
  pub is : IsRun Allows old new written r
  pub whole : r.out ≡ run_text r
  pub ended : r.ended ≡ true
  pub done : (run_outcome r).status ≡ Done
