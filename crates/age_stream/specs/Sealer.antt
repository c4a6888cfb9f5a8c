-- The contract view of a sealer, the results of its calls, and the sealing of a complete plaintext.
use Rattle.std.specs.Prelude.{◌≡◌, ℕ, ◌-◌, List, [], ◌∷◌, Option, Some, None, length, min, Bool, nat_lt, ◌==◌}
use Rattle.std.specs.Prelude.{◌&&◌, ◌||◌, if◌then◌else◌, ◌<◌, ◌++◌, take, true, false, Result, IfOk, IfErr}
use Rattle.std.specs.Prelude.{IfSome, OnOk, OnErr, ◌+◌, ◌*◌, ◌≤◌}
use Rattle.std.specs.Borrow.{Bor}
use Rattle.std.specs.declared.vec.Vec.{Vec}
use Rattle.age_chunk.specs.{chunk_limit, last_index, last_chunk, sealed_before_last, block_bytes, payload}
use Rattle.age_chunk.specs.{chunk_count, stream_fault_number, Seals, text_length, OpensBlock, tag_length}
use Rattle.age_chunk.specs.declared.fault.StreamFault.{StreamFault}
use Rattle.age_chunk.specs.declared.fault.StreamKind.TheVariants.{TooManyChunks}
use Rattle.age_stream.specs.Opener.{chunk_bytes}
use Rattle.age_stream.specs.Laws.{GivesBack, HasUnambiguousEnd}
use Rattle.age_stream.specs.declared.sealer.SealerState.{SealerState}
use Rattle.age_stream.specs.declared.step.Step.{Step}
use Rattle.age_stream.specs.declared.whole_text.SealFault.{SealFault}
use Rattle.age_stream.specs.declared.whole_text.SealFault.TheVariants.{Stream, Memory}

-- ---- The contract view of a sealer, and the results of its calls. A chunk has n bytes.

-- the view of a sealer: its key, the plaintext of the chunk that is open, that chunk's number,
-- whether a call was refused, and whether the last chunk was sealed
pub record SealerView (B : Type 0) : Type 0 where
  pub key : B
  pub held : List ℕ
  pub index : ℕ
  pub failed : Bool
  pub finished : Bool

-- the plaintext of the open chunk: the buffer; or, while the buffer's block is lent, the one byte
-- that is kept beside it
abbrev pub text_beside : Option ℕ → List ℕ → List ℕ
text_beside None text = text
text_beside (Some byte) text = byte ∷ []

module _ {B : Type 0} {n : ℕ} {g : _} where
  -- the plaintext of the open chunk of a sealer's state
  abbrev pub held_text : SealerState B n g → List ℕ
  held_text s = text_beside s.beside s.buffer.items

  -- the view of a sealer's state
  abbrev pub sealer_view : SealerState B n g → SealerView B
  sealer_view s = record {
    key = s.key.now;
    held = held_text s;
    index = s.index;
    failed = s.failed;
    finished = s.finished;
  }

-- a sealer was given this plaintext: it holds the last chunk, and its index is that chunk's
pub record Holds {B : Type 0} (n : ℕ) (s : SealerView B) (text : List ℕ) : Type 0 where
  pub index : s.index ≡ last_index n text
  pub held : s.held ≡ last_chunk n text

-- a further byte would need chunk 2^48, or did
abbrev pub needs_too_many : {B : Type 0} → ℕ → SealerView B → List ℕ → Bool
needs_too_many n s piece =
    s.failed || (nat_lt 0 (length piece) && (length s.held == n && s.index == chunk_limit - 1))

-- the fault of a plaintext that has too many chunks
abbrev pub too_many : ℕ → StreamFault
too_many index = record { kind = TooManyChunks; chunk = index }

-- the number of bytes of a piece that are taken: as many as fit, or, after a chunk that is full,
-- one
abbrev pub step_len : ℕ → List ℕ → List ℕ → ℕ
step_len n held piece =
    if length piece == 0 then 0
    else (if nat_lt (length held) n then min (n - length held) (length piece) else 1)

-- ---- The results of a sealer's calls, and the sealer once a call returned and the loan ended. A
-- chunk has n bytes.

-- a sealer refused a call, and is otherwise unchanged
pub record IsRefused {B : Type 0} (old new : SealerView B) : Type 0 where
  pub key : new.key ≡ old.key
  pub held : new.held ≡ old.held
  pub index : new.index ≡ old.index
  pub finished : new.finished ≡ old.finished
  pub failed : new.failed ≡ true

module _ {B : Type 0} (n : ℕ) (old : SealerView B) where
  -- a sealer after `feed`
  pub record IsTaken (piece : List ℕ) (answer : Result Step StreamFault)
      (new : SealerView B) : Type 0 where
    -- the key stays
    pub key : new.key ≡ old.key
    -- a piece never finishes it
    pub unfinished : new.finished ≡ false
    -- the answer says which chunk is open
    pub index : IfOk answer (λ step. step.index ≡ new.index)
    -- after Ok it isn't refused
    pub unfailed : OnOk answer (new.failed ≡ false)
    -- the plaintext that it was given has grown by what was taken
    pub holds : IfOk answer (λ step. (text : List ℕ) → Holds n old text
        → Holds n new (text ++ take step.taken piece))
    -- a refusal leaves all else unchanged
    pub refused : OnErr answer (IsRefused old new)
    -- an empty piece changes nothing
    pub unchanged : length piece ≡ 0 → new ≡ old

  -- a sealer after `finish`
  pub record IsFinished (answer : Result (Bor (List ℕ)) StreamFault)
      (new : SealerView B) : Type 0 where
    -- the key stays
    pub key : new.key ≡ old.key
    -- the last chunk was sealed
    pub finished : OnOk answer (new.finished ≡ true)
    -- after Ok it isn't refused
    pub unfailed : OnOk answer (new.failed ≡ false)
    -- the sealer stays at the last chunk
    pub index : OnOk answer (new.index ≡ old.index)
    -- the block that was lent is in the buffer
    pub held : IfOk answer (λ block. new.held ≡ block.now)
    -- a refusal leaves all else unchanged
    pub refused : OnErr answer (IsRefused old new)
    -- a refusal doesn't finish the sealer
    pub unfinished : OnErr answer (new.finished ≡ false)

-- the results of `feed` and `finish`, for blocks of `size` bytes
module _ {B : Type 0} (sealing : B → Seals) (size : ℕ) (old : SealerView B) where
  -- the result of `feed`
  pub record Takes (piece : List ℕ) (answer : Result Step StreamFault) : Type 0 where
    -- bytes are taken as far as the open chunk has room, or one after a full chunk
    pub taken : IfOk answer
        (λ step. step.taken ≡ step_len (text_length size) old.held piece)
    -- the block that is lent is what these bytes add to the blocks before the last
    pub chunk : IfOk answer (λ step. (text : List ℕ) → Holds (text_length size) old text
        → block_bytes (sealed_before_last (sealing old.key) (text_length size)
        (text ++ take step.taken piece))
        ≡ block_bytes (sealed_before_last (sealing old.key) (text_length size) text)
        ++ chunk_bytes step.chunk)
    -- a block that is lent is a full one
    pub whole : IfOk answer (λ step. IfSome step.chunk (λ block. length block.now ≡ size))
    -- no byte that is taken needs a chunk too many
    pub fits : IfOk answer (λ _. needs_too_many (text_length size) old piece ≡ false)
    -- a byte that is refused needs one, and the fault names the chunk that is open
    pub refused : IfErr answer
        (λ fault. (needs_too_many (text_length size) old piece ≡ true)
        × (fault ≡ too_many old.index))

  -- the result of `finish`
  pub record Finishes (answer : Result (Bor (List ℕ)) StreamFault) : Type 0 where
    -- the block that is lent ends the payload of the plaintext that the sealer was given
    pub chunk : IfOk answer (λ block. (text : List ℕ) → Holds (text_length size) old text
        → payload (sealing old.key) (text_length size) text
        ≡ block_bytes (sealed_before_last (sealing old.key) (text_length size) text)
        ++ block.now)
    -- no feed was refused before
    pub fits : OnOk answer (old.failed ≡ false)
    -- the open chunk is one that a payload may have
    pub limit : old.index < chunk_limit
    -- the end is refused only if a feed was, with the same fault
    pub refused : IfErr answer (λ fault. (old.failed ≡ true) × (fault ≡ too_many old.index))

-- ---- The sealing of a complete plaintext, and its faults. A chunk has n bytes.

-- the faults of sealing: a plaintext has more than 2^48 chunks, which is reported at the last that
-- a payload may have; or memory ran out, if the payload has more bytes than there was room for
abbrev pub SealRefuses : ℕ → List ℕ → ℕ → SealFault → Type 0
SealRefuses n text room (Stream fault) = (chunk_limit * n < length text)
    × (fault ≡ too_many (chunk_limit - 1))
SealRefuses n text room Memory = room < length text + chunk_count n text * tag_length

module _ (sealing : Seals) (n : ℕ) (text : List ℕ) where
  -- the result of `seal_into`, after the bytes before the call, if there is this much room for more
  pub record AppendsPayload (old : List ℕ) (room : ℕ) (answer : Result (Unit {0}) SealFault)
      (new : List ℕ) : Type 0 where
    -- the payload is appended
    pub sealed : OnOk answer (new ≡ old ++ payload sealing n text)
    -- Ok comes only for a plaintext of at most 2^48 chunks
    pub few : OnOk answer (chunk_count n text ≤ chunk_limit)
    -- a refusal has a reason
    pub refused : IfErr answer (SealRefuses n text room)
    -- a refusal adds nothing
    pub unchanged : OnErr answer (new ≡ old)

module _ (sealing : Seals) (opening : OpensBlock) (n : ℕ) (text : List ℕ) where
  -- the result of `seal_all`
  pub record SealsPayload {Z : Type 0} (answer : Result (Vec ℕ Z) SealFault) : Type 0 where
    -- the answer is the payload
    pub sealed : IfOk answer (λ bytes. bytes.items ≡ payload sealing n text)
    -- Ok comes only for a plaintext of at most 2^48 chunks
    pub few : OnOk answer (chunk_count n text ≤ chunk_limit)
    -- the payload, delivered in any pieces and then an end, is held as the plaintext again, with
    -- the status Done
    pub gives_back : IfOk answer (λ bytes. HasUnambiguousEnd sealing opening n text
        → GivesBack opening n bytes.items text)
    -- a refusal has a reason; there was no room before
    pub refused : IfErr answer (SealRefuses n text 0)

-- ---- The numbers of these faults among all faults.

-- the number of a fault of sealing in the list of all faults (docs/FAULTS.md)
abbrev pub seal_fault_number : SealFault → ℕ
seal_fault_number (Stream fault) = stream_fault_number fault.kind
seal_fault_number Memory = 28

-- the chunk of a fault of sealing, if it has one
abbrev pub seal_fault_place : SealFault → Option ℕ
seal_fault_place (Stream fault) = Some fault.chunk
seal_fault_place Memory = None
