-- A reader: how it begins, what one call and a list of calls do to it, and what a caller may rely
-- on after any calls.
use Rattle.std.specs.Prelude.{◌≡◌, ℕ, ◌<◌, IsSome, false, List, [], Some, ◌⊎◌, ◌+◌, ◌≤◌, length, take, drop}
use Rattle.std.specs.Prelude.{◌≢◌, ◌==◌, Bool, true, ◌∷◌, ◌++◌, if◌then◌else◌, ◌*◌}
use Rattle.std.specs.List.{flat_map, AllByRecursion}
use Rattle.age_stanza.specs.{HeadText, header_limit, HasHeader, NoFault, IsFault, memory_fault}
use Rattle.age_stanza.specs.{head_fault_number}
use Rattle.age_stanza.specs.declared.header.Header.{Header}
use Rattle.age_chunk.specs.{chunk_limit, chunk_length, block_length, chunk_count, payload}
use Rattle.age_stream.specs.Segment.{Segment}
use Rattle.age_stream.specs.{Outcome, outcome, released, rest_bytes, fresh, with_piece, with_end}
use Rattle.age_stream.specs.declared.step.Status.TheVariants.{Open}
use Rattle.age_stream.specs.{HasUnambiguousEnd, IsAuthentic, IsPrefixOf, IsFirstWrong}
use Rattle.age_keys.specs.{unbox, Opens, Refuses, key_fault_number, box}
use Rattle.age_keys.specs.{KeyFault}
use Rattle.age_c.specs.Calls.{reader_status, more, answer_of, misused}
use Rattle.age_c.specs.declared.reader.Reader.{Reader}
use Rattle.age_c.specs.declared.start.StartFault.{StartFault}
use Rattle.age_c.specs.declared.start.StartFault.TheVariants.{More, Head, Key}

-- ---- The segment and status that a reader's numbers stand for.

-- the outcome of a segment under the reader's keys
abbrev pub reader_outcome : Reader → Segment → Outcome
reader_outcome r s = outcome (unbox r.file_key r.nonce) chunk_length s

-- the reader was given this segment: it stands where the outcome says, and was given full blocks
-- while it is open
pub record IsAt (r : Reader) (s : Segment) : Type 0 where
  pub status : reader_status r.state r.fault_chunk ≡ Some (reader_outcome r s).status
  pub index : r.chunk ≡ (reader_outcome r s).index
  pub whole : (reader_outcome r s).status ≡ Open → rest_bytes chunk_length s.bytes ≡ []
  pub timely : s.ended ≡ false → s.late ≡ false

-- the plaintext that a reader of a segment releases
abbrev pub reader_text : Reader → Segment → List ℕ
reader_text r s = released (unbox r.file_key r.nonce) chunk_length s

-- the file and its keys are the same
pub record SameFile (was now : Reader) : Type 0 where
  pub file_key : now.file_key ≡ was.file_key
  pub nonce : now.nonce ≡ was.nonce
  pub payload_at : now.payload_at ≡ was.payload_at

-- the numbers stand for a status, at a chunk that a payload may have
pub record CanBeUsed (r : Reader) : Type 0 where
  pub status : IsSome (reader_status r.state r.fault_chunk)
  pub chunk : r.chunk < chunk_limit

-- ---- The beginning of a file: its header is opened, and the payload nonce is read.

-- the bytes begin with a header's text of that length
pub record HasHead (front : List ℕ) (header : Header) (len : ℕ) : Type 0 where
  pub text : HeadText header (take len front)
  pub within : len ≤ length front

-- the bytes begin with a header's text of that length and 16 bytes more
pub record HasFront (front : List ℕ) (header : Header) (len : ℕ) : Type 0 where
  pub text : HeadText header (take len front)
  pub within : len + 16 ≤ length front

-- the bytes begin with a header and the payload's nonce, the file key is one that is allowed for
-- that header and that its MAC confirms, and the reader was given nothing of the payload
pub record IsStarted (Allows : Header → List ℕ → Type 0) (front : List ℕ)
    (r : Reader) : Type 0 where
  pub header : Header
  pub len : ℕ
  pub has : HasFront front header len
  pub opened : Opens Allows header r.file_key
  pub nonce : r.nonce ≡ take 16 (drop len front)
  pub payload_at : r.payload_at ≡ len + 16
  pub start : IsAt r (fresh 0)

-- no header is read: the bytes begin with none, and none of their lines is faulty, so that more of
-- them are needed; or the header is faulty, or took too much memory
abbrev pub HasNoHead : List ℕ → StartFault → Type 0
HasNoHead front More = (length front < header_limit) × (¬ HasHeader front) × NoFault front
HasNoHead front (Head fault) =
    (fault ≡ memory_fault) ⊎ ((¬ HasHeader front) × IsFault front fault)
HasNoHead front (Key fault) = ⊥

-- no header and nonce are read: no header is, or fewer than 16 bytes follow it
abbrev pub HeadRefuses : List ℕ → StartFault → Type 0
HeadRefuses front More = HasNoHead front More
    ⊎ ((header : Header) × (len : ℕ) × HasHead front header len × (length front < len + 16))
HeadRefuses front fault = HasNoHead front fault

-- the file isn't begun: no header is read, or it isn't opened
abbrev pub StartRefuses : (Header → List ℕ → Type 0) → (Header → KeyFault → Type 0) → List ℕ
    → StartFault → Type 0
StartRefuses Allows Refused front (Key fault) = (header : Header) × (len : ℕ)
    × HasFront front header len × Refuses Allows Refused header fault
StartRefuses Allows Refused front fault = HeadRefuses front fault

-- the number that a call answers with if the file isn't begun
abbrev pub start_fault_number : StartFault → ℕ
start_fault_number More = more
start_fault_number (Head fault) = head_fault_number fault.kind
start_fault_number (Key fault) = key_fault_number fault

-- the answer is a refusal's
abbrev pub IsStartRefusal : (Header → List ℕ → Type 0) → (Header → KeyFault → Type 0) → List ℕ
    → ℕ → Type 0
IsStartRefusal Allows Refused front answer = (fault : StartFault) × (answer ≡ start_fault_number fault)
    × StartRefuses Allows Refused front fault

-- ---- One call on a reader.

-- the segment after a block
abbrev pub after_block : List ℕ → Segment → Segment
after_block block s = with_piece s block

-- the segment after the last bytes and the end
abbrev pub after_end : List ℕ → Segment → Segment
after_end rest s = with_end (with_piece s rest)

-- a call moved a reader, or what has one, from any segment that it was given to what comes after
-- it, and wrote what that released more; the result is its fault, or 0, and with a fault nothing
-- was written
pub record Moves {State : Type 0} (reader : State → Reader) (Is : State → Segment → Type 0)
    (after : Segment → Segment) (old : State) (answer : ℕ) (text : List ℕ) (new : State) : Type 0 where
  pub at : (s : Segment) → Is old s → Is new (after s)
  pub released : (s : Segment) → Is old s
      → reader_text (reader old) (after s) ≡ reader_text (reader old) s ++ text
  pub same : SameFile (reader old) (reader new)
  pub answer_is : answer ≡ answer_of (reader new).state
  pub nothing : answer ≢ 0 → text ≡ []

-- a reader took a block, or what stands for one
abbrev pub TakesBlock : (Segment → Segment) → Reader → ℕ → List ℕ → Reader → Type 0
TakesBlock = Moves (λ r. r) IsAt

-- an end answers 0 only once the last chunk was opened
pub record TakesEnd (rest : List ℕ) (old : Reader) (answer : ℕ) (text : List ℕ)
    (new : Reader) : Type 0 where
  pub takes : TakesBlock (after_end rest) old answer text new
  pub done : answer ≡ 0 → new.state ≡ 3

-- the reader is at a chunk as if it had been given nothing: what it was given before, a fault and
-- an end are forgotten
pub record GoesTo (chunk : ℕ) (old new : Reader) : Type 0 where
  pub at : IsAt new (fresh chunk)
  pub unrefused : new.fault_chunk ≡ 0
  pub same : SameFile old new

-- ---- A list of calls.

-- a call: whether it is an end, the bytes that it took, what it answered and wrote, and the reader,
-- or what has one, after it
pub record Call (State : Type 0) : Type 0 where
  pub is_end : Bool
  pub bytes : List ℕ
  pub answer : ℕ
  pub text : List ℕ
  pub after : State

-- the segment after a call that wasn't misused
abbrev pub after_call : {State : Type 0} → Call State → Segment → Segment
after_call c s = if c.is_end then after_end c.bytes s else after_block c.bytes s

module _ {State : Type 0} (reader : State → Reader) (Is : State → Segment → Type 0) where
  -- this is a call on the state: it was misused, and changed and wrote nothing; or it took what it
  -- was given, and then, if it is an end that answered 0, the last chunk was opened
  abbrev pub IsCall : State → Call State → Type 0
  IsCall old c =
      ((c.answer ≡ misused) × (c.after ≡ old) × (c.text ≡ []))
      ⊎ ((c.answer ≢ misused) × Moves reader Is (after_call c) old c.answer c.text c.after
      × (c.is_end ≡ true → c.answer ≡ 0 → (reader c.after).state ≡ 3))

  -- the calls were made one after the other, and nothing else changed the state
  abbrev pub AreCalls : State → List (Call State) → Type 0
  AreCalls old [] = Unit {0}
  AreCalls old (c ∷ calls) = IsCall old c × AreCalls c.after calls

-- the reader after calls
abbrev pub last_reader : Reader → List (Call Reader) → Reader
last_reader r [] = r
last_reader r (c ∷ calls) = last_reader c.after calls

-- the segment that calls gave: a call that was misused gave nothing
abbrev pub segment_from : {State : Type 0} → Segment → List (Call State) → Segment
segment_from s [] = s
segment_from s (c ∷ calls) =
    segment_from (if c.answer == misused then s else after_call c s) calls

-- the plaintexts that calls wrote, one after the other
abbrev pub texts_of : {State : Type 0} → List (Call State) → List ℕ
texts_of calls = flat_map (λ c. c.text) calls

-- a call as its caller sees it: what it took, the answer, how much it wrote, and its output and the
-- state after it
abbrev pub call_of : {State : Type 0} → Bool → List ℕ → ℕ → ℕ → List ℕ → State → Call State
call_of is_end bytes answer written out after = record {
  is_end = is_end;
  bytes = bytes;
  answer = answer;
  text = take written out;
  after = after;
}

-- ---- The segment that any calls gave to one reader, and their results.

-- the segment that calls gave to a reader that was at this chunk and was given nothing before
abbrev pub given_by : {State : Type 0} → ℕ → List (Call State) → Segment
given_by start calls = segment_from (fresh start) calls

-- each of the calls that wasn't misused has this answer
abbrev pub AllAnswer : {State : Type 0} → ℕ → List (Call State) → Type 0
AllAnswer answer calls = AllByRecursion (λ c. c.answer ≢ misused → c.answer ≡ answer) calls

-- ---- The promise to a caller.

-- calls on the reader, or on what has it, since it was at this chunk
module _ {State : Type 0} (reader : State → Reader) (r : Reader) (text : List ℕ) (start : ℕ) where
  -- the plaintext from that chunk on
  abbrev pub text_there : List ℕ
  text_there = drop (start * chunk_length) text

  -- no block that the calls gave opens except as the writer of the plaintext sealed it
  abbrev pub AreCallsAuthentic : List (Call State) → Type 0
  AreCallsAuthentic calls =
      IsAuthentic (box r.file_key r.nonce) (unbox r.file_key r.nonce) chunk_length text
      (given_by start calls)

  -- the calls gave the payload of the plaintext from that chunk on, as the writer sealed it, and
  -- its end, and no more; calls may be misused in between
  abbrev pub AreUndamaged : List (Call State) → Type 0
  AreUndamaged calls = given_by start calls ≡ record {
    start = start;
    bytes = drop (start * block_length) (payload (box r.file_key r.nonce) chunk_length text);
    ended = true;
    late = false;
  }

  -- the promise to a caller of any calls
  pub record IsTextRight (calls : List (Call State)) : Type 0 where
    -- the bytes that were written are a prefix of the plaintext from that chunk on
    pub prefix : AreCallsAuthentic calls → IsPrefixOf (texts_of calls) text_there
    -- the bytes are all of that if the last call is an end that returned 0, and the chunk begins
    -- within the plaintext: so then the length of the plaintext is known
    pub done : AreCallsAuthentic calls → (before : List (Call State)) (last : Call State)
        → calls ≡ before ++ last ∷ [] → last.is_end ≡ true → last.answer ≡ 0
        → (texts_of calls ≡ text_there) × (start * chunk_length ≤ length text)
    -- an undamaged payload gives all of it, and 0 each time
    pub whole : HasUnambiguousEnd (box r.file_key r.nonce) (unbox r.file_key r.nonce) chunk_length text
        → start < chunk_count chunk_length text → AreUndamaged calls
        → (texts_of calls ≡ text_there) × AllAnswer 0 calls
    -- 17 says that a block isn't the writer's, the one whose number the reader has, and that those
    -- before it are
    pub damaged : AreCallsAuthentic calls → AllByRecursion (λ (c : Call State). c.answer ≡ 17
        → IsFirstWrong (box r.file_key r.nonce) chunk_length text (given_by start calls)
        (reader c.after).fault_chunk) calls
    -- 22 never comes
    pub few : AreCallsAuthentic calls → AllByRecursion (λ (c : Call State). c.answer ≢ 22) calls

-- ---- The headline for a caller.

-- the promise holds after any calls on a reader that is at a chunk and was given nothing, as one
-- that was just begun is at chunk 0, for every plaintext of at most 2^48 chunks
abbrev pub CallsAreWritten : Type 0
CallsAreWritten = (r : Reader) (start : ℕ) → IsAt r (fresh start) → start < chunk_limit
    → (calls : List (Call Reader)) → AreCalls (λ r. r) IsAt r calls → (text : List ℕ)
    → chunk_count chunk_length text ≤ chunk_limit → IsTextRight (λ r. r) r text start calls

-- a seek that answered 0: the chunk that it went to, and the reader after it; and the calls up to
-- the next such seek. A seek that was misused stands among them, as a call that was misused
pub record Part : Type 0 where
  pub chunk : ℕ
  pub begun : Reader
  pub calls : List (Call Reader)

-- seeks and calls were made one after the other, and nothing else changed the reader
abbrev pub AreParts : Reader → List Part → Type 0
AreParts r [] = Unit {0}
AreParts r (p ∷ parts) = (p.chunk < chunk_limit) × GoesTo p.chunk r p.begun
    × AreCalls (λ r. r) IsAt p.begun p.calls × AreParts (last_reader p.begun p.calls) parts

-- each seek goes on in the same file, and what the calls after it did is right, whatever came
-- before
abbrev pub PartsAreWritten : Type 0
PartsAreWritten = (r : Reader) (parts : List Part) → AreParts r parts
    → (text : List ℕ) → chunk_count chunk_length text ≤ chunk_limit
    → AllByRecursion (λ (p : Part). SameFile r p.begun × IsTextRight (λ r. r) p.begun text p.chunk p.calls)
    parts
