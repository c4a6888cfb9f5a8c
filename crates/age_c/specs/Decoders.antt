-- A decoder, which is given a file from its first byte on: what its numbers and bytes stand for, what
-- one call does to it, and what a caller may rely on after any calls.
use Rattle.std.specs.Prelude.{◌≡◌, ◌≢◌, ℕ, ◌+◌, ◌-◌, ◌*◌, ◌/◌, ◌<◌, ◌≤◌, List, [], ◌∷◌, ◌++◌, length, take}
use Rattle.std.specs.Prelude.{drop, min}
use Rattle.std.specs.Prelude.{Bool, true, false, map}
use Rattle.std.specs.List.{flat_map}
use Rattle.age_stanza.specs.declared.header.Header.{Header}
use Rattle.age_chunk.specs.{chunk_limit, chunk_length, block_length, chunk_count, payload}
use Rattle.age_stream.specs.{fresh, IsPrefixOf, HasUnambiguousEnd}
use Rattle.age_stream.specs.Segment.{Segment}
use Rattle.age_keys.specs.{box, unbox, FileOf, AllowsAlone, KeyFault, IsAllowed, IsPassphraseKey}
use Rattle.age_keys.specs.{PassphraseRefuses, IsSharedKey, SharedRefuses}
use Rattle.age_c.specs.Calls.{misused, more}
use Rattle.age_c.specs.Readers.{CanBeUsed, HasFront, IsStarted, IsStartRefusal, GoesTo, IsAt, Call, IsCall}
use Rattle.age_c.specs.Readers.{AreCallsAuthentic, AreUndamaged, AllAnswer, given_by}
use Rattle.age_c.specs.Streams.{StreamIsAt, FeedsStream, FinishesStream, room_to_feed}
use Rattle.age_c.specs.declared.decoder.Decoder.{Decoder}
use Rattle.age_c.specs.declared.reader.Reader.{Reader}
use Rattle.age_c.specs.declared.stream.Stream.{Stream}

-- ---- A decoder that waits for more of a header.

-- the bytes of the file that a decoder holds, in the memory that it is given for them
abbrev pub held_front : Decoder → List ℕ → List ℕ
held_front d front = take d.held front

-- no header that the bytes begin with is complete, with the nonce after it
abbrev pub HasNoFront : List ℕ → Type 0
HasNoFront bytes = (header : Header) (len : ℕ) → HasFront bytes header len → ⊥

-- the decoder was begun, and what it was given since is what it holds, in which no header and nonce
-- are complete
pub record Waits (d : Decoder) (front : List ℕ) : Type 0 where
  pub shut : d.open ≡ 0
  pub unrefused : d.fault ≡ 0
  pub within : d.held ≤ length front
  pub none : HasNoFront (held_front d front)

-- ---- A call that gives a decoder a header.

-- the call isn't misused: no header was opened or refused, and there is room for a byte more
pub record IsHeadCall (d : Decoder) (front : List ℕ) : Type 0 where
  pub shut : d.open ≡ 0
  pub unrefused : d.fault ≡ 0
  pub room : d.held < length front

-- the decoder waits for more: bytes are kept from the front of the piece, all of them unless there
-- is no more room
pub record HoldsHead (piece : List ℕ) (old : Decoder) (front : List ℕ) (taken : ℕ) (new : Decoder)
    (after : List ℕ) : Type 0 where
  pub most : taken ≤ length piece
  pub some : 0 < length piece → 0 < taken
  pub all : taken < length piece → new.held ≡ length after
  pub holds : held_front new after ≡ held_front old front ++ take taken piece
  pub waits : Waits old front → Waits new after

-- the header is open: the bytes that were held, and those of the piece that were taken, are the header
-- and the nonce, and nothing of the payload was given
pub record OpensHead (Allows : Header → List ℕ → Type 0) (piece : List ℕ) (old : Decoder)
    (front : List ℕ) (taken : ℕ) (new : Decoder) : Type 0 where
  pub most : taken ≤ length piece
  pub seen : ℕ
  pub started : IsStarted Allows (held_front old front ++ take seen piece) new.stream.reader
  pub ends : new.stream.reader.payload_at ≡ length (held_front old front) + taken
  pub empty : new.stream.held ≡ 0
  pub none : new.skip ≡ 0
  pub is_open : new.open ≡ 1
  pub unrefused : new.fault ≡ 0

-- the header is refused, for good: by the bytes that were held, and as many of the piece
pub record RefusesHead (Allows : Header → List ℕ → Type 0) (Refused : Header → KeyFault → Type 0)
    (piece : List ℕ) (old : Decoder) (front : List ℕ) (answer : ℕ) (new : Decoder) : Type 0 where
  pub seen : ℕ
  pub why : IsStartRefusal Allows Refused (held_front old front ++ take seen piece) answer
  pub fault : new.fault ≡ answer
  pub shut : new.open ≡ 0

-- the promise of a call that gives a header. `Allowed` says that the key is one that can be used
pub record TakesHead (Allowed : Type 0) (Allows : Header → List ℕ → Type 0)
    (Refused : Header → KeyFault → Type 0) (piece : List ℕ) (ended : Bool) (old new : Decoder)
    (front after : List ℕ) (answer taken : ℕ) : Type 0 where
  pub waits : answer ≡ 0 → new.open ≡ 0 → HoldsHead piece old front taken new after
  pub opens : answer ≡ 0 → new.open ≢ 0 → OpensHead Allows piece old front taken new
  pub refused : answer ≢ 0 → answer ≢ misused → RefusesHead Allows Refused piece old front answer new
  -- after the end it doesn't wait
  pub ended_is : ended ≡ true → answer ≡ 0 → new.open ≢ 0
  -- only after the end it says that more is needed
  pub cut : answer ≡ more → ended ≡ true
  -- a call that is misused changes nothing of it
  pub idle : answer ≡ misused → new ≡ old
  pub kept : held_front old after ≡ held_front old front
  pub none : answer ≢ 0 → taken ≡ 0
  pub fits : Allowed → IsHeadCall old front → HasNoFront (held_front old front) → answer ≢ misused
  pub meant : answer ≢ misused → Allowed × IsHeadCall old front

-- ---- A call that gives a decoder a payload.

-- the stream did this, and released a plaintext, of which what comes before the place that was sought
-- was left out
pub record Decodes (Does : ℕ → List ℕ → Stream → Type 0) (old new : Decoder) (answer written : ℕ)
    (before after : List ℕ) : Type 0 where
  pub text : List ℕ
  pub does : Does answer text new.stream
  pub wrote : take written after ≡ drop old.skip text
  pub skip_is : new.skip ≡ old.skip - length text
  -- no byte of the output after as many as were released was changed
  pub rest : drop (length text) after ≡ drop (length text) before
  pub still : new.open ≡ old.open
  pub unrefused : new.fault ≡ old.fault

-- the number of the chunk that is to be read first for a place of the plaintext, which may end at
-- the place, or before it, in a file of this length
abbrev pub chunk_for : Decoder → ℕ → ℕ → ℕ
chunk_for d place file_len = min ((place - 1) / chunk_length)
    ((file_len - d.stream.reader.payload_at - 1) / block_length)

-- the decoder is at a place of the plaintext, as if it had been given nothing but the header
pub record SeeksTo (place file_len : ℕ) (old : Decoder) (offset : ℕ) (new : Decoder) : Type 0 where
  pub goes : GoesTo (chunk_for old place file_len) old.stream.reader new.stream.reader
  pub within : chunk_for old place file_len < chunk_limit
  pub empty : new.stream.held ≡ 0
  pub place_is : chunk_for old place file_len * chunk_length + new.skip ≡ place
  -- the offset is where the block of that chunk is in the file
  pub offset_is : offset
      ≡ old.stream.reader.payload_at + chunk_for old place file_len * block_length
  pub is_open : new.open ≡ 1

-- ---- Any calls since the header was opened, or since the last seek.

-- a call that gave a payload, with the plaintext that its block or end released, and what it wrote of
-- that
pub record DecodeCall : Type 0 where
  pub call : Call Decoder
  pub wrote : List ℕ

-- the reader of a decoder
abbrev pub reader_in : Decoder → Reader
reader_in d = d.stream.reader

-- a decoder whose stream was given this segment
abbrev pub DecoderIsAt : Decoder → Segment → Type 0
DecoderIsAt d s = StreamIsAt d.stream s

-- a call on the decoder that gave a payload: it wrote what it released, without the bytes before
-- the place that was sought
pub record IsDecodeCall (old : Decoder) (c : DecodeCall) : Type 0 where
  pub is_call : IsCall reader_in DecoderIsAt old c.call
  pub wrote_is : c.wrote ≡ drop old.skip c.call.text
  pub skip_is : c.call.after.skip ≡ old.skip - length c.call.text

-- the calls were made one after the other, and nothing else changed the decoder
abbrev pub AreDecodeCalls : Decoder → List DecodeCall → Type 0
AreDecodeCalls d [] = Unit {0}
AreDecodeCalls d (c ∷ calls) = IsDecodeCall d c × AreDecodeCalls c.call.after calls

-- the calls on the decoder's stream
abbrev pub calls_in : List DecodeCall → List (Call Decoder)
calls_in calls = map (λ (c : DecodeCall). c.call) calls

-- the bytes that calls wrote, one after the other
abbrev pub wrote_all : List DecodeCall → List ℕ
wrote_all calls = flat_map (λ (c : DecodeCall). c.wrote) calls

-- the promise to a caller of any calls, if no block that they gave opens except as the writer of
-- the plaintext sealed it
pub record IsDecodedRight (d : Decoder) (text : List ℕ) (start place : ℕ) (calls : List DecodeCall)
    : Type 0 where
  -- the bytes that were written are a prefix of the plaintext from the place on
  pub prefix : AreCallsAuthentic reader_in (reader_in d) text start (calls_in calls)
      → IsPrefixOf (wrote_all calls) (drop place text)
  -- the bytes are all of that if the last call is an end that returned 0
  pub done : AreCallsAuthentic reader_in (reader_in d) text start (calls_in calls)
      → (before : List DecodeCall) (last : DecodeCall) → calls ≡ before ++ last ∷ []
      → last.call.is_end ≡ true → last.call.answer ≡ 0 → wrote_all calls ≡ drop place text
  -- an undamaged payload gives all of it, and 0 each time
  pub whole : HasUnambiguousEnd (box d.stream.reader.file_key d.stream.reader.nonce)
      (unbox d.stream.reader.file_key d.stream.reader.nonce) chunk_length text
      → start < chunk_count chunk_length text
      → AreUndamaged reader_in (reader_in d) text start (calls_in calls)
      → (wrote_all calls ≡ drop place text) × AllAnswer 0 (calls_in calls)

-- a decoder whose header was just opened is at place 0, and one that sought is at the place; what it
-- writes from there on is right
abbrev pub DecodesAreWritten : Type 0
DecodesAreWritten = (d : Decoder) (start place : ℕ) → IsAt d.stream.reader (fresh start)
    → d.stream.held ≡ 0 → start * chunk_length + d.skip ≡ place → start < chunk_limit
    → (calls : List DecodeCall) → AreDecodeCalls d calls → (text : List ℕ)
    → chunk_count chunk_length text ≤ chunk_limit → IsDecodedRight d text start place calls

-- a call as its caller sees it, with what it released
abbrev pub decode_call : Bool → List ℕ → ℕ → List ℕ → List ℕ → Decoder → DecodeCall
decode_call is_end bytes answer text wrote after = record {
  call = record { is_end = is_end; bytes = bytes; answer = answer; text = text; after = after };
  wrote = wrote;
}

-- each use of `decode` and `age_c_decode_end` is, by its contract, a call on the decoder, also one
-- that is misused
abbrev pub AnswersAreDecodeCalls : Type 0
AnswersAreDecodeCalls = (old new : Decoder) (piece before after : List ℕ) (answer taken written : ℕ)
    → ((it : Decodes (λ answer text new. FeedsStream piece old.stream answer taken text new) old new answer
    written before after) → answer ≢ misused
    → IsDecodeCall old (decode_call false (take taken piece) answer it.text (take written after) new))
    × ((it : Decodes (FinishesStream old.stream) old new answer written before after) → answer ≢ misused
    → IsDecodeCall old (decode_call true [] answer it.text (take written after) new))
    × ((is_end : Bool) (bytes : List ℕ) → answer ≡ misused → new ≡ old → written ≡ 0
    → IsDecodeCall old (decode_call is_end bytes answer [] (take written after) new))

-- ---- The keys that open a header.

-- a key of a decoder: a passphrase with its greatest work factor, a file key, or a shared secret
-- with the recipient
pub data DecoderKey : Type 0 where
  passphrase : List ℕ → ℕ → DecoderKey
  file_key : List ℕ → DecoderKey
  shared : List ℕ → List ℕ → DecoderKey

-- the key can be used
abbrev pub Allowed : DecoderKey → Type 0
Allowed (passphrase pass work) = IsAllowed pass work
Allowed (file_key key) = length key ≡ 16
Allowed (shared secret recipient) = (length secret ≡ 32) × (length recipient ≡ 32)

-- the header opens to this file key by the key of a decoder
abbrev pub Allows : DecoderKey → Header → List ℕ → Type 0
Allows (passphrase pass work) = IsPassphraseKey (record { pass = pass; max_log = work })
Allows (file_key key) = λ _ k. k ≡ key
Allows (shared secret recipient) = IsSharedKey (record { secret = secret; recipient = recipient })

-- the header is refused with this fault by the key of a decoder
abbrev pub Refuses : DecoderKey → Header → KeyFault → Type 0
Refuses (passphrase pass work) = PassphraseRefuses (record { pass = pass; max_log = work })
Refuses (file_key key) = λ _ _. ⊥
Refuses (shared secret recipient) = SharedRefuses (record { secret = secret; recipient = recipient })

-- ---- Any calls since the decoder was begun.

-- a call that gave a header: the memory and the piece that it was given, whether the file ended there,
-- what it answered and how much it took, and the decoder and the memory after it
pub record HeadCall : Type 0 where
  pub front : List ℕ
  pub piece : List ℕ
  pub ended : Bool
  pub answer : ℕ
  pub count : ℕ
  pub after : Decoder
  pub front_after : List ℕ

-- the bytes that a call took
abbrev pub taken_by : HeadCall → List ℕ
taken_by c = take c.count c.piece

module _ (Fits : Type 0) (Gives : Header → List ℕ → Type 0) (Refused : Header → KeyFault → Type 0) where
  -- the call did what `age_c_decode_head_..` promises for a key
  abbrev pub IsHeadCallOn : Decoder → HeadCall → Type 0
  IsHeadCallOn d c =
      TakesHead Fits Gives Refused c.piece c.ended d c.after c.front c.front_after c.answer c.count

  -- the calls were made one after the other, nothing else changed the decoder, and each was given
  -- memory that begins with the bytes that are held
  abbrev pub AreHeadCalls : Decoder → List ℕ → List HeadCall → Type 0
  AreHeadCalls d held [] = Unit {0}
  AreHeadCalls d held (c ∷ calls) = (held_front d c.front ≡ held) × IsHeadCallOn d c
      × AreHeadCalls c.after (held_front c.after c.front_after) calls

-- the decoder after calls that gave a header
abbrev pub decoder_after : Decoder → List HeadCall → Decoder
decoder_after d [] = d
decoder_after d (c ∷ calls) = decoder_after c.after calls

-- the bytes that calls took, one after the other
abbrev pub taken_all : List HeadCall → List ℕ
taken_all calls = flat_map taken_by calls

-- the bytes are a header that the key opens, and the nonce, and nothing of the payload was given
pub record HasOpened (Allows : Header → List ℕ → Type 0) (given : List ℕ) (d : Decoder) : Type 0 where
  pub more : List ℕ
  pub started : IsStarted Allows (given ++ more) d.stream.reader
  pub ends : d.stream.reader.payload_at ≡ length given
  pub empty : d.stream.held ≡ 0
  pub none : d.skip ≡ 0

-- the headline for a caller who decodes: after any calls on a decoder that was begun, if its header is
-- open, then what they took is the header and the nonce, and what any calls wrote after them is a
-- prefix of the plaintext, and all of it if the last is an end that answered 0
abbrev pub DecodersAreRight : Type 0
DecodersAreRight = (key : DecoderKey) (d : Decoder) → ((front : List ℕ) → Waits d front)
    → (heads : List HeadCall) → AreHeadCalls (Allowed key) (Allows key) (Refuses key) d [] heads
    → (decoder_after d heads).open ≢ 0
    → HasOpened (Allows key) (taken_all heads) (decoder_after d heads)
    × ((calls : List DecodeCall) → AreDecodeCalls (decoder_after d heads) calls → (text : List ℕ)
    → chunk_count chunk_length text ≤ chunk_limit
    → IsDecodedRight (decoder_after d heads) text 0 0 calls)

-- the headline for a caller who seeks: what any calls since the last seek wrote is a prefix of the
-- plaintext from that place on, and all of it if the last is an end that returned 0
abbrev pub SoughtIsRight : Type 0
SoughtIsRight = (place file_len : ℕ) (old : Decoder) (offset : ℕ) (new : Decoder)
    → SeeksTo place file_len old offset new
    → (calls : List DecodeCall) → AreDecodeCalls new calls → (text : List ℕ)
    → chunk_count chunk_length text ≤ chunk_limit
    → IsDecodedRight new text (chunk_for old place file_len) place calls

-- ---- A decoder opens what was written.

-- each call was given the next bytes of the file, in a piece of any length, and none its end
abbrev pub AreOfFile : List ℕ → List ℕ → List HeadCall → Type 0
AreOfFile file given [] = Unit {0}
AreOfFile file given (c ∷ calls) = (c.ended ≡ false)
    × ((rest : List ℕ) × (given ++ (c.piece ++ rest) ≡ file)) × AreOfFile file (given ++ taken_by c) calls

-- a decoder after it was given bytes of an age file: it waits for more of the header, or ran out of
-- memory, or is open with the file's keys, and was given the header and the nonce
pub data OpensFile (front key nonce given : List ℕ) (d : Decoder) : Type 0 where
  waits : d.open ≡ 0 → d.fault ≡ 0 → length given < length (front ++ nonce)
      → OpensFile front key nonce given d
  lacks_memory : d.open ≡ 0 → d.fault ≡ 28 → OpensFile front key nonce given d
  is_open : d.open ≢ 0 → given ≡ front ++ nonce → d.stream.reader.file_key ≡ key
      → d.stream.reader.nonce ≡ nonce → OpensFile front key nonce given d

-- a decoder opens each age file whose header gives its key nothing but the file's key, in whatever
-- pieces the header comes: as a file key does, and a passphrase for what an encoder wrote under it
abbrev pub DecodersOpenFiles : Type 0
DecodersOpenFiles = (key : DecoderKey) (header : Header) (file_key nonce text file : List ℕ)
    → (it : FileOf header file_key nonce text file)
    → AllowsAlone (Allows key) (Refuses key) header file_key → (d : Decoder)
    → ((front : List ℕ) → Waits d front) → (heads : List HeadCall)
    → AreHeadCalls (Allowed key) (Allows key) (Refuses key) d [] heads → AreOfFile file [] heads
    → OpensFile it.front file_key nonce (taken_all heads) (decoder_after d heads)

-- a decoder that opened an age file, given the payload in any pieces and then its end, gives the
-- plaintext, and 0 each time; unless a full last block opens as one before the last too
abbrev pub DecodersReadBack : Type 0
DecodersReadBack = (key : DecoderKey) (header : Header) (file_key nonce text file : List ℕ)
    → FileOf header file_key nonce text file
    → AllowsAlone (Allows key) (Refuses key) header file_key → (d : Decoder)
    → ((front : List ℕ) → Waits d front) → (heads : List HeadCall)
    → AreHeadCalls (Allowed key) (Allows key) (Refuses key) d [] heads → AreOfFile file [] heads
    → (decoder_after d heads).open ≢ 0 → (calls : List DecodeCall)
    → AreDecodeCalls (decoder_after d heads) calls → given_by 0 (calls_in calls) ≡ record {
      start = 0;
      bytes = payload (box file_key nonce) chunk_length text;
      ended = true;
      late = false;
    }
    → chunk_count chunk_length text ≤ chunk_limit
    → HasUnambiguousEnd (box file_key nonce) (unbox file_key nonce) chunk_length text
    → (wrote_all calls ≡ text) × AllAnswer 0 (calls_in calls)

-- ---- A piece that is taken whole.

-- the decoder after calls that gave a payload
abbrev pub decoder_last : Decoder → List DecodeCall → Decoder
decoder_last d [] = d
decoder_last d (c ∷ calls) = decoder_last c.call.after calls

-- the bytes that calls took
abbrev pub bytes_given : List DecodeCall → List ℕ
bytes_given calls = flat_map (λ (c : DecodeCall). c.call.bytes) calls

-- the call isn't misused: the header is open, and there is room for the plaintext of the blocks that the
-- piece fills
pub record IsPieceCall (d : Decoder) (piece : List ℕ) (room : ℕ) : Type 0 where
  pub is_open : d.open ≡ 1
  pub usable : CanBeUsed d.stream.reader
  pub short : d.stream.held < block_length
  pub enough : room_to_feed d.stream.held piece ≤ room

-- the decoder took these bytes of a payload, and wrote these of the plaintext, by calls that
-- `decodes_are_written` speaks of
pub record DecodesMore (old new : Decoder) (bytes wrote : List ℕ) : Type 0 where
  pub calls : List DecodeCall
  pub are : AreDecodeCalls old calls
  pub last : decoder_last old calls ≡ new
  pub given : bytes_given calls ≡ bytes
  pub wrote_is : wrote_all calls ≡ wrote
