-- A stream, which takes pieces of any length: what one call does to it, and what a caller may rely
-- on after any calls.
use Rattle.std.specs.List.{flat_map}
use Rattle.std.specs.Prelude.{◌≡◌, ◌≢◌, ℕ, ◌+◌, ◌*◌, ◌/◌, ◌<◌, ◌≤◌, List, [], length, take, Bool, true, ◌∷◌}
use Rattle.std.specs.Prelude.{false}
use Rattle.age_chunk.specs.{block_length, chunk_length, tag_length}
use Rattle.age_stream.specs.{with_end, with_piece}
use Rattle.age_stream.specs.Segment.{Segment}
use Rattle.age_stream.specs.declared.step.Status.TheVariants.{Open}
use Rattle.age_c.specs.Calls.{Answers}
use Rattle.age_c.specs.Readers.{CanBeUsed, IsAt, reader_outcome, Moves}
use Rattle.age_c.specs.Writers.{WritesOrRefuses, FeedsText, FinishesText, IsTextCall, IsLastTextCall}
use Rattle.age_c.specs.Writers.{RefusesText, TakesText}
use Rattle.age_c.specs.declared.stream.Stream.{Stream}
use Rattle.age_c.specs.declared.write_stream.WriteStream.{WriteStream}

-- ---- A stream that reads: what its numbers and bytes stand for, and what one call does to it.

-- ---- The segment that a stream's numbers and bytes stand for.

-- the bytes of the block that is open
abbrev pub held_block : Stream → List ℕ
held_block s = take s.held s.block

-- the stream was given this segment: its reader was given full blocks, and what came after them is
-- held, while the reader is open: less than a block
pub record StreamIsAt (s : Stream) (segment : Segment) : Type 0 where
  pub short : s.held < block_length
  pub blocks : Segment
  pub at : IsAt s.reader blocks
  pub is_open : 0 < s.held → (reader_outcome s.reader blocks).status ≡ Open
  pub given : segment ≡ with_piece blocks (held_block s)

-- ---- One call on a stream.

-- a call moved a stream from any segment that it was given to the next one
abbrev pub StreamMoves : (Segment → Segment) → Stream → ℕ → List ℕ → Stream → Type 0
StreamMoves = Moves (λ s. s.reader) StreamIsAt

-- bytes are taken from the front of a piece: none are passed over, some of a piece that isn't empty,
-- and all of them, unless a block was opened or no more are to come
pub record FeedsStream (piece : List ℕ) (old : Stream) (answer taken : ℕ) (text : List ℕ)
    (new : Stream) : Type 0 where
  pub moves : StreamMoves (λ (s : Segment). with_piece s (take taken piece)) old answer text new
  pub most : taken ≤ length piece
  pub some : 0 < length piece → 0 < taken
  pub all : taken < length piece → new.held ≡ 0

-- the room that the plaintext of the blocks needs that a piece fills
abbrev pub room_to_feed : ℕ → List ℕ → ℕ
room_to_feed held piece = (held + length piece) / block_length * chunk_length

-- an end answers 0 only once the last chunk was opened
pub record FinishesStream (old : Stream) (answer : ℕ) (text : List ℕ) (new : Stream) : Type 0 where
  pub moves : StreamMoves with_end old answer text new
  pub done : answer ≡ 0 → new.reader.state ≡ 3

-- the call of an end isn't misused: the stream can be used, and there is room for the plaintext of what
-- it holds
pub record IsFinishCall (s : Stream) (out : List ℕ) : Type 0 where
  pub usable : CanBeUsed s.reader
  pub short : s.held < block_length
  pub room : s.held ≤ length out + tag_length

-- ---- Any calls on a stream that writes.

-- a call: whether it is an end, the plaintext that it took, what it answered and wrote, and the
-- stream after it
pub record TextCall : Type 0 where
  pub is_end : Bool
  pub text : List ℕ
  pub answer : ℕ
  pub bytes : List ℕ
  pub after : WriteStream

-- this is a call on the stream: if it doesn't answer 0, it changed, took and wrote nothing
abbrev pub IsTextCallOn : WriteStream → TextCall → Type 0
IsTextCallOn s c =
    (c.answer ≢ 0 → (c.after ≡ s) × (c.text ≡ []) × (c.bytes ≡ []))
    × (c.answer ≡ 0 → c.is_end ≡ false → TakesText c.text s c.bytes c.after)
    × (c.answer ≡ 0 → c.is_end ≡ true → (c.text ≡ []) × FinishesText s c.bytes c.after)

-- the calls were made one after the other, nothing else changed the stream, and none of them is an
-- end that answered 0
abbrev pub AreTextCalls : WriteStream → List TextCall → Type 0
AreTextCalls s [] = Unit {0}
AreTextCalls s (c ∷ calls) = IsTextCallOn s c × (c.is_end ≡ true → c.answer ≢ 0)
    × AreTextCalls c.after calls

-- the stream after the calls
abbrev pub stream_after : WriteStream → List TextCall → WriteStream
stream_after s [] = s
stream_after s (c ∷ calls) = stream_after c.after calls

-- the plaintext that calls took, one after the other
abbrev pub text_taken : List TextCall → List ℕ
text_taken calls = flat_map (λ (c : TextCall). c.text) calls

-- the bytes that calls wrote, one after the other
abbrev pub bytes_written : List TextCall → List ℕ
bytes_written calls = flat_map (λ (c : TextCall). c.bytes) calls

-- a call as its caller sees it
abbrev pub text_call_of : Bool → List ℕ → ℕ → ℕ → List ℕ → WriteStream → TextCall
text_call_of is_end text answer written out after = record {
  is_end = is_end;
  text = text;
  answer = answer;
  bytes = take written out;
  after = after;
}

-- each use of `feed_text` and `age_c_finish_text` is, by its contract, a call on the stream
abbrev pub AnswersAreTextCalls : Type 0
AnswersAreTextCalls = (old new : WriteStream) (piece before after : List ℕ) (answer taken written : ℕ)
    → (Answers (IsTextCall old piece before) (WritesOrRefuses (FeedsText piece taken old)
    (RefusesText piece old) old) old new answer written before after
    → (answer ≢ 0 → taken ≡ 0)
    → IsTextCallOn old (text_call_of false (take taken piece) answer written after new))
    × (Answers (IsLastTextCall old before) (WritesOrRefuses (FinishesText old) (λ _. ⊥) old)
    old new answer written before after
    → IsTextCallOn old (text_call_of true [] answer written after new))
