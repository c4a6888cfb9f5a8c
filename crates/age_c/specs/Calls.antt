-- The results of the C library's calls: their numbers, and what they say of a file's size.
use Rattle.std.specs.Prelude.{ℕ, ◌==◌, ◌&&◌, nat_le, Option, Some, None, if◌then◌else◌, ◌≡◌, ◌≢◌, ◌≤◌, List}
use Rattle.std.specs.Prelude.{length, take, drop, ◌+◌, ◌%◌}
use Rattle.age_chunk.specs.{tag_length, stream_fault_number, block_length}
use Rattle.age_chunk.specs.declared.fault.StreamKind.{StreamKind}
use Rattle.age_chunk.specs.declared.fault.StreamKind.TheVariants.{ChunkDamaged, ChunkCut, EmptyLast}
use Rattle.age_chunk.specs.declared.fault.StreamKind.TheVariants.{Truncated, Trailing, TooManyChunks}
use Rattle.age_stream.specs.{IsTextLength, chunks_for}
use Rattle.age_stream.specs.declared.step.Status.{Status}
use Rattle.age_stream.specs.declared.step.Status.TheVariants.{Open, LastSeen, Done, Failed}

-- ---- The numbers that stand for a status, and the results of calls.

-- the result of a call whose bytes end inside the header or the nonce
abbrev pub more : ℕ
more = 254

-- the result of a misused call
abbrev pub misused : ℕ
misused = 255

-- the status after a fault of this kind at this chunk
abbrev pub failed_at : StreamKind → ℕ → Option Status
failed_at kind chunk = Some (Failed (record { kind = kind; chunk = chunk }))

-- the status that a reader's numbers stand for
abbrev pub reader_status : ℕ → ℕ → Option Status
reader_status state chunk =
    if state == 1 then Some Open
    else if state == 2 then Some LastSeen
    else if state == 3 then Some Done
    else if state == 17 then failed_at ChunkDamaged chunk
    else if state == 18 then failed_at ChunkCut chunk
    else if state == 19 then failed_at EmptyLast chunk
    else if state == 20 then failed_at Truncated chunk
    else if state == 21 then failed_at Trailing chunk
    else if state == 22 then failed_at TooManyChunks chunk
    else None

-- the result at this state of a reader: the number of its fault, or 0
abbrev pub answer_of : ℕ → ℕ
answer_of state = if nat_le 17 state && nat_le state 22 then state else 0

-- ---- The number that a call returns, what it says of the call, and what a file's length says of
-- its plaintext.

-- this many bytes or places were put at the front of a slice, which was `before`, and is `after`
pub record PutsFront {Item : Type 0} (count : ℕ) (before after : List Item) : Type 0 where
  -- they fit
  pub most : count ≤ length after
  -- the items after them are unchanged
  pub rest : drop count after ≡ drop count before

-- the result of a call that was given a reader or writer, which was `old` and is `new`, and a slice
-- for its output, whose bytes were `before` and are `after`. `Fits` says that the call isn't
-- misused, and `Does` what a call does that isn't: by its result, by the bytes that it wrote, and
-- by the reader or writer that it leaves
pub record Answers {State : Type 0} (Fits : Type 0) (Does : ℕ → List ℕ → State → Type 0)
    (old new : State) (answer written : ℕ) (before after : List ℕ) : Type 0 where
  -- a call that fits doesn't return 255
  pub fits : Fits → answer ≢ misused
  -- every other call is
  pub meant : answer ≢ misused → Fits
  -- after 255 the reader or writer is unchanged
  pub idle : answer ≡ misused → new ≡ old
  -- after any other answer, this is what the call did
  pub taken : answer ≢ misused → Does answer (take written after) new
  -- after any answer but 0, no byte was written
  pub nothing : answer ≢ 0 → written ≡ 0
  -- the bytes written are at the front of the slice, and no other byte of it was changed
  pub put : PutsFront written before after

-- ---- The length of a file, and what it says of its plaintext.

-- the fault of a payload of this many bytes, if no plaintext has one: it ends with no block, with a
-- tag alone, or with a part of a tag
abbrev pub length_fault : ℕ → StreamKind
length_fault size =
    if size % block_length == 0 then Truncated
    else if size % block_length == tag_length then EmptyLast
    else ChunkCut

-- the result of a call that measures a payload
pub record Measures (size answer text_len last_chunk : ℕ) : Type 0 where
  -- 0 says that the plaintexts with a payload of this size have that length, and which chunk is
  -- their last
  pub length : answer ≡ 0
      → IsTextLength size text_len × (last_chunk + 1 ≡ chunks_for text_len)
  -- any other answer says that no plaintext has one, and how the payload ends
  pub none : answer ≢ 0 → ((len : ℕ) → ¬ IsTextLength size len)
      × (answer ≡ stream_fault_number (length_fault size)) × (text_len ≡ 0) × (last_chunk ≡ 0)
