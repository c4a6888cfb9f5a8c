-- The outcome of a payload's bytes under an opener, and the plaintext held after any deliveries.
use Rattle.std.specs.Prelude.{ℕ, ◌+◌, ◌*◌, ◌/◌, Bool, true, false, not, ◌||◌, ◌&&◌, ◌==◌, nat_lt, List, []}
use Rattle.std.specs.Prelude.{◌∷◌, ◌++◌, length, take, drop, Option, Some, None, is_some, is_none}
use Rattle.std.specs.Prelude.{if◌then◌else◌, nat_le, min}
use Rattle.std.specs.List.{flat_map}
use Rattle.std.specs.Simd.{first_chunks}
use Rattle.age_chunk.specs.{OpensBlock, tag_length, nonce_bytes, chunk_limit}
use Rattle.age_chunk.specs.declared.fault.StreamKind.{StreamKind}
use Rattle.age_chunk.specs.declared.fault.StreamKind.TheVariants.{ChunkDamaged, ChunkCut, EmptyLast}
use Rattle.age_chunk.specs.declared.fault.StreamKind.TheVariants.{Truncated, Trailing, TooManyChunks}
use Rattle.age_stream.specs.declared.delivery.Delivery.{Delivery}
use Rattle.age_stream.specs.declared.delivery.Delivery.TheVariants.{Piece, End, Restart}
use Rattle.age_stream.specs.declared.step.Status.{Status}
use Rattle.age_stream.specs.declared.step.Status.TheVariants.{Open, LastSeen, Done, Failed}

-- ---- The outcome of a segment: the bytes that came from one start up to the next. A chunk has n
-- bytes, its block n + tag_length.

-- a segment: the number of its first block, the bytes before its first end, whether an end came,
-- and whether bytes came after that
pub record Segment : Type 0 where
  pub start : ℕ
  pub bytes : List ℕ
  pub ended : Bool
  pub late : Bool

-- the outcome of a segment: the plaintexts that are released, the number of the current chunk, and
-- the status
pub record Outcome : Type 0 where
  pub texts : List (List ℕ)
  pub index : ℕ
  pub status : Status

-- the status after a fault of this kind at this chunk
abbrev pub failed : StreamKind → ℕ → Status
failed kind i = Failed (record { kind = kind; chunk = i })

-- the full blocks of these bytes
abbrev pub whole_blocks : ℕ → List ℕ → List (List ℕ)
whole_blocks n bytes = first_chunks (n + tag_length) (length bytes / (n + tag_length)) bytes

-- the bytes after the last full block
abbrev pub rest_bytes : ℕ → List ℕ → List ℕ
rest_bytes n bytes = drop (length bytes / (n + tag_length) * (n + tag_length)) bytes

-- block j of these bytes, or what is left of them there
abbrev pub block_at : ℕ → List ℕ → ℕ → List ℕ
block_at n bytes j = take (n + tag_length) (drop (j * (n + tag_length)) bytes)

-- the frontier of a segment: the plaintexts of the blocks in front, the number of the next block,
-- what came of it, whether that is all of it, whether bytes came after it, and whether the input
-- ended
pub record Frontier : Type 0 where
  pub texts : List (List ℕ)
  pub index : ℕ
  pub block : List ℕ
  pub whole : Bool
  pub followed : Bool
  pub ended : Bool

-- the rest of the block may still come
abbrev pub is_waiting : Frontier → Bool
is_waiting b = not b.whole && not b.ended

-- the input ended where this block had to begin
abbrev pub is_missing : Frontier → Bool
is_missing b = length b.block == 0

-- the input ended before this block had as many bytes as a tag
abbrev pub is_cut : Frontier → Bool
is_cut b = nat_lt (length b.block) tag_length

-- the last block is a tag alone, though other chunks came before it
abbrev pub is_empty_last : Frontier → Bool
is_empty_last b = not b.whole && (length b.block == tag_length && nat_lt 0 b.index)

-- the next block is tried as the last: it is complete or ended, not cut, and no empty last chunk
abbrev pub is_tried : Frontier → Bool
is_tried b = not (is_waiting b || (is_cut b || is_empty_last b))

-- the outcome that releases no more
abbrev pub stays : Frontier → Status → Outcome
stays b status = record { texts = b.texts; index = b.index; status = status }

-- the result of the first line of a table that holds, or else the one after all lines
abbrev pub first_line : {A : Type 0} → List (Bool × A) → A → A
first_line [] other = other
first_line (line ∷ lines) other = if line.0 then line.1 else first_line lines other

-- a block opens as one before the last only below the greatest number of a chunk
abbrev pub unless_greatest : ℕ → Option (List ℕ) → Option (List ℕ)
unless_greatest i None = None
unless_greatest i (Some text) = if nat_lt (i + 1) chunk_limit then Some text else None

module _ (opening : OpensBlock) where
  -- the plaintext of block number i, opened as one before the last
  abbrev pub text_before_last : ℕ → List ℕ → Option (List ℕ)
  text_before_last i block = unless_greatest i (opening (nonce_bytes i false) block)

  -- a plaintext before others, or no plaintexts at all if the block doesn't open
  abbrev pub text_then : Option (List ℕ) → List (List ℕ) → List (List ℕ)
  text_then None texts = []
  text_then (Some text) texts = text ∷ texts

  -- the plaintexts of the blocks in front, which open as not the last, the first of them at number
  -- i
  abbrev pub leading_plaintexts : ℕ → List (List ℕ) → List (List ℕ)
  leading_plaintexts i [] = []
  leading_plaintexts i (block ∷ blocks) = text_then (text_before_last i block) (leading_plaintexts (i + 1) blocks)

  -- the frontier of a segment: at the block after those in front
  abbrev pub stop : ℕ → Segment → Frontier
  stop n s =
      let texts = leading_plaintexts s.start (whole_blocks n s.bytes) in
      let j = length texts in
      record {
        texts = texts;
        index = s.start + j;
        block = block_at n s.bytes j;
        whole = length (block_at n s.bytes j) == n + tag_length;
        followed = nat_lt ((j + 1) * (n + tag_length)) (length s.bytes) || s.late;
        ended = s.ended;
      }

  -- a full block that opens as one before the last, though it isn't in front: its number is the
  -- greatest
  abbrev pub is_too_many : Frontier → Bool
  is_too_many b = b.whole && is_some (opening (nonce_bytes b.index false) b.block)

  -- the block doesn't open as the last
  abbrev pub is_damaged : Frontier → Bool
  is_damaged b = is_none (opening (nonce_bytes b.index true) b.block)

  -- the outcome that releases the plaintext of the last block
  abbrev pub releases_last : Frontier → Status → Outcome
  releases_last b status =
      let texts = text_then (opening (nonce_bytes b.index true) b.block) [] in
      record { texts = b.texts ++ texts; index = b.index; status = status }

  -- the outcome of a frontier: the first line of this table that holds
  abbrev pub verdict : Frontier → Outcome
  verdict b =
      first_line (
      (is_waiting b, stays b Open)
      ∷ (is_missing b, stays b (failed Truncated b.index))
      ∷ (is_cut b, stays b (failed ChunkCut b.index))
      ∷ (is_empty_last b, stays b (failed EmptyLast b.index))
      ∷ (is_too_many b, stays b (failed TooManyChunks b.index))
      ∷ (is_damaged b, stays b (failed ChunkDamaged b.index))
      ∷ (b.followed, releases_last b (failed Trailing b.index))
      ∷ (b.ended, releases_last b Done)
      ∷ []) (releases_last b LastSeen)

  -- the outcome of a segment
  unfoldable pub outcome : ℕ → Segment → Outcome
  outcome n s = verdict (stop n s)

  -- the bytes that a segment released
  abbrev pub released : ℕ → Segment → List ℕ
  released n s = flat_map (λ (text : List ℕ). text) (outcome n s).texts

-- ---- The plaintext held after a list of deliveries.

-- the standing after deliveries: the segments that were given up, the plaintext before the current
-- segment, that segment, and the number of restarts that were refused
pub record Standing : Type 0 where
  pub given_up : List Segment
  pub base : List ℕ
  pub segment : Segment
  pub refused : ℕ

-- a segment that starts at this chunk, of which nothing came
abbrev pub fresh : ℕ → Segment
fresh start = record { start = start; bytes = []; ended = false; late = false }

-- the standing before any delivery
abbrev pub begin : Standing
begin = record { given_up = []; base = []; segment = fresh 0; refused = 0 }

-- the segment with one more piece; bytes after an end are late
abbrev pub with_piece : Segment → List ℕ → Segment
with_piece s piece =
    if s.ended then record s { ended = true; late = s.late || nat_lt 0 (length piece) }
    else record s { bytes = s.bytes ++ piece; ended = false }

-- the segment with an end
abbrev pub with_end : Segment → Segment
with_end s = record s { ended = true }

module _ (opening : OpensBlock) (n : ℕ) where
  -- the text held: the plaintext before the current segment, and what that segment released
  abbrev pub released_text : Standing → List ℕ
  released_text s = s.base ++ flat_map (λ text. text) (outcome opening n s.segment).texts

  -- a restart at chunk k is accepted: the text held has that many full chunks
  abbrev pub accepts : Standing → ℕ → Bool
  accepts s k = nat_lt k chunk_limit && nat_le (k * n) (length (released_text s))

  -- the standing after one more delivery
  abbrev pub after_delivery : Standing → Delivery → Standing
  after_delivery s (Piece piece) = record s { segment = with_piece s.segment piece.now }
  after_delivery s End = record s { segment = with_end s.segment }
  after_delivery s (Restart k) =
      if accepts s k
      then record s {
        given_up = s.given_up ++ s.segment ∷ [];
        base = take (k * n) (released_text s);
        segment = fresh k;
      }
      else record s { refused = min (s.refused + 1) 18446744073709551615 }

  -- the standing after more deliveries, in order
  abbrev pub standing_from : Standing → List Delivery → Standing
  standing_from s [] = s
  standing_from s (delivery ∷ deliveries) = standing_from (after_delivery s delivery) deliveries

  -- the standing after all deliveries
  abbrev pub reader_state : List Delivery → Standing
  reader_state = standing_from begin
