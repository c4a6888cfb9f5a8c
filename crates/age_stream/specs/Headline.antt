-- The headline, that the text held is the one that was written, and its premises.
use Rattle.std.specs.Prelude.{◌≡◌, ◌≢◌, ℕ, ◌+◌, ◌-◌, ◌<◌, Bool, false, ◌&&◌, List, [], ◌∷◌, Contains, Some}
use Rattle.std.specs.Prelude.{None, if◌then◌else◌, ◌*◌, ◌≤◌, true, ◌++◌, length, take, drop, IsSome, ◌⊎◌, map}
use Rattle.std.specs.Str.{bytes_eq}
use Rattle.std.specs.List.{AllByRecursion, flat_map}
use Rattle.std.specs.Borrow.{Bor}
use Rattle.age_chunk.specs.{Seals, OpensBlock, tag_length, nonce_bytes, chunks, sealed, chunk_limit, payload}
use Rattle.age_chunk.specs.{chunk_count}
use Rattle.age_chunk.specs.declared.fault.StreamKind.TheVariants.{ChunkDamaged, TooManyChunks}
use Rattle.age_stream.specs.Segment.{Segment, outcome, failed, block_at, stop, is_tried, reader_state, accepts}
use Rattle.age_stream.specs.declared.delivery.Delivery.{Delivery}
use Rattle.age_stream.specs.declared.delivery.Delivery.TheVariants.{Piece, End, Restart}
use Rattle.age_stream.specs.declared.step.Status.{Status}
use Rattle.age_stream.specs.declared.step.Status.TheVariants.{Done}

-- ---- The premise: a block that opens is the writer's. A chunk has n bytes.

module _ (sealing : Seals) (opening : OpensBlock) (n : ℕ) (text : List ℕ) where
  -- a block that opens at the nonce is one that the writer of the plaintext sealed there
  -- (in any order: a nonce has the number of its chunk)
  abbrev pub IsWriters : List ℕ → List ℕ → Type 0
  IsWriters nonce block = IsSome (opening nonce block)
      → Contains (sealed sealing n text) (nonce, block)

  -- each block that the segment tries is the writer's, if it opens: the blocks in front and the
  -- next one, each if it is complete, as not the last; and the next one as the last
  pub record IsAuthentic (s : Segment) : Type 0 where
    pub not_last : (j : ℕ) → j ≤ length (stop opening n s).texts
        → length (block_at n s.bytes j) ≡ n + tag_length
        → IsWriters (nonce_bytes (s.start + j) false) (block_at n s.bytes j)
    pub last : is_tried (stop opening n s) ≡ true
        → IsWriters (nonce_bytes (stop opening n s).index true) (stop opening n s).block

  -- each segment of the deliveries is authentic, also the ones that were given up
  abbrev pub AreAuthentic : List Delivery → Type 0
  AreAuthentic deliveries =
      AllByRecursion IsAuthentic (reader_state opening n deliveries).given_up
      × IsAuthentic (reader_state opening n deliveries).segment

-- ---- An undamaged payload.

module _ (sealing : Seals) (opening : OpensBlock) (n : ℕ) (text : List ℕ) where
  -- the deliveries are a front after which a reader stands at chunk k: anything up to a restart at
  -- k that is accepted, or nothing
  abbrev pub IsStart : ℕ → List Delivery → Type 0
  IsStart k front =
      ((front ≡ []) × (k ≡ 0))
      ⊎ ((earlier : List Delivery) × (front ≡ earlier ++ Restart k ∷ [])
      × (accepts opening n (reader_state opening n earlier) k ≡ true))

  -- the deliveries are undamaged from chunk k on: a front, then the writer's blocks from k on, in
  -- any pieces, and an end
  pub record IsUndamaged (k : ℕ) (deliveries : List Delivery) : Type 0 where
    pub front : List Delivery
    pub pieces : List (Bor (List ℕ))
    pub is : deliveries ≡ front ++ (map Piece pieces ++ End ∷ [])
    pub starts : IsStart k front
    pub rest : flat_map (λ (piece : Bor (List ℕ)). piece.now) pieces
        ≡ drop (k * (n + tag_length)) (payload sealing n text)
    pub below : k < chunk_count n text

  -- the segment is the payload from its start on, and an end
  pub record IsRest (s : Segment) : Type 0 where
    pub below : s.start < chunk_count n text
    pub bytes : s.bytes ≡ drop (s.start * (n + tag_length)) (payload sealing n text)
    pub ended : s.ended ≡ true
    pub timely : s.late ≡ false

-- ---- Each block in its place: what a segment gives when its blocks are compared with the
-- writer's.

-- the chunk that was sealed as this block at this nonce, if any: blocks are compared, and none is
-- opened
abbrev pub sealed_as : List (List ℕ × List ℕ) → List (List ℕ) → OpensBlock
sealed_as [] chunks nonce block = None
sealed_as (pair ∷ pairs) [] nonce block = None
sealed_as (pair ∷ pairs) (chunk ∷ chunks) nonce block =
    if bytes_eq pair.0 nonce && bytes_eq pair.1 block then Some chunk
    else sealed_as pairs chunks nonce block

module _ (sealing : Seals) (n : ℕ) (text : List ℕ) where
  -- the opening by comparison: a block is compared with the writer's, and none is decrypted
  abbrev pub compared : OpensBlock
  compared = sealed_as (sealed sealing n text) (chunks n text)

  -- block number i isn't the writer's, and each block before it is the writer's of that number
  pub record IsFirstWrong (s : Segment) (i : ℕ) : Type 0 where
    -- (in any order: a nonce has the number of its chunk)
    pub before : (j : ℕ) → s.start + j < i → Contains (sealed sealing n text)
        (nonce_bytes (s.start + j) false, block_at n s.bytes j)
    pub there : (last : Bool) → ¬ Contains (sealed sealing n text)
        (nonce_bytes i last, block_at n s.bytes (i - s.start))

module _ (sealing : Seals) (opening : OpensBlock) (n : ℕ) (text : List ℕ) where
  -- the outcome is what comparing blocks with the writer's gives; a block is refused as damaged if
  -- it is the first that isn't the writer's, and there are never too many
  pub record IsInPlace (s : Segment) (status : Status) : Type 0 where
    pub compares : outcome opening n s ≡ outcome (compared sealing n text) n s
    pub damaged : (i : ℕ) → status ≡ failed ChunkDamaged i
        → IsFirstWrong sealing n text s i
    pub few : (i : ℕ) → status ≢ failed TooManyChunks i

-- ---- The claims of the headline about the plaintext.

-- a list is a prefix of another one
abbrev pub IsPrefixOf : List ℕ → List ℕ → Type 0
IsPrefixOf xs ys = (rest : List ℕ) × (xs ++ rest ≡ ys)

module _ (sealing : Seals) (opening : OpensBlock) (n : ℕ) (text : List ℕ) where
  -- the text held is a prefix of the plaintext, the end is reported only with all of it and only of
  -- a segment that starts within it, undamaged deliveries give all of it and its end, and each
  -- block of the current segment is in its place
  pub record IsRight (Undamaged : Type 0) (s : Segment) (held : List ℕ)
      (status : Status) : Type 0 where
    pub prefix : IsPrefixOf held text
    pub done : status ≡ Done → held ≡ text
    pub within : status ≡ Done → s.start * n ≤ length text
    pub whole : Undamaged → (held ≡ text) × (status ≡ Done)
    pub place : IsInPlace sealing opening n text s status

-- ---- The headline.

module _ (sealing : Seals) (opening : OpensBlock) (n : ℕ) where
  -- the headline: for every plaintext of at most 2^48 chunks, while no delivered block opens except
  -- as its writer sealed it
  abbrev pub HoldsWritten : List Delivery → List ℕ → Status → Type 0
  HoldsWritten deliveries held status = (text : List ℕ) → chunk_count n text ≤ chunk_limit
      → AreAuthentic sealing opening n text deliveries
      → IsRight sealing opening n text ((k : ℕ) × IsUndamaged sealing opening n text k deliveries)
      (reader_state opening n deliveries).segment held status

  -- the headline of one segment, which may start at any chunk, also past the end of the plaintext:
  -- of the plaintext before its start, and what it released
  abbrev pub ReleasesWritten : Segment → List ℕ → Status → Type 0
  ReleasesWritten s released status = (text : List ℕ) → chunk_count n text ≤ chunk_limit
      → s.start < chunk_limit → IsAuthentic sealing opening n text s
      → IsRight sealing opening n text (IsRest sealing opening n text s) s
      (take (s.start * n) text ++ released) status
