-- The laws of the definitions alone: lengths, chunks, when the headline's premise is met.
use Rattle.std.specs.Prelude.{◌≡◌, ℕ, ◌+◌, ◌-◌, ◌*◌, ◌/◌, ◌≤◌, List, length, Option, MatchOption, ◌<◌, ◌==◌}
use Rattle.std.specs.Prelude.{◌⊎◌, [], ◌∷◌, ◌++◌, slice_index_or, true, false, None, map, ◌≢◌, Bool, take}
use Rattle.std.specs.List.{AllByRecursion, flat_map}
use Rattle.std.specs.Borrow.{Bor}
use Rattle.std.specs.Simd.{first_chunks}
use Rattle.age_chunk.specs.{OfAllBoxes, tag_length, Seals, OpensBlock, IsChunkBox, clear_sealing}
use Rattle.age_chunk.specs.{clear_opening, chunk_limit, chunk_count, chunk_length, payload, nonce_bytes}
use Rattle.age_chunk.specs.{chunks, sealed, last_index, last_chunk, sealed_before_last, block_bytes}
use Rattle.age_chunk.specs.declared.fault.StreamFault.{StreamFault}
use Rattle.age_stream.specs.Segment.{Segment, outcome, reader_state, released_text, Outcome, released, with_piece}
use Rattle.age_stream.specs.Segment.{with_end, fresh}
use Rattle.age_stream.specs.Headline.{IsAuthentic, AreAuthentic, IsRest, IsUndamaged, IsPrefixOf}
use Rattle.age_stream.specs.Headline.{ReleasesWritten}
use Rattle.age_stream.specs.declared.delivery.Delivery.{Delivery}
use Rattle.age_stream.specs.declared.delivery.Delivery.TheVariants.{Piece, End}
use Rattle.age_stream.specs.declared.step.Status.TheVariants.{Done, Open, Failed}

-- ---- The length of a plaintext and of its payload, in chunks of 65,536 bytes (C2SP age.md,
-- "Payload").

-- the number of chunks of a plaintext of this many bytes
abbrev pub chunks_for : ℕ → ℕ
chunks_for len = (len - 1) / chunk_length + 1

-- a plaintext of `len` bytes has a payload of `size` bytes, and no more chunks than a payload may
-- have
abbrev pub IsTextLength : ℕ → ℕ → Type 0
IsTextLength size len =
    (len + tag_length * chunks_for len ≡ size) × (chunks_for len ≤ chunk_limit)

-- the length of the plaintexts whose payload has this many bytes, or none if no payload has this
-- length
abbrev pub IsTextLengthOf : ℕ → Option ℕ → Type 0
IsTextLengthOf size len =
    MatchOption len ((l : ℕ) → IsTextLength size l → ⊥) (IsTextLength size)

-- plaintexts whose payloads have one length have one length too, and a plaintext has the length
-- that its payload's gives
abbrev pub LengthsAreOne : Type 0
LengthsAreOne = ((size len other : ℕ) → IsTextLength size len → IsTextLength size other
    → len ≡ other)
    × OfAllBoxes (λ sealing opening. (text : List ℕ) → chunk_count chunk_length text ≤ chunk_limit
    → IsTextLength (length (payload sealing chunk_length text)) (length text))

-- ---- The chunks of a plaintext, in the words of the standard. A chunk has n bytes.

-- the chunks of a plaintext: the parts join to it; all but the last have n bytes; the last has 1 to
-- n, or the plaintext is empty and there is one empty part
pub record AreChunks (n : ℕ) (text : List ℕ) (parts : List (List ℕ)) : Type 0 where
  pub front : List (List ℕ)
  pub last : List ℕ
  pub are : parts ≡ front ++ last ∷ []
  pub join : flat_map (λ (part : List ℕ). part) parts ≡ text
  pub full : AllByRecursion (λ (part : List ℕ). length part ≡ n) front
  pub rest : ((0 < length last) × (length last ≤ n)) ⊎ ((text ≡ []) × (parts ≡ [] ∷ []))

-- a plaintext has exactly one list of chunks
abbrev pub ChunksAreOne : Type 0
ChunksAreOne = (n : ℕ) (text : List ℕ) → 0 < n
    → AreChunks n text (chunks n text)
    × ((parts : List (List ℕ)) → AreChunks n text parts → parts ≡ chunks n text)

-- chunk number i is sealed at the nonce of i, and of whether it is the last
abbrev pub SealsChunks : Type 0
SealsChunks = (sealing : Seals) (n : ℕ) (text : List ℕ) (parts : List (List ℕ))
    → 0 < n → AreChunks n text parts
    → (length (sealed sealing n text) ≡ length parts)
    × ((i : ℕ) → i < length parts → slice_index_or (sealed sealing n text) i ([], [])
    ≡ (
      nonce_bytes i (i + 1 == length parts),
      sealing (nonce_bytes i (i + 1 == length parts)) (slice_index_or parts i []),
    ))

-- ---- The headline's premise is met by the payload of a writer that is delivered unchanged. A
-- chunk has n bytes.

-- the bytes come once, in any pieces, and then an end
pub record AreWhole (bytes : List ℕ) (deliveries : List Delivery) : Type 0 where
  pub pieces : List (Bor (List ℕ))
  pub are : deliveries ≡ map Piece pieces ++ End ∷ []
  pub join : flat_map (λ (piece : Bor (List ℕ)). piece.now) pieces ≡ bytes

-- the deliveries of all of these bytes give the plaintext, and its end is reported
abbrev pub GivesBack : OpensBlock → ℕ → List ℕ → List ℕ → Type 0
GivesBack opening n bytes text = (deliveries : List Delivery) → AreWhole bytes deliveries
    → (released_text opening n (reader_state opening n deliveries) ≡ text)
    × ((outcome opening n (reader_state opening n deliveries).segment).status ≡ Done)

module _ (sealing : Seals) (opening : OpensBlock) (n : ℕ) (text : List ℕ) where
  -- a full last block isn't also one before the last: a short one is never tried so
  abbrev pub HasUnambiguousEnd : Type 0
  HasUnambiguousEnd = length (last_chunk n text) ≡ n
      → opening (nonce_bytes (last_index n text) false)
      (sealing (nonce_bytes (last_index n text) true) (last_chunk n text))
      ≡ None

  -- a payload is sealable: a box that meets its law seals the plaintext in chunks of n bytes, and
  -- the payload is closed
  pub record IsSealable : Type 0 where
    pub valid : IsChunkBox sealing opening
    pub some : 0 < n
    pub few : chunk_count n text ≤ chunk_limit
    pub closed : HasUnambiguousEnd

-- a claim about every sealable payload
abbrev pub OfAllSealable : (Seals → OpensBlock → ℕ → List ℕ → Type 0) → Type 0
OfAllSealable Claim = (sealing : Seals) (opening : OpensBlock) (n : ℕ) (text : List ℕ)
    → IsSealable sealing opening n text → Claim sealing opening n text

-- the payload, or its rest from a chunk on, is authentic
abbrev pub RestIsAuthentic : Type 0
RestIsAuthentic = OfAllSealable (λ sealing opening n text. (s : Segment)
    → IsRest sealing opening n text s → IsAuthentic sealing opening n text s)

-- an undamaged payload, or its rest, with its end, is authentic too, after any deliveries in which
-- each segment that was given up is authentic
abbrev pub UndamagedIsAuthentic : Type 0
UndamagedIsAuthentic = OfAllSealable (λ sealing opening n text. (k : ℕ)
    (deliveries : List Delivery) (rest : IsUndamaged sealing opening n text k deliveries)
    → AllByRecursion (IsAuthentic sealing opening n text) (reader_state opening n rest.front).given_up
    → AreAuthentic sealing opening n text deliveries)

-- deliveries of a complete payload are authentic
abbrev pub WholeIsAuthentic : Type 0
WholeIsAuthentic = OfAllSealable (λ sealing opening n text. (deliveries : List Delivery)
    → AreWhole (payload sealing n text) deliveries → AreAuthentic sealing opening n text deliveries)

-- a sealable payload gives its plaintext back
abbrev pub PayloadRoundTrip : Type 0
PayloadRoundTrip = OfAllSealable (λ sealing opening n text.
    GivesBack opening n (payload sealing n text) text)

-- in the clear every plaintext of at most 2^48 chunks is sealable
abbrev pub ClearIsSealable : Type 0
ClearIsSealable = (n : ℕ) (text : List ℕ) → 0 < n → chunk_count n text ≤ chunk_limit
    → IsSealable clear_sealing clear_opening n text

-- ---- Laws about the definitions. A chunk has n bytes.

-- no two chunks of a payload have the same nonce
abbrev pub NoncesDiffer : Type 0
NoncesDiffer = (i j : ℕ) (a b : Bool) → i < chunk_limit → j < chunk_limit
    → nonce_bytes i a ≡ nonce_bytes j b → (i ≡ j) × (a ≡ b)

-- different plaintexts seal to different blocks at a nonce
abbrev pub SealingsDiffer : Type 0
SealingsDiffer = OfAllBoxes (λ sealing opening. (nonce text other : List ℕ) → length nonce ≡ 12
    → sealing nonce text ≡ sealing nonce other → text ≡ other)

-- feeding two pieces equals feeding their concatenation
abbrev pub PiecesJoin : Type 0
PiecesJoin = (s : Segment) (piece more : List ℕ)
    → with_piece (with_piece s piece) more ≡ with_piece s (piece ++ more)

-- with more bytes the plaintext that was released only grows, and the index never falls
abbrev pub ReleasedGrows : Type 0
ReleasedGrows = (opening : OpensBlock) (n : ℕ) (s : Segment) (piece : List ℕ)
    → (s.ended ≡ false → s.late ≡ false)
    → IsPrefixOf (released opening n s) (released opening n (with_piece s piece))
    × ((outcome opening n s).index ≤ (outcome opening n (with_piece s piece)).index)

-- a segment of no bytes and no end is open, and released nothing
abbrev pub FreshIsOpen : Type 0
FreshIsOpen = (opening : OpensBlock) (n k : ℕ)
    → outcome opening n (fresh k) ≡ record { texts = []; index = k; status = Open }

-- a segment released nothing more, and stands at the same chunk; a refusal stays
pub record IsSettled (old new : Outcome) : Type 0 where
  pub texts : new.texts ≡ old.texts
  pub index : new.index ≡ old.index
  pub fault : (fault : StreamFault) → old.status ≡ Failed fault → new.status ≡ Failed fault

-- a segment that isn't open is settled, whatever comes
abbrev pub ClosedStays : Type 0
ClosedStays = (opening : OpensBlock) (n : ℕ) (s : Segment)
    → (s.ended ≡ false → s.late ≡ false) → (outcome opening n s).status ≢ Open
    → ((piece : List ℕ) → IsSettled (outcome opening n s) (outcome opening n (with_piece s piece)))
    × IsSettled (outcome opening n s) (outcome opening n (with_end s))

-- a segment isn't open after an end, and it stands at the same chunk
abbrev pub EndCloses : Type 0
EndCloses = (opening : OpensBlock) (n : ℕ) (s : Segment)
    → ((outcome opening n (with_end s)).status ≢ Open)
    × ((outcome opening n (with_end s)).index ≡ (outcome opening n s).index)

-- the headline of every segment, for every box
abbrev pub ReleasedIsWritten : Type 0
ReleasedIsWritten = OfAllBoxes (λ sealing opening. (n : ℕ) → 0 < n → (s : Segment)
    → ReleasesWritten sealing opening n s (released opening n s) (outcome opening n s).status)

-- the length of a payload: each chunk is sealed with 16 bytes more
abbrev pub PayloadIsLonger : Type 0
PayloadIsLonger = OfAllBoxes (λ sealing opening. (n : ℕ) (text : List ℕ)
    → (length (payload sealing n text) ≡ length text + chunk_count n text * tag_length)
    × (length (block_bytes (sealed_before_last sealing n text))
    ≡ last_index n text * (n + tag_length)))

-- the payload of a plaintext, without its last block, is a prefix of the payload of any longer
-- plaintext that begins with that plaintext
abbrev pub SealedGrows : Type 0
SealedGrows = (sealing : Seals) (n : ℕ) (text more : List ℕ) → 0 < n
    → IsPrefixOf (block_bytes (sealed_before_last sealing n text))
    (block_bytes (sealed_before_last sealing n (text ++ more)))

-- the chunks that a segment counts: what it released of its blocks before the last
abbrev pub counted_chunks : OpensBlock → ℕ → Segment → List (List ℕ)
counted_chunks opening n s = take ((outcome opening n s).index - s.start) (outcome opening n s).texts

-- after a base of as many full chunks as stand before the segment, the chunks that it counts are
-- the first of all plaintext so far; while it is open they are all that it released
pub record IsCounted (opening : OpensBlock) (n : ℕ) (base : List ℕ) (s : Segment) : Type 0 where
  pub count : s.start + length (counted_chunks opening n s) ≡ (outcome opening n s).index
  pub within : (outcome opening n s).index * n ≤ length (base ++ released opening n s)
  pub join : base ++ flat_map (λ (chunk : List ℕ). chunk) (counted_chunks opening n s)
      ≡ take ((outcome opening n s).index * n) (base ++ released opening n s)
  pub chunks : (i : ℕ) → i ≤ (outcome opening n s).index
      → first_chunks n i (base ++ released opening n s)
      ≡ take i (first_chunks n s.start base ++ counted_chunks opening n s)
  pub all : (outcome opening n s).status ≡ Open → counted_chunks opening n s ≡ (outcome opening n s).texts

-- every segment under a valid box is counted, whatever its blocks are
abbrev pub ChunksAreCounted : Type 0
ChunksAreCounted = OfAllBoxes (λ sealing opening. (n : ℕ) (base : List ℕ) (s : Segment)
    → length base ≡ s.start * n → IsCounted opening n base s)
