-- A chunk that is opened at its place, by one call.
use Rattle.std.specs.Prelude.{◌≡◌, ◌≢◌, ℕ, ◌<◌, ◌≤◌, List, [], ◌∷◌, length, Bool, true, false, ◌⊎◌}
use Rattle.std.specs.Prelude.{slice_index_or}
use Rattle.std.specs.List.{AllByRecursion}
use Rattle.age_chunk.specs.{chunk_limit, chunk_length, block_length, chunk_count, chunks, sealed}
use Rattle.age_keys.specs.{box, unbox}
use Rattle.age_stream.specs.{HasUnambiguousEnd}
use Rattle.age_c.specs.Calls.{Answers, misused}
use Rattle.age_c.specs.Readers.{CanBeUsed, GoesTo, TakesBlock, TakesEnd, after_block, Part, AreParts, call_of}
use Rattle.age_c.specs.declared.reader.Reader.{Reader}

-- the call isn't misused: the reader can be used, a payload may have such a chunk, there is a block
-- or a part of one, and room for its plaintext
pub record IsOpenAtCall (r : Reader) (chunk : ℕ) (block out : List ℕ) : Type 0 where
  pub usable : CanBeUsed r
  pub within : chunk < chunk_limit
  pub short : length block ≤ block_length
  pub room : chunk_length ≤ length out

-- the reader went to the chunk, and there it took the block; or the end after these bytes, if they
-- are fewer
pub record OpensAt (chunk : ℕ) (block : List ℕ) (old : Reader) (answer : ℕ) (text : List ℕ)
    (new : Reader) : Type 0 where
  pub begun : Reader
  pub goes : GoesTo chunk old begun
  pub whole : length block ≡ block_length → TakesBlock (after_block block) begun answer text new
  pub rest : length block ≢ block_length → TakesEnd block begun answer text new
  -- with a fault nothing was written
  pub nothing : answer ≢ 0 → text ≡ []

-- one call that opened a chunk, as a seek and a call of what `parts_are_written` speaks of
abbrev pub opening_part : ℕ → Reader → Bool → List ℕ → ℕ → ℕ → List ℕ → Reader → Part
opening_part chunk begun is_end block answer written after new = record {
  chunk = chunk;
  begun = begun;
  calls = call_of is_end block answer written after new ∷ [];
}

-- each use of `age_c_open_at` that isn't misused is, by its contract (`Answers`, with the same
-- arguments), a seek and a call of a block, or of the end: so the law about lists of these holds of
-- it
abbrev pub OpeningsAreParts : Type 0
OpeningsAreParts = (old new : Reader) (chunk : ℕ) (block before after : List ℕ) (answer written : ℕ)
    → Answers (IsOpenAtCall old chunk block before) (OpensAt chunk block old) old new answer written
    before after → answer ≢ misused
    → (begun : Reader)
    × (length block ≡ block_length
    → AreParts old (opening_part chunk begun false block answer written after new ∷ []))
    × (length block ≢ block_length
    → AreParts old (opening_part chunk begun true block answer written after new ∷ []))

-- ---- The chunks that came undamaged at their places.

-- the chunk of this number of a plaintext
abbrev pub chunk_of : List ℕ → ℕ → List ℕ
chunk_of text chunk = slice_index_or (chunks chunk_length text) chunk []

-- the block that the writer of a plaintext sealed its chunk of this number as
abbrev pub sealed_block : Reader → List ℕ → ℕ → List ℕ
sealed_block r text chunk =
    (slice_index_or (sealed (box r.file_key r.nonce) chunk_length text) chunk ([], [])).1

-- an opening: the chunk that it was of, what was given as its block, what was answered and written,
-- and the reader after it
pub record Opening : Type 0 where
  pub chunk : ℕ
  pub block : List ℕ
  pub answer : ℕ
  pub text : List ℕ
  pub after : Reader

-- the openings were made one after the other, and nothing else changed the reader; one that was
-- misused changed nothing
abbrev pub AreOpenings : Reader → List Opening → Type 0
AreOpenings r [] = Unit {0}
AreOpenings r (o ∷ openings) =
    (((o.answer ≡ misused) × (o.after ≡ r)) ⊎ OpensAt o.chunk o.block r o.answer o.text o.after)
    × AreOpenings o.after openings

-- the opening gave the chunk of the plaintext, if it was given the block that its writer sealed it
-- as
abbrev pub IsOpenedRight : Reader → List ℕ → Opening → Type 0
IsOpenedRight r text o = o.answer ≢ misused → o.chunk < chunk_count chunk_length text
    → o.block ≡ sealed_block r text o.chunk → (o.answer ≡ 0) × (o.text ≡ chunk_of text o.chunk)

-- each chunk whose block came undamaged is opened, whatever else was: with `parts_are_written`, a
-- report of the others names exactly the damaged ones
abbrev pub UndamagedOpens : Type 0
UndamagedOpens = (r : Reader) (openings : List Opening) → AreOpenings r openings → (text : List ℕ)
    → chunk_count chunk_length text ≤ chunk_limit
    → HasUnambiguousEnd (box r.file_key r.nonce) (unbox r.file_key r.nonce) chunk_length text
    → AllByRecursion (IsOpenedRight r text) openings
