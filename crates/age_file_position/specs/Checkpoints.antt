-- The marks of a hash chain.
use Rattle.std.specs.Prelude.{◌≡◌, ◌⊎◌, ◌≤◌, ◌<◌, ◌+◌, ◌*◌, ◌^◌, ℕ, List, length, take}
use Rattle.std.specs.Prelude.{slice_index_or}
use Rattle.age_chunk.specs.{chunk_length}
use Rattle.age_file_position.specs.Bindings.{chain}
use Rattle.age_file_position.specs.declared.chunk_chain.Checkpoint.{Checkpoint}
use Rattle.age_file_position.specs.declared.chunk_chain.CheckpointPair.{CheckpointPair}

-- a mark has the hash chain over the first of these chunks
pub record IsMark (chunks : List (List ℕ)) (m : Checkpoint) : Type 0 where
  pub few : m.index ≤ length chunks
  pub chain_is : m.chain ≡ chain (take m.index chunks)

-- a mark has the hash chain over the first of these chunks, which are no more than this many bytes
abbrev pub IsMarkWithin : List (List ℕ) → ℕ → Checkpoint → Type 0
IsMarkWithin chunks bytes m = IsMark chunks m × (m.index * chunk_length ≤ bytes)

-- a pair has the last two marks at its distance
pub record IsPair (chunks : List (List ℕ)) (p : CheckpointPair) : Type 0 where
  pub last : IsMark chunks p.last
  pub before : IsMark chunks p.before
  pub recent : length chunks < p.last.index + p.distance
  pub apart : (p.before.index + p.distance ≡ p.last.index) ⊎ ((p.last.index ≡ 0) × (p.before.index ≡ 0))

-- the pairs are pairs of marks, and their distances are the powers of two
abbrev pub ArePairs : List (List ℕ) → List CheckpointPair → Type 0
ArePairs chunks pairs = (k : ℕ) (d : CheckpointPair) → k < length pairs
    → IsPair chunks (slice_index_or pairs k d) × ((slice_index_or pairs k d).distance ≡ 2 ^ k)
