-- The chunks of the hash chain if positions are kept, and how near a mark is.
use Rattle.std.specs.Prelude.{◌+◌, ◌-◌, ◌*◌, ◌/◌, ◌≤◌, ℕ, List, [], ◌++◌, Option, Some, None, ◌∷◌}
use Rattle.age_chunk.specs.{chunk_length}
use Rattle.age_file_position.specs.declared.position.PositionPolicy.{PositionPolicy}
use Rattle.age_file_position.specs.declared.position.PositionPolicy.TheVariants.{Kept, Dropped}

-- ---- Marks: the positions within a part of what was written.

-- The last of so many chunks that a position is after, if only so many bytes of them exist, is no
-- further before the end of these than four times as far as they are: after all, if all exist.
abbrev pub IsWithinFourfold : (chunks bytes index : ℕ) → Type 0
IsWithinFourfold chunks bytes index = chunks ≤ index + 4 * (chunks - bytes / chunk_length)

-- ---- The hash chain over a plaintext, if positions are kept.

-- the chunks of the hash chain if positions are kept, and none if they are dropped
abbrev pub chain_if : PositionPolicy → List (List ℕ) → Option (List (List ℕ))
chain_if Kept chunks = Some chunks
chain_if Dropped chunks = None

-- one more link, if there is a hash chain
abbrev pub link_if : Option (List (List ℕ)) → List ℕ → Option (List (List ℕ))
link_if (Some chunks) chunk = Some (chunks ++ chunk ∷ [])
link_if None chunk = None
