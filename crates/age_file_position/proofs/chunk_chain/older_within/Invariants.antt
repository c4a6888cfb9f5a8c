use Rattle.std.proofs.Common.{◌*◌, ◌/◌, ◌-◌, ◌<◌, ◌≤◌, ◌^◌, ℕ, List, length}
use Rattle.age_chunk.specs.{chunk_length}
use Rattle.age_file_position.specs.Checkpoints.{ArePairs}
use Rattle.age_file_position.proofs.chunk_chain.older_within.Given as goal

-- the next distance is at most twice what lies after these bytes
abbrev pub invariant-loop-k : goal.invariant-loop-k
invariant-loop-k l = (chunks : List (List ℕ)) → ArePairs chunks l.pairs → l.bytes / chunk_length < length chunks
    → 2 ^ l.k ≤ 2 * (length chunks - l.bytes / chunk_length)
