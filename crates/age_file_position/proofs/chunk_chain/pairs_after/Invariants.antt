use Rattle.std.proofs.Common.{◌≡◌, ◌+◌, ◌<◌, ◌^◌, ◌++◌, ◌∷◌, ℕ, List, [], length, get_or}
use Rattle.age_file_position.specs.Checkpoints.{ArePairs, IsMark, IsPair}
use Rattle.age_file_position.specs.declared.chunk_chain.CheckpointPair.{CheckpointPair}
use Rattle.age_file_position.proofs.chunk_chain.pairs_after.Given as goal

-- the first pairs are after the chunk
abbrev pub invariant-loop-k : goal.invariant-loop-k
invariant-loop-k l = record {
  size : length l.next ≡ 48;
  are : (chunks : List (List ℕ)) (chunk : List ℕ) → ArePairs chunks l.pairs → IsMark (chunks ++ chunk ∷ []) l.mark
      → l.mark.index ≡ length chunks + 1 → (j : ℕ) (d : CheckpointPair) → j < l.k
      → IsPair (chunks ++ chunk ∷ []) (get_or l.next j d) × ((get_or l.next j d).distance ≡ 2 ^ j);
}
