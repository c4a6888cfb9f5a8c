use Rattle.std.proofs.Common.{◌≡◌, ◌<◌, ◌^◌, ℕ, [], length, get_or}
use Rattle.age_file_position.specs.Checkpoints.{IsPair}
use Rattle.age_file_position.specs.declared.chunk_chain.CheckpointPair.{CheckpointPair}
use Rattle.age_file_position.proofs.chunk_chain.start_pairs.Given as goal

-- the first pairs are there
abbrev pub invariant-loop-k : goal.invariant-loop-k
invariant-loop-k l = record {
  size : length l.pairs ≡ 48;
  are : (j : ℕ) (d : CheckpointPair) → j < l.k → IsPair [] (get_or l.pairs j d) × ((get_or l.pairs j d).distance ≡ 2 ^ j);
}
