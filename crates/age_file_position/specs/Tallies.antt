-- The count of a chunk by a tally.
use Rattle.std.specs.Prelude.{◌≡◌, ℕ, ◌<◌, ◌≤◌, List, Option}
use Rattle.age_file_position.specs.declared.run_progress.RunProgress.{RunProgress}

-- a chunk is counted if the index has risen
pub record AdvancesTally (index : ℕ) (chunks : Option (List (List ℕ))) (risen : ℕ)
    (more : Option (List (List ℕ)))
    (new : RunProgress) : Type 0 where
  pub further : index < risen → (new.index ≡ risen) × (new.chain ≡ more)
  pub still : risen ≤ index → (new.index ≡ index) × (new.chain ≡ chunks)
