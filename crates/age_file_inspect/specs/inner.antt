-- How the rest of a source is counted. Private: no public contract cites this module.
use Rattle.std.specs.Prelude.{◌≡◌, ℕ, ◌+◌, ◌*◌, ◌^◌, ◌≤◌, List, ◌++◌, length}
use Rattle.age_io.specs.{Consumes, IsAtEnd}
use Rattle.age_fault.specs.declared.fault.FileFault.{FileFault}
use Rattle.age_file_input.specs.{pull_room, ReaderView, Start, Pulled, PullFails}

-- the rest of a source was read to its end: this many bytes, those in the intake among them
pub record CountsRest (old new : ReaderView) (count : ℕ) : Type 0 where
  pub counts : (start : Start) (used : List ℕ)
      → Pulled start old.source.supply old.unread.pulls (used ++ old.unread.bytes)
      → (rest : List ℕ) × (count ≡ length rest)
      × Consumes start.source new.source.supply (used ++ rest)
  pub at_end : IsAtEnd new.source.supply
  pub small : count ≤ pull_room * (2 ^ 63 + 1)
  pub unfailed : new.source.failed ≡ old.source.failed

-- the rest couldn't be read: some bytes came after those that had been pulled, and then no more
pub record RestFails (old new : ReaderView) (fault : FileFault) : Type 0 where
  pub more : (start : Start) (used : List ℕ)
      → Pulled start old.source.supply old.unread.pulls (used ++ old.unread.bytes)
      → (rest : List ℕ) × Pulled start new.source.supply new.unread.pulls (used ++ rest)
  pub why : PullFails old new fault
