-- What the steps of an output do. Private: no public contract cites this module.
use Rattle.std.specs.Prelude.{◌≡◌, ◌⊎◌, ℕ, List, Some, true, Contains}
use Rattle.age_host_model.specs.Calls.{FileCall, Removed, SyncedNames, UnsyncableNames, MayHave, Waited}
use Rattle.age_host_model.specs.Disk.{Disk, after_calls}
use Rattle.age_host_model.specs.Durable.{AllAnswered, AllWaited}
use Rattle.age_host_model.specs.Output.{AllOn, IsClaimed, LocksFirst}

-- the file holds these bytes, and a power cut leaves them
abbrev pub Has : ℕ → List ℕ → Disk → Type 0
Has n text disk = (disk.bytes n ≡ text) × (disk.is_durable n ≡ true)

-- all calls are about one path and one file, which was opened and then claimed before it was changed
pub record IsHeld (path : List ℕ) (n : ℕ) (opening : FileCall) (calls : List FileCall) : Type 0 where
  pub opened : Contains calls opening
  pub on : AllOn path n calls
  pub claimed : IsClaimed n calls
  pub locked : LocksFirst n calls

abbrev pub StaysHeld : List ℕ → ℕ → FileCall → List FileCall → List FileCall → Type 0
StaysHeld path n opening old new = IsHeld path n opening old → IsHeld path n opening new

-- what is at a path is removed, and its name waited for, or not
pub record RemovesAt (path : List ℕ) (old new : List FileCall) : Type 0 where
  pub mid : List FileCall
  pub removed : MayHave (Removed path) old mid
  pub named : (new ≡ mid) ⊎ Waited (SyncedNames path) (UnsyncableNames path) mid new

-- on each disk that answers for one path, a path leads to this file
abbrev pub StandsAt : (path at : List ℕ) → ℕ → List FileCall → Type 0
StandsAt path at n calls =
    (disk : Disk) → AllAnswered path calls disk → (after_calls calls disk).file at ≡ Some n

-- the file is at the path, and a power cut leaves it there
pub record IsAtPath (path : List ℕ) (n : ℕ) (bytes : List ℕ) (calls : List FileCall) : Type 0 where
  pub file : StandsAt path path n calls
  pub has : (disk : Disk) → AllAnswered path calls disk → AllWaited calls
      → Has n bytes (after_calls calls disk)
