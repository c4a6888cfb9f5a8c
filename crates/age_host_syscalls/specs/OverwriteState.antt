-- An output between the calls of its methods.
use Rattle.std.specs.Prelude.{◌≡◌, ◌⊎◌, ◌<◌, ℕ, List, [], ◌∷◌, length, take, Bool, true, false, Some}
use Rattle.std.specs.Prelude.{Contains}
use Rattle.age_host_model.specs.Calls.{FileCall, Locked, Unlockable, Waited}
use Rattle.age_host_model.specs.Disk.{Disk, after_calls}
use Rattle.age_host_model.specs.Durable.{AllAnswered}
use Rattle.age_host_model.specs.Output.{text_of, has_changed, AllOn, IsClaimed, LocksFirst}

-- On this disk, the path leads to the file, which begins with what was written.
pub record HasWritten (path : List ℕ) (n : ℕ) (is_stale : Bool) (text : List ℕ) (disk : Disk)
    : Type 0 where
  pub file : disk.file path ≡ Some n
  pub front : take (length text) (disk.bytes n) ≡ text
  -- nothing is beyond that, unless what it held still exists
  pub whole : is_stale ≡ false → disk.bytes n ≡ text
  pub is_indeterminate : disk.is_indeterminate n ≡ false

-- On each disk that answers, the path leads to the file, which begins with what was written.
abbrev pub AlwaysHasWritten : List ℕ → ℕ → Bool → List ℕ → List FileCall → Type 0
AlwaysHasWritten path n is_stale text calls = (disk : Disk) → AllAnswered path calls disk
    → HasWritten path n is_stale text (after_calls calls disk)

-- The file was opened, and perhaps locked, and nothing else was done.
abbrev pub IsJustOpened : ℕ → FileCall → List FileCall → Type 0
IsJustOpened n opening calls = (calls ≡ opening ∷ [])
    ⊎ Waited (Locked n) (Unlockable n) (opening ∷ []) calls

-- The invariant of an output: what its fields say of the calls that were made.
pub record IsOut (path : List ℕ) (n : ℕ) (opening : FileCall) (is_stale is_indeterminate is_claimed : Bool)
    (count failed : ℕ) (calls : List FileCall) : Type 0 where
  -- (in any order: by `on` it is the first call)
  pub opened : Contains calls opening
  pub on : AllOn path n calls
  pub written : length (text_of calls) ≡ count
  pub same : text_of calls ≡ [] → has_changed calls ≡ false
  pub fresh : failed ≡ 0 → text_of calls ≡ [] → IsJustOpened n opening calls
  pub begun : failed ≡ 0 → AlwaysHasWritten path n is_stale (text_of calls) calls
  -- a call has failed after which what it holds can't be relied on
  pub indeterminate : is_indeterminate ≡ true → 0 < failed
  -- It was claimed before it was changed.
  pub locked : LocksFirst n calls
  pub claimed : is_claimed ≡ true → IsClaimed n calls
  pub unclaimed : is_claimed ≡ false → calls ≡ opening ∷ []
