-- Whether a file is at a path, even after a power cut, and how its calls must be answered for that.
use Rattle.std.specs.Prelude.{◌≡◌, ◌⊎◌, ℕ, List, [], ◌∷◌, ◌++◌, Option, Some, None, true, false, Contains}
use Rattle.age_host_model.specs.Calls.{FileCall, Made, Opened, Unsyncable, ClosesLast, UnsyncableNames}
use Rattle.age_host_model.specs.declared.opened.FileKind.TheVariants.{Regular}
use Rattle.age_host_model.specs.Disk.{Disk, after_calls, MayLead, MayLeave}

-- The disk answers this call, if it comes next. A file is made where nothing is, and is a new one,
-- to which the path doesn't lead, even after a power cut. What is opened is the regular file at its
-- path, and no call about it has failed.
abbrev pub IsAnswered : List ℕ → FileCall → Disk → Type 0
IsAnswered path (Made p n) disk = (disk.file p ≡ None) × (MayLead disk path (Some n) → ⊥)
IsAnswered path (Opened p n kind) disk =
    (kind ≡ Regular true) × (disk.file p ≡ Some n) × (disk.is_indeterminate n ≡ false)
IsAnswered path call disk = Unit {0}

-- The disk answers each of these calls.
abbrev pub AllAnswered : List ℕ → List FileCall → Disk → Type 0
AllAnswered path [] disk = Unit {0}
AllAnswered path (call ∷ calls) disk =
    IsAnswered path call (after_calls calls disk) × AllAnswered path calls disk

-- The file system could sync, if this call was to sync.
abbrev pub IsWaited : FileCall → Type 0
IsWaited (Unsyncable n) = ⊥
IsWaited (UnsyncableNames p) = ⊥
IsWaited call = Unit {0}

-- The file system could sync, at each call that was to sync.
abbrev pub AllWaited : List FileCall → Type 0
AllWaited [] = Unit {0}
AllWaited (call ∷ calls) = IsWaited call × AllWaited calls

-- `P` holds of the calls at each moment: after the old ones, and after each of those since.
abbrev pub AtEachMoment : (List FileCall → Type 0) → List FileCall → List FileCall → Type 0
AtEachMoment P [] old = P old
AtEachMoment P (call ∷ since) old = P (call ∷ (since ++ old)) × AtEachMoment P since old

-- `P` holds at each moment, on each disk that answers, if the file system could sync.
pub record Throughout (path : List ℕ) (P : Disk → List FileCall → Type 0) (old new : List FileCall)
    : Type 0 where
  pub since : List FileCall
  pub are : new ≡ since ++ old
  pub each : (disk : Disk) → AllAnswered path new disk → AllWaited new → AtEachMoment (P disk) since old

-- A power cut at any moment leaves at the path what it might have left after the old calls, or all
-- of these bytes.
abbrev pub SavesWhole : List ℕ → List ℕ → List FileCall → List FileCall → Type 0
SavesWhole path bytes old = Throughout path (λ disk calls. (left : Option (List ℕ))
    → MayLeave (after_calls calls disk) path left
    → MayLeave (after_calls old disk) path left ⊎ (left ≡ Some bytes)) old

-- A power cut leaves these bytes at the path and nothing else, if the file system could sync.
abbrev pub IsSafe : List ℕ → List ℕ → List FileCall → Type 0
IsSafe path bytes calls = (disk : Disk) → AllAnswered path calls disk → AllWaited calls
    → (left : Option (List ℕ)) → MayLeave (after_calls calls disk) path left → left ≡ Some bytes

-- On each disk that answers, synced or not, the path leads to this file, which holds just these
-- bytes, and no call about it has failed.
abbrev pub LeadsTo : List ℕ → ℕ → List ℕ → List FileCall → Type 0
LeadsTo path n bytes calls = (disk : Disk) → AllAnswered path calls disk
    → ((after_calls calls disk).file path ≡ Some n) × ((after_calls calls disk).bytes n ≡ bytes)
    × ((after_calls calls disk).is_indeterminate n ≡ false)

-- The path leads to this file of just these bytes, and the file was closed after it got them.
abbrev pub IsThereAs : List ℕ → ℕ → List ℕ → List FileCall → Type 0
IsThereAs path n bytes calls = LeadsTo path n bytes calls × ClosesLast n calls

-- These calls have made the file.
-- (in any order: one that made it did so, whatever came after)
abbrev pub HasMade : ℕ → List FileCall → Type 0
HasMade n calls = (p : List ℕ) × Contains calls (Made p n)
