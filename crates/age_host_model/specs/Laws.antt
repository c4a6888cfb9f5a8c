-- What may become of an output, if one of its calls is left out, or two are made in another order.
use Rattle.std.specs.Prelude.{◌≡◌, ◌≢◌, ℕ, List, [], ◌∷◌, ◌++◌, length, Some, None, true, false, Contains}
use Rattle.age_host_model.specs.Calls.{FileCall, Made, Opened, Wrote, Cut, Synced, Closed, Locked, Unlockable}
use Rattle.age_host_model.specs.Calls.{SyncedNames}
use Rattle.age_host_model.specs.declared.opened.FileKind.TheVariants.{Regular}
use Rattle.age_host_model.specs.Disk.{Disk, at_path, after_calls, MayLeave}
use Rattle.age_host_model.specs.Durable.{AllAnswered, AllWaited, IsSafe, HasMade}
use Rattle.age_host_model.specs.Output.{OutFile, AllOn, is_waited, MayChange, LocksFirst, TouchesFile}

-- A disk without files.
abbrev pub bare : Disk
bare = record {
  file = λ _. None;
  before = λ _. [];
  bytes = λ _. [];
  is_durable = λ _. true;
  is_indeterminate = λ _. false;
}

-- The disk answers these calls, its file system can sync, and a power cut may leave these bytes at
-- the path.
pub record CanLeave (path bytes : List ℕ) (calls : List FileCall) (disk : Disk) : Type 0 where
  pub answered : AllAnswered path calls disk
  pub waited : AllWaited calls
  pub leaves : MayLeave (after_calls calls disk) path (Some bytes)

-- ---- A file that is written in place.

-- A disk with an empty file at one path, and no other.
abbrev pub bare_but : List ℕ → ℕ → Disk
bare_but path n = record bare { file = at_path path (Some n) bare.file }

-- The calls of an output whose file existed, the newest first. It gets its bytes by two writes.
abbrev pub overwritten : ℕ → List ℕ → (bytes more : List ℕ) → List FileCall
overwritten n path bytes more =
    SyncedNames path ∷ Closed n ∷ Synced n ∷ Wrote n (length bytes) more ∷ Cut n (length bytes)
    ∷ Wrote n 0 bytes ∷ Locked n ∷ Opened path n (Regular true) ∷ []

-- The calls of an output whose file is made, the newest first. It gets its bytes by two writes.
abbrev pub put_out : ℕ → List ℕ → (bytes more : List ℕ) → List FileCall
put_out n path bytes more =
    SyncedNames path ∷ Closed n ∷ Synced n ∷ Wrote n (length bytes) more ∷ Wrote n 0 bytes
    ∷ Locked n ∷ Made path n ∷ []

-- A power cut may tear an output that wasn't synced.
abbrev pub TornIfUnsynced : Type 0
TornIfUnsynced = (n : ℕ) (path bytes : List ℕ)
    → IsSafe path bytes (SyncedNames path ∷ Wrote n 0 bytes ∷ Locked n ∷ Made path n ∷ []) → ⊥

-- A power cut may tear an output that is truncated after its sync.
abbrev pub TornIfCutLast : Type 0
TornIfCutLast = (n : ℕ) (path bytes : List ℕ)
    → IsSafe path bytes
    (SyncedNames path ∷ Cut n (length bytes) ∷ Synced n ∷ Wrote n 0 bytes ∷ Locked n
    ∷ Opened path n (Regular true) ∷ []) → ⊥

-- ---- A file that two runs open.

-- Two runs go on at once, on a system that gives a file's lock to at most one of them. One has it,
-- and the other changes the file only after locking it.
pub record HasOneLock (n : ℕ) (one other : List FileCall) : Type 0 where
  -- (in any order: no call gives a lock back)
  pub has : Contains one (Locked n)
  pub once : Contains one (Locked n) → Contains other (Locked n) → ⊥
  pub lockable : Contains other (Unlockable n) → ⊥
  pub first : LocksFirst n other

-- None of the calls may have changed the file, and a disk on which none of them made it has it
-- unchanged.
pub record IsUnchanged (n : ℕ) (calls : List FileCall) : Type 0 where
  -- (in any order: no call changes it, first or last)
  pub none : (call : FileCall) → Contains calls call → MayChange n call → ⊥
  pub same : (HasMade n calls → ⊥) → (disk : Disk) → (after_calls calls disk).bytes n ≡ disk.bytes n

-- A run changes nothing in a file that another run has locked.
abbrev pub SecondRunIsHarmless : Type 0
SecondRunIsHarmless = (n : ℕ) (one other : List FileCall) → HasOneLock n one other → IsUnchanged n other

-- Some disk answers the calls of an output, while another run has opened it too.
abbrev pub OutsAreAnswered : Type 0
OutsAreAnswered = (n : ℕ) (path bytes more : List ℕ)
    → (CanLeave path (bytes ++ more) (overwritten n path bytes more) (bare_but path n)
    × HasOneLock n (overwritten n path bytes more) (Opened path n (Regular true) ∷ []))
    × (CanLeave path (bytes ++ more) (put_out n path bytes more) bare
    × HasOneLock n (put_out n path bytes more) (Opened path n (Regular true) ∷ []))

-- Some disk answers the calls of each output that was made, or opened where its path is known to
-- lead. So what holds on each disk that answers holds on at least one.
abbrev pub CallsAreAnswered : Type 0
CallsAreAnswered = (file : OutFile) (calls : List FileCall) (touches : TouchesFile file calls)
    → is_waited touches.opening ≡ true → (disk : Disk) × AllAnswered file.path calls disk

-- A run that locks a file only after it wrote to it doesn't lock it first.
abbrev pub ChangedIfLockedLate : Type 0
ChangedIfLockedLate = (n : ℕ) (path bytes : List ℕ)
    → LocksFirst n (Locked n ∷ Wrote n 0 bytes ∷ Opened path n (Regular true) ∷ []) → ⊥

-- The calls of an output change no file except its own.
abbrev pub OthersAreKept : Type 0
OthersAreKept = (path : List ℕ) (n m : ℕ) (calls : List FileCall) → AllOn path n calls → m ≢ n
    → (disk : Disk) → (after_calls calls disk).bytes m ≡ disk.bytes m
