-- The system calls that make, write, sync, lock, close or remove a file.
use Rattle.std.specs.Prelude.{◌≡◌, ◌⊎◌, ◌<◌, ℕ, List, [], ◌∷◌, Result, Ok, Err}
use Rattle.age_host_model.specs.declared.opened.FileKind.{FileKind}

-- A system call that was noted: it succeeded, or it failed and may have done something all the
-- same, or it showed something. A file is identified by its number, a name by its path.
pub data FileCall : Type 0 where
  -- An empty file was made at a path (open with O_CREAT and O_EXCL).
  Made : List ℕ → ℕ → FileCall
  -- The file at a path was opened, and is of this kind (open).
  Opened : List ℕ → ℕ → FileKind → FileCall
  -- Bytes were written to a file, at an offset (pwrite).
  Wrote : ℕ → ℕ → List ℕ → FileCall
  -- A file was truncated or extended to this many bytes (ftruncate).
  Cut : ℕ → ℕ → FileCall
  -- A write to a file, its truncation or its sync has failed, so the file may hold anything.
  Indeterminate : ℕ → FileCall
  -- A file was synced (fsync); or its file system can't sync.
  Synced : ℕ → FileCall
  Unsyncable : ℕ → FileCall
  -- A descriptor of a file was closed, and the system reported no failed write (close).
  Closed : ℕ → FileCall
  -- A file was locked for this run until its end; or the system has no locks, so every run may have
  -- it.
  Locked : ℕ → FileCall
  Unlockable : ℕ → FileCall
  -- A name was removed: the path leads to nothing now (unlink).
  Removed : List ℕ → FileCall
  -- The folder of a path was synced (fsync), and so its names; or its file system can't sync.
  SyncedNames : List ℕ → FileCall
  UnsyncableNames : List ℕ → FileCall

-- The call is about what this file holds, or about its lock.
abbrev pub IsOf : ℕ → FileCall → Type 0
IsOf n (Wrote m at part) = m ≡ n
IsOf n (Cut m len) = m ≡ n
IsOf n (Indeterminate m) = m ≡ n
IsOf n (Synced m) = m ≡ n
IsOf n (Unsyncable m) = m ≡ n
IsOf n (Closed m) = m ≡ n
IsOf n (Locked m) = m ≡ n
IsOf n (Unlockable m) = m ≡ n
IsOf n call = ⊥

-- The file was closed, and no later call is one that may change a file.
abbrev pub ClosesLast : ℕ → List FileCall → Type 0
ClosesLast n [] = ⊥
ClosesLast n (Closed m ∷ calls) = m ≡ n
ClosesLast n (Wrote m at part ∷ calls) = ⊥
ClosesLast n (Cut m len ∷ calls) = ⊥
ClosesLast n (Indeterminate m ∷ calls) = ⊥
ClosesLast n (call ∷ calls) = ClosesLast n calls

-- Either this call was noted, or none was.
abbrev pub MayHave : FileCall → List FileCall → List FileCall → Type 0
MayHave call old new = (new ≡ old) ⊎ (new ≡ call ∷ old)

-- One of two calls was noted: the first if the system made it, and the second if it has no way to.
abbrev pub Waited : FileCall → FileCall → List FileCall → List FileCall → Type 0
Waited waits cant old new = (new ≡ waits ∷ old) ⊎ (new ≡ cant ∷ old)

-- The number of failures rises if the result is an error, and only then.
abbrev pub CountsFailure : {X E : Type 0} → Result X E → ℕ → ℕ → Type 0
CountsFailure (Ok x) old new = new ≡ old
CountsFailure (Err e) old new = old < new
