-- What calls leave on a disk, even if the power is cut after one of them.
use Rattle.std.specs.Prelude.{◌≡◌, ◌⊎◌, ℕ, ◌+◌, ◌-◌, List, [], ◌∷◌, ◌++◌, length, take, drop, replicate}
use Rattle.std.specs.Prelude.{Option, Some, None, Bool, true, false, not, bytes_eq, nat_eq, if◌then◌else◌}
use Rattle.age_host_model.specs.Calls.{FileCall, Made, Opened, Wrote, Cut, Indeterminate, Synced, Unsyncable, Closed, Locked}
use Rattle.age_host_model.specs.Calls.{Unlockable, Removed, SyncedNames, UnsyncableNames}

-- ---- A disk.

-- A disk: its files, and what a power cut may do to them.
pub record Disk : Type 0 where
  -- the file at each path, if there is one
  pub file : List ℕ → Option ℕ
  -- the files that were there before that one, since the folder was last synced
  pub before : List ℕ → List (Option ℕ)
  -- what each file holds
  pub bytes : ℕ → List ℕ
  -- whether a power cut leaves a file unchanged; otherwise it may leave anything in it
  pub is_durable : ℕ → Bool
  -- whether nothing is known of a file, so that no later sync says that it is kept
  pub is_indeterminate : ℕ → Bool

-- ---- What a call does to a disk.

-- These values, with another one at one path.
abbrev pub at_path : {X : Type 0} → List ℕ → X → (List ℕ → X) → List ℕ → X
at_path path x values q = if bytes_eq path q then x else values q

-- These values, with another one for one file.
abbrev pub for_file : {X : Type 0} → ℕ → X → (ℕ → X) → ℕ → X
for_file n x values m = if nat_eq n m then x else values m

-- The disk after a path has come to lead to another file, or to none.
abbrev pub leading : List ℕ → Option ℕ → Disk → Disk
leading path to disk = record disk {
  file = at_path path to disk.file;
  before = at_path path (disk.file path ∷ disk.before path) disk.before;
}

-- The contents of a file that is truncated or extended to `len` bytes: the first of its bytes, or
-- all of them and zeros.
abbrev pub sized : ℕ → List ℕ → List ℕ
sized len bytes = take len bytes ++ replicate (len - length bytes) 0

-- The contents of a file after a write of `part` at the offset `at`.
abbrev pub written : ℕ → List ℕ → List ℕ → List ℕ
written at part bytes = sized at bytes ++ part ++ drop (at + length part) bytes

-- The disk after the contents of a file have changed. A power cut may leave anything in the file,
-- until it is synced.
abbrev pub changed : ℕ → List ℕ → Disk → Disk
changed n bytes disk = record disk {
  bytes = for_file n bytes disk.bytes;
  is_durable = for_file n false disk.is_durable;
}

-- The disk after one more call.
abbrev pub after_call : FileCall → Disk → Disk
after_call (Made path n) disk = leading path (Some n) (record disk {
  bytes = for_file n [] disk.bytes;
  is_durable = for_file n true disk.is_durable;
  is_indeterminate = for_file n false disk.is_indeterminate;
})
after_call (Opened path n kind) disk = disk
after_call (Wrote n at part) disk = changed n (written at part (disk.bytes n)) disk
after_call (Cut n len) disk = changed n (sized len (disk.bytes n)) disk
after_call (Indeterminate n) disk = record disk {
  is_durable = for_file n false disk.is_durable;
  is_indeterminate = for_file n true disk.is_indeterminate;
}
after_call (Synced n) disk = record disk { is_durable = for_file n (not (disk.is_indeterminate n)) disk.is_durable }
after_call (Unsyncable n) disk = disk
after_call (Closed n) disk = disk
after_call (Locked n) disk = disk
after_call (Unlockable n) disk = disk
after_call (Removed path) disk = leading path None disk
after_call (SyncedNames path) disk = record disk { before = at_path path [] disk.before }
after_call (UnsyncableNames path) disk = disk

-- The disk after these calls, which are listed newest first.
abbrev pub after_calls : List FileCall → Disk → Disk
after_calls [] disk = disk
after_calls (call ∷ calls) disk = after_call call (after_calls calls disk)

-- ---- What a power cut leaves.

-- The file, or none, is among these.
abbrev pub IsAmong : Option ℕ → List (Option ℕ) → Type 0
IsAmong x [] = ⊥
IsAmong x (y ∷ ys) = (x ≡ y) ⊎ IsAmong x ys

-- After a power cut, the path may lead to this file, or to none.
abbrev pub MayLead : Disk → List ℕ → Option ℕ → Type 0
MayLead disk path to = IsAmong to (disk.file path ∷ disk.before path)

-- After a power cut, this file may hold these bytes. If there is no file, nothing is left.
abbrev pub MayLeaveFile : Disk → Option ℕ → Option (List ℕ) → Type 0
MayLeaveFile disk None left = left ≡ None
MayLeaveFile disk (Some n) left = (bytes : List ℕ) × (left ≡ Some bytes)
    × (disk.is_durable n ≡ true → bytes ≡ disk.bytes n)

-- After a power cut, these bytes may be at the path, or nothing.
abbrev pub MayLeave : Disk → List ℕ → Option (List ℕ) → Type 0
MayLeave disk path left = (to : Option ℕ) × MayLead disk path to × MayLeaveFile disk to left
