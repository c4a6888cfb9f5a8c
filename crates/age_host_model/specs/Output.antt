-- An output, which is written in place, and the calls that are made for it.
use Rattle.std.specs.Prelude.{◌≡◌, ◌⊎◌, ◌≤◌, ℕ, List, [], ◌∷◌, ◌++◌, length, Bool, true, false, Contains}
use Rattle.age_host_model.specs.Calls.{FileCall, Made, Opened, Wrote, Cut, Indeterminate, Locked, Unlockable, Removed}
use Rattle.age_host_model.specs.Calls.{SyncedNames, UnsyncableNames, IsOf}
use Rattle.age_host_model.specs.declared.opened.OpenOutcome.{OpenOutcome}
use Rattle.age_host_model.specs.declared.opened.OpenOutcome.TheVariants as way
use Rattle.age_host_model.specs.declared.opened.FileKind.TheVariants.{Regular}

-- A regular file: its path, its number, and whether opening made it.
pub record OutFile : Type 0 where
  pub path : List ℕ
  pub number : ℕ
  pub is_made : Bool

-- An output as contracts see it: its file, the calls that were made, the newest first, how many
-- have failed, and whether the file may hold anything after one of those.
pub record OutView : Type 0 where
  pub file : OutFile
  pub calls : List FileCall
  pub failed : ℕ
  pub is_indeterminate : Bool

-- The call that opened the file, or made it.
abbrev pub opening_of : List ℕ → ℕ → OpenOutcome → FileCall
opening_of path n way.New = Made path n
opening_of path n (way.Found named waited) = Opened path n (Regular waited)

-- Whether opening made the file.
abbrev pub is_making : OpenOutcome → Bool
is_making way.New = true
is_making (way.Found named waited) = false

-- Whether the path is known to lead to a file that was opened like this, so that the sync of the
-- output includes its folder.
abbrev pub is_waited : OpenOutcome → Bool
is_waited way.New = true
is_waited (way.Found named waited) = waited

-- The bytes that were written, in order.
abbrev pub text_of : List FileCall → List ℕ
text_of [] = []
text_of (Wrote n at part ∷ calls) = text_of calls ++ part
text_of (call ∷ calls) = text_of calls

-- Whether a call that succeeded was a write or a truncation.
abbrev pub has_changed : List FileCall → Bool
has_changed [] = false
has_changed (Wrote n at part ∷ calls) = true
has_changed (Cut n len ∷ calls) = true
has_changed (call ∷ calls) = has_changed calls

-- After the calls before it, this call is about this path or this file, which only the first call
-- opens or makes. What was written stays, since a write goes after it, and a truncation leaves it.
abbrev pub IsOn : List ℕ → ℕ → (before : List FileCall) → FileCall → Type 0
IsOn path n before (Made p m) = (p ≡ path) × (m ≡ n) × (before ≡ [])
IsOn path n before (Opened p m kind) = (p ≡ path) × (m ≡ n) × (before ≡ [])
IsOn path n before (Wrote m at part) = (m ≡ n) × (at ≡ length (text_of before))
IsOn path n before (Cut m len) = (m ≡ n) × (length (text_of before) ≤ len)
IsOn path n before (Removed p) = p ≡ path
IsOn path n before (SyncedNames p) = p ≡ path
IsOn path n before (UnsyncableNames p) = p ≡ path
IsOn path n before call = IsOf n call

-- Each of these calls is about this path or this file, as `IsOn` says.
abbrev pub AllOn : List ℕ → ℕ → List FileCall → Type 0
AllOn path n [] = Unit {0}
AllOn path n (call ∷ calls) = IsOn path n calls call × AllOn path n calls

-- ---- Only one of two runs writes to a file.

-- The call may have changed what the file holds.
abbrev pub MayChange : ℕ → FileCall → Type 0
MayChange n (Wrote m at part) = m ≡ n
MayChange n (Cut m len) = m ≡ n
MayChange n (Indeterminate m) = m ≡ n
MayChange n call = ⊥

-- The run has locked the file, or the system has no lock for it.
-- (in any order: no call gives a lock back)
abbrev pub IsClaimed : ℕ → List FileCall → Type 0
IsClaimed n calls = Contains calls (Locked n) ⊎ Contains calls (Unlockable n)

-- Each call that may have changed the file came after the run had locked it, if the system has a
-- lock for it.
abbrev pub LocksFirst : ℕ → List FileCall → Type 0
LocksFirst n [] = Unit {0}
LocksFirst n (call ∷ calls) = (MayChange n call → IsClaimed n calls) × LocksFirst n calls

-- These calls opened or made a file, touched nothing except it and its path, and changed it only
-- after this run had locked it, if the system has locks.
pub record TouchesFile (file : OutFile) (calls : List FileCall) : Type 0 where
  pub opening : OpenOutcome
  pub is_made : is_making opening ≡ file.is_made
  -- (in any order: by `on` it is the first call)
  pub opened : Contains calls (opening_of file.path file.number opening)
  pub on : AllOn file.path file.number calls
  pub locked : LocksFirst file.number calls
