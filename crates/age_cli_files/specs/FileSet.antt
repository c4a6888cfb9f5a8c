-- A set of files as contracts see it.
use Rattle.std.specs.Prelude.{ℕ, List, ◌≡◌, ◌⊎◌, Bool, [], Option, Some, None, true}
use Rattle.std.specs.Prelude.{◌++◌, ◌∷◌, if◌then◌else◌, Result, Ok, Err}
use Rattle.std.specs.Io.KnownBytes.{IsAtEnd, prepend_known}
use Rattle.age_io.specs.{SourceView}
use Rattle.age_host_model.specs.declared.options.Durability.{Durability}
use Rattle.age_host_model.specs.declared.options.ClobberOption.{ClobberOption}
use Rattle.age_host_model.specs.declared.options.ClobberOption.TheVariants.{Allowed, Refused}
use Rattle.age_host_model.specs.{EndedFile}
use Rattle.age_fault.specs.{fault_number, fault_place}
use Rattle.age_fault.specs.declared.fault.FileFault.{FileFault}
use Rattle.age_fault.specs.declared.fault.FileFault.TheVariants.{Memory}
use Rattle.age_cli_files.specs.declared.file_set.OpenFault.{OpenFault}
use Rattle.age_cli_files.specs.declared.file_set.OpenFault.TheVariants.{SameFile, Fault}
use Rattle.age_cli_files.specs.declared.file_set.IfMissing.{IfMissing}
use Rattle.age_cli_files.specs.declared.file_set.IfMissing.TheVariants.{Fails}

-- ---- What came of what was done with a set of files.

-- A file that was read: the name under which it was opened, what it gave, and whether the last read
-- that didn't fail found its end.
pub record Reading : Type 0 where
  pub name : List ℕ
  pub given : List ℕ
  pub is_at_end : Bool

-- The name of a source, what it gave, and whether its end was found.
abbrev pub reading_of : SourceView → Reading
reading_of source = record {
  name = source.label;
  given = source.supply.given;
  is_at_end = source.supply.is_at_end;
}

-- An outcome of a call on a set of files.
pub data Outcome : Type 0 where
  -- a file was opened under this name, which may stand for an empty one: it has this to give, if
  -- contracts see that, and is so long, if the set can say
  Found : IfMissing → List ℕ → Option (List ℕ) → Option ℕ → Outcome
  -- none existed; one did, or may have
  Absent : List ℕ → Outcome
  Present : List ℕ → Outcome
  -- the reading of a file is over
  Gave : Reading → Outcome
  -- an output that took these bytes holds so many of them for certain, as the set says: on the disk, if
  -- that was asked for
  Settled : Durability → List ℕ → ℕ → Outcome
  -- A close or a replacing with these bytes succeeded. What a disk holds then is said by its calls: if
  -- a put failed not all of the bytes need be there, and what failed may have left some.
  Put : List ℕ → List ℕ → Outcome

-- The outcome of looking whether nothing has a name.
abbrev pub looked_as : List ℕ → Bool → List Outcome
looked_as name is_absent = (if is_absent then Absent name else Present name) ∷ []

-- The outcome of opening a file: it was found, unless the call failed.
abbrev pub opened_as : {In : Type 0} → (In → SourceView) → (In → Option ℕ) → IfMissing → List ℕ
    → Result In OpenFault → List Outcome
opened_as read size missing name (Ok source) =
    Found missing name (read source).supply.left (size source) ∷ []
opened_as read size missing name (Err fault) = []

-- The outcome of creating a file: none had its name, unless an existing one may be overwritten.
abbrev pub created_as : ClobberOption → List ℕ → List Outcome
created_as Allowed name = []
created_as Refused name = Absent name ∷ []

-- The outcome of a call that creates a file: as `created_as` says, unless the call failed.
abbrev pub made_as : {A : Type 0} → ClobberOption → List ℕ → Result A OpenFault → List Outcome
made_as clobber name (Ok out) = created_as clobber name
made_as clobber name (Err fault) = []

-- The outcome of replacing what a name has by these bytes: they were put, unless the call failed.
abbrev pub put_as : {E : Type 0} → List ℕ → List ℕ → Result (Unit {0}) E → List Outcome
put_as name bytes (Ok done) = Put name bytes ∷ []
put_as name bytes (Err fault) = []

-- ---- What contracts see of a set of files, and what is done in a part of a run.

-- A set of files as contracts see it.
pub record FilesView : Type 0 where
  -- what was found, read and put, in order
  pub outcomes : List Outcome
  -- the output that was ended last, if one was
  pub ended : Option EndedFile

-- The set of files after these outcomes, and with nothing else changed.
abbrev pub with_outcomes : List Outcome → FilesView → FilesView
with_outcomes more files = record files { outcomes = files.outcomes ++ more }

-- A name, and the bytes that were put under it.
pub record Entry : Type 0 where
  pub name : List ℕ
  pub bytes : List ℕ

-- The entry of this name and these bytes.
abbrev pub entry : (name bytes : List ℕ) → Entry
entry name bytes = record { name = name; bytes = bytes }

-- The entries that were put, in order.
unfoldable pub puts_in : List Outcome → List Entry
puts_in [] = []
puts_in (Put name bytes ∷ more) = entry name bytes ∷ puts_in more
puts_in (other ∷ more) = puts_in more

-- Between two states of a set of files, exactly these entries were put.
pub record PutsOnly (puts : List Entry) (old new : FilesView) : Type 0 where
  pub more : List Outcome
  pub is : new.outcomes ≡ old.outcomes ++ more
  pub puts_are : puts_in more ≡ puts

-- Between two states of a set of files, nothing was put or ended.
pub record Does (old new : FilesView) : Type 0 where
  pub more : List Outcome
  pub is : new ≡ with_outcomes more old
  pub none_put : puts_in more ≡ []

-- Between two states of a set of files, this outcome came.
pub record NotedSince (old new : FilesView) (outcome : Outcome) : Type 0 where
  pub before : List Outcome
  pub later : List Outcome
  pub is : new.outcomes ≡ old.outcomes ++ (before ++ outcome ∷ later)

-- ---- What files gave, by what came.

-- One of the files of this name gave these bytes, and its reading is over. Its contents, if
-- contracts see them, are these bytes and what is left.
pub record HasGiven (Came : Outcome → Type 0) (name bytes : List ℕ) : Type 0 where
  pub reading : Reading
  pub over : Came (Gave reading)
  pub named : reading.name ≡ name
  pub given : reading.given ≡ bytes
  pub left : Option (List ℕ)
  pub size : Option ℕ
  pub found : Came (Found Fails name (prepend_known bytes left) size)

-- One of the files of this name gave these bytes to its end: they are all that it had to give.
pub record HasGivenAll (Came : Outcome → Type 0) (name bytes : List ℕ) : Type 0 where
  pub gave : HasGiven Came name bytes
  pub whole : gave.reading.is_at_end ≡ true
  pub none : IsAtEnd gave.left

-- ---- Which faults a set of files returns.

-- The fault is this one, or memory ran out.
abbrev pub IsMemoryOr : FileFault → FileFault → Type 0
IsMemoryOr other fault = (fault ≡ other) ⊎ (fault ≡ Memory)

-- The error is this fault, or that memory ran out, or that the file is in use and can't be shared.
abbrev pub OpenFails : FileFault → OpenFault → Type 0
OpenFails other SameFile = Unit {0}
OpenFails other (Fault fault) = IsMemoryOr other fault

-- The number of the fault, which the error that two names are one file doesn't have.
abbrev pub open_fault_number : OpenFault → Option ℕ
open_fault_number SameFile = None
open_fault_number (Fault fault) = Some (fault_number fault)

-- The line or chunk of the fault, if it has one.
abbrev pub open_fault_place : OpenFault → Option ℕ
open_fault_place SameFile = None
open_fault_place (Fault fault) = fault_place fault
