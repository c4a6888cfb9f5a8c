-- A set of files in memory as contracts see it, and what each call does.
use Rattle.std.specs.Prelude.{ℕ, List, ◌≡◌, Bool, false, [], Option, Some, None, ◌≢◌, ◌-◌, ◌^◌, true}
use Rattle.std.specs.Prelude.{is_some, ◌∷◌, if◌then◌else◌, find, length, option_map, Result, OnOk, OnErr}
use Rattle.std.specs.Str.{bytes_eq}
use Rattle.age_io.specs.{SourceView, SinkView}
use Rattle.age_memory.specs.{Feeding, Holding, holds, memory_supply}
use Rattle.age_host_model.specs.{EndedFile}
use Rattle.age_fault.specs.declared.fault.FileFault.{FileFault}
use Rattle.age_cli_files.specs.{FilesView, IsMemoryOr, Outcome, Found, Absent, Present, Gave, Settled, Put}
use Rattle.age_cli_files.specs.declared.file_set.OpenFault.{OpenFault}
use Rattle.age_cli_files.specs.declared.file_set.OpenFault.TheVariants.{SameFile, Fault}
use Rattle.age_cli_files.specs.declared.file_set.IfMissing.{IfMissing}
use Rattle.age_cli_files.specs.declared.file_set.IfMissing.TheVariants.{Fails, Empty}
use Rattle.age_cli_memory.specs.declared.entry.MemEntry.{MemEntry}

-- The error is this fault, or that memory ran out: no file in memory is shared.
abbrev pub MemFails : FileFault → OpenFault → Type 0
MemFails other SameFile = ⊥
MemFails other (Fault fault) = IsMemoryOr other fault

-- The bytes to read under a name that has this file, or none.
abbrev pub held_by : IfMissing → Option (List ℕ) → Option (List ℕ)
held_by Fails held = held
held_by Empty None = Some []
held_by Empty (Some bytes) = Some bytes

-- ---- What is stored under each name, by what came.

-- The contents of files: of each name the bytes of its file, if it has one.
abbrev pub Files : Type 0
Files = List ℕ → Option (List ℕ)

-- The contents of no files.
abbrev pub no_files : Files
no_files name = None

-- The contents after one more outcome.
abbrev pub once : Files → Outcome → Files
once files (Put name bytes) q = if bytes_eq name q then Some bytes else files q
once files other q = files q

-- The contents after these outcomes.
unfoldable pub stands : Files → List Outcome → Files
stands files [] = files
stands files (outcome ∷ more) = stands (once files outcome) more

-- The outcome is true of these contents, in a set that shows them.
abbrev pub Fits : Files → Outcome → Type 0
Fits files (Found missing name left size) =
    (is_some left ≡ true) × (left ≡ held_by missing (files name)) × (size ≡ option_map length left)
Fits files (Absent name) = files name ≡ None
Fits files (Present name) = is_some (files name) ≡ true
Fits files (Settled durability took size) = size ≡ length took
Fits files (Gave reading) = Unit {0}
Fits files (Put name bytes) = Unit {0}

-- Each of these outcomes is true of the contents at its time.
unfoldable pub AllFit : Files → List Outcome → Type 0
AllFit files [] = Unit {0}
AllFit files (outcome ∷ more) = Fits files outcome × AllFit (once files outcome) more

-- ---- What files in memory hold.

-- Whether an entry has this name.
abbrev pub has_name : List ℕ → MemEntry → Bool
has_name q e = bytes_eq e.name q

-- The bytes of the first entry of a name.
abbrev pub entry_of : List MemEntry → List ℕ → Option (List ℕ)
entry_of es q = option_map (λ e. e.bytes) (find (has_name q) es)

-- Bytes were to be stored under a name, in place of its old contents.
pub record PutsEntry {E : Type 0} (name bytes : List ℕ) (result : Result (Unit {0}) E)
    (old new : List MemEntry) : Type 0 where
  -- They are stored there, if it succeeded.
  pub put : OnOk result (entry_of new name ≡ Some bytes)
  -- What is stored under any other name doesn't change.
  pub others : (q : List ℕ) → q ≢ name → entry_of new q ≡ entry_of old q
  -- Nothing changes at all, if it failed.
  pub err : OnErr result (new ≡ old)

-- A set of files in memory.
pub record Shelf : Type 0 where
  -- the files
  pub entries : List MemEntry
  -- the names that can't be written
  pub refused : List (List ℕ)
  -- how many bytes a file that is written can hold
  pub room : ℕ
  -- what came of what was done
  pub outcomes : List Outcome
  -- the output that was ended last, if one was
  pub ended : Option EndedFile

-- A set of files in memory as contracts see any set. None of its files is on a disk.
abbrev pub seen_in : Shelf → FilesView
seen_in shelf = record {
  outcomes = shelf.outcomes;
  ended = shelf.ended;
}

-- The bytes under each name are those that the outcomes put there, and the outcomes are all true.
pub record AreTrue (entries : List MemEntry) (outcomes : List Outcome) : Type 0 where
  pub stand : (q : List ℕ) → entry_of entries q ≡ stands no_files outcomes q
  pub fit : AllFit no_files outcomes

-- A file in memory that is read, as a source.
abbrev pub shown_in : List ℕ × Feeding → SourceView
shown_in file = record {
  supply = memory_supply file.1.given file.1.left file.1.is_at_end;
  failed = file.1.failures;
  failing = file.1.failing;
  label = file.0;
}

-- The number of bytes that a file in memory still has to give.
abbrev pub size_in : List ℕ × Feeding → Option ℕ
size_in file = Some (length file.1.left)

-- A file in memory that is written, as a sink.
abbrev pub shown_out : List ℕ × Holding → SinkView
shown_out file = record {
  taken = record (holds file.1.held) { label = file.0 };
  failed = file.1.failures;
  failing = file.1.failing;
  flushed = file.1.flushed;
}

-- A file in memory that was ended. It is on no disk.
abbrev pub ended_with : List ℕ → Bool → EndedFile
ended_with took is_closed = record {
  took = took;
  is_closed = is_closed;
  file = None;
  is_link = false;
  calls = [];
  failed = 0;
}

-- The source of a file of these bytes. It gives them all, and no read fails.
abbrev pub full_with : List ℕ → Feeding
full_with bytes = record {
  given = [];
  left = bytes;
  step = 2 ^ 64 - 1;
  fail_call = None;
  calls = 0;
  failures = 0;
  failing = false;
  is_at_end = false;
}

-- The sink of a new file that holds at most `room` bytes.
abbrev pub empty_with : ℕ → Holding
empty_with room = record {
  held = [];
  room = room;
  step = 2 ^ 64 - 1;
  fail_call = None;
  calls = 0;
  failures = 0;
  failing = false;
  flushed = false;
}
