-- The record of an output that was ended.
use Rattle.std.specs.Prelude.{◌≡◌, ◌≢◌, ◌⊎◌, ◌<◌, ℕ, List, [], ◌∷◌, Bool, true, false, Option, IfSome}
use Rattle.std.specs.Prelude.{MatchOption, Result, OnOk, OnErr}
use Rattle.age_io.specs.{SinkView}
use Rattle.age_host_model.specs.declared.options.Durability.{Durability}
use Rattle.age_host_model.specs.declared.options.Durability.TheVariants.{Synced}
use Rattle.age_host_model.specs.Calls.{FileCall, ClosesLast, Opened}
use Rattle.age_host_model.specs.declared.opened.FileKind.TheVariants.{Device}
use Rattle.age_host_model.specs.Output.{OutFile, TouchesFile, has_changed}
use Rattle.age_host_model.specs.Durable.{IsSafe, IsThereAs, SavesWhole}

-- An output that was ended: what its sink took, its file, and the calls that were made for it.
pub record EndedFile : Type 0 where
  -- the bytes that its sink had taken
  pub took : List ℕ
  -- whether it was closed with them, and not discarded
  pub is_closed : Bool
  -- which regular file of a disk it is, if it is one, and whether its name is a link
  pub file : Option OutFile
  pub is_link : Bool
  -- the calls that were made for it, the newest first, and how many have failed
  pub calls : List FileCall
  pub failed : ℕ

-- One call was made, which opened this file, and it isn't a regular file.
abbrev pub OpensDevice : ℕ → List FileCall → Type 0
OpensDevice n calls = (path : List ℕ) × (calls ≡ Opened path n Device ∷ [])

-- The calls touched nothing except the output's file. For an output that isn't a regular file, no
-- regular file was opened or made: it is a device, or a stream, for which no call is noted.
abbrev pub TouchesItself : EndedFile → Type 0
TouchesItself e =
    MatchOption e.file ((e.calls ≡ []) ⊎ ((n : ℕ) × OpensDevice n e.calls))
    (λ f. TouchesFile f e.calls)

-- The path of the output is its name, unless the name is a link.
abbrev pub IsAtName : (name : List ℕ) → EndedFile → Type 0
IsAtName name e = e.is_link ≡ false → IfSome e.file (λ f. f.path ≡ name)

-- A regular file is at its path, with exactly what its sink took.
abbrev pub IsAtPathWithBytes : EndedFile → Type 0
IsAtPathWithBytes e = IfSome e.file (λ f. IsThereAs f.path f.number e.took e.calls)

-- A power cut leaves at the path of a regular file exactly what its sink took.
abbrev pub IsDurable : EndedFile → Type 0
IsDurable e = IfSome e.file (λ f. IsSafe f.path e.took e.calls)

-- No call has changed what a regular file held, if it existed. If no put has failed, a power cut
-- leaves at its path what it might have left before, or the empty file that was made.
abbrev pub IsUntouched : (failed : ℕ) → EndedFile → Type 0
IsUntouched failed e = IfSome e.file (λ f. (f.is_made ≡ false → has_changed e.calls ≡ false)
    × (failed ≡ 0 → SavesWhole f.path [] [] e.calls))

-- An output with this file and this sink was closed. Unless something failed, its file is at its
-- path, and on the disk if it was to be synced.
pub record Closes {E : Type 0} (durability : Durability) (file : Option OutFile) (sink : SinkView)
    (result : Result (Unit {0}) E) (e : EndedFile) : Type 0 where
  pub took : e.took ≡ sink.taken.bytes
  pub closed : e.is_closed ≡ true
  pub same : e.file ≡ file
  pub at : IsAtName sink.taken.label e
  pub within : TouchesItself e
  -- A file whose sink took bytes was closed once it had them, if the end hasn't failed.
  pub kept : sink.taken.bytes ≢ [] → OnOk result (IfSome file (λ f. ClosesLast f.number e.calls))
  -- It is at its path, if neither a put nor the end has failed.
  pub there : sink.failed ≡ 0 → OnOk result (IsAtPathWithBytes e)
  -- It is on the disk, if it was to be synced, and neither a put nor the end has failed.
  pub safe : durability ≡ Synced → sink.failed ≡ 0 → OnOk result (IsDurable e)
  -- If the end of a regular file has failed, so has a call.
  pub caused : OnErr result (IfSome file (λ f. 0 < e.failed))

-- An output was discarded. Its file is untouched if its sink took nothing.
pub record Discards (file : Option OutFile) (sink : SinkView) (e : EndedFile) : Type 0 where
  pub took : e.took ≡ sink.taken.bytes
  pub closed : e.is_closed ≡ false
  pub same : e.file ≡ file
  pub at : IsAtName sink.taken.label e
  pub within : TouchesItself e
  pub untouched : sink.taken.bytes ≡ [] → IsUntouched sink.failed e
