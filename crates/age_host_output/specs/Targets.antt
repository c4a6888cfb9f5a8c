-- The target of an output, while it is written.
use Rattle.std.specs.Prelude.{◌≡◌, ◌≤◌, ℕ, List, [], length, Option, Some, None, false, option_map}
use Rattle.std.specs.Prelude.{string_bytes, IfSome, is_some}
use Rattle.age_host_model.specs.{OutFile, OutView, text_of}
use Rattle.age_host_output.specs.declared.target.OutputName.{OutputName}
use Rattle.age_host_output.specs.declared.output.SyncSchedule.{SyncSchedule}
use Rattle.age_host_output.specs.declared.target.OutputTarget.{OutputTarget}
use Rattle.age_host_output.specs.declared.target.OutputTarget.TheVariants as target

-- The regular file of a target, if it is one.
abbrev pub regular_of : OutputTarget → Option OutView
regular_of (target.File out) = Some out
regular_of other = None

-- The regular file of a target, without the calls made for it, if it is one.
abbrev pub out_file_of : OutputTarget → Option OutFile
out_file_of it = option_map (λ (o : OutView). o.file) (regular_of it)

-- The path at which the file of a target is to be made, if it doesn't exist yet.
abbrev pub unmade_of : OutputTarget → Option (List ℕ)
unmade_of (target.Unmade path) = Some (string_bytes path)
unmade_of other = None

-- A regular file is at the output's name, or is to be made there, unless the name is a link.
abbrev pub IsAtOutName : OutputName → Option OutFile → (unmade : Option (List ℕ)) → Type 0
IsAtOutName name file unmade = is_some name.link ≡ false
    → IfSome file (λ f. f.path ≡ string_bytes name.text)
    × IfSome unmade (λ path. path ≡ string_bytes name.text)

-- What the sink took was written to the regular file. While no put has failed, no call has, unless
-- the file can't be relied on. While nothing was taken either, no call has failed in any case.
abbrev pub IsTaking : Option OutView → ℕ → List ℕ → Type 0
IsTaking None failed took = Unit {0}
IsTaking (Some out) failed took = (text_of out.calls ≡ took)
    × ((failed ≡ 0 → out.is_indeterminate ≡ false → out.failed ≡ 0)
    × (failed ≡ 0 → took ≡ [] → out.failed ≡ 0))

-- No more was synced than was written, nor written than the sink took; and some was written, if it
-- took any.
abbrev pub IsPaced : SyncSchedule → List ℕ → Type 0
IsPaced pace took = (pace.settled ≤ pace.taken)
    × ((pace.taken ≤ length took) × (pace.taken ≡ 0 → took ≡ []))
