-- Laws about the files that are read.
use Rattle.std.specs.Prelude.{◌≡◌, ◌<◌, ◌^◌, ℕ, List, Some, Contains}
use Rattle.age_host_model.specs.{FileCall, after_calls, OutFile, AllOn}
use Rattle.age_host_model.specs.Disk.{Disk}
use Rattle.age_host_paths.specs.{number_of}
use Rattle.age_host_paths.specs.declared.resolve_name.FileId.{FileId}
use Rattle.age_host_paths.specs.declared.metadata.DevIno.{DevIno}
use Rattle.age_host_paths.specs.declared.resolve_name.FileId.TheVariants.{File}
use Rattle.age_host_output.specs.{OutputView}
use Rattle.age_host.specs.Files.{IsApart}

-- The calls of a regular output that is none of the opened files change on no disk what these files
-- hold.
-- (in any order: each of these files is open, whichever came first)
abbrev pub NoInputIsChanged : Type 0
NoInputIsChanged = (opened : List FileId) (out : OutputView) (file : OutFile) (calls : List FileCall)
    → IsApart opened out → out.file ≡ Some file → AllOn file.path file.number calls
    → (input : DevIno) → input.inode < 2 ^ 64 → Contains opened (File input) → (disk : Disk)
    → (after_calls calls disk).bytes (number_of input) ≡ disk.bytes (number_of input)

-- The calls of a new output change no file to which a path led before.
abbrev pub NoOtherIsChanged : Type 0
NoOtherIsChanged = (file : OutFile) (calls : List FileCall) → AllOn file.path file.number calls
    → (disk : Disk) → ((path : List ℕ) → disk.file path ≡ Some file.number → ⊥)
    → (path : List ℕ) (other : ℕ) → disk.file path ≡ Some other
    → (after_calls calls disk).bytes other ≡ disk.bytes other
