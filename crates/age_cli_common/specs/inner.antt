-- How runs end, and what calls leave that pull the first bytes of a source.
-- Private: no public contract cites this module.
use Rattle.std.specs.Prelude.{◌≡◌, ℕ, ◌≤◌, List, take}
use Rattle.age_io.specs.Supply.{Supply}
use Rattle.age_io.specs.{Consumes, IsAtEnd}
use Rattle.age_cli_files.specs.declared.file_set.OpenFault.{OpenFault}
use Rattle.age_cli_files.specs.declared.file_set.OpenFault.TheVariants as create
use Rattle.age_cli_common.specs.declared.command_error.CommandError.{CommandError}
use Rattle.age_cli_common.specs.declared.command_error.CommandError.TheVariants.{Usage, Fault}
use Rattle.age_cli_common.specs.declared.command_error.Usage.TheVariants as usage

-- ---- How runs end.

-- how a command ends whose output can't be created
abbrev pub ending_of : OpenFault → CommandError
ending_of create.SameFile = Usage usage.SameFile
ending_of (create.Fault fault) = Fault fault

-- ---- The pieces in which the first bytes of a source come.

-- the first n bytes of a buffer are the next piece of a source
pub record IsPiece (old new : Supply) (most n : ℕ) (buffer : List ℕ) : Type 0 where
  -- It has at most as many bytes as were asked for.
  pub within : n ≤ most
  -- They are what came next.
  pub read : Consumes old new (take n buffer)
  -- It is empty only at the end.
  pub at_end : n ≡ 0 → IsAtEnd new
