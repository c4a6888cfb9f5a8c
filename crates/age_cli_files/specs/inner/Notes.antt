-- What a note says. Private: no public contract cites this module.
use Rattle.std.specs.Prelude.{List, []}
use Rattle.age_cli_files.specs.FileSet.{Outcome}
use Rattle.age_cli_files.specs.Notes.{once_done}
use Rattle.age_cli_files.specs.declared.log.LogUpdate.{LogUpdate}
use Rattle.age_cli_files.specs.declared.log.LogUpdate.TheVariants as note

-- what a note says
abbrev pub outcomes_of : LogUpdate → List Outcome
outcomes_of note.Nothing = []
outcomes_of (note.More cell doing) = once_done doing cell.now.value
