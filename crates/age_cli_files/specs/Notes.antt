-- The log of a set of files.
use Rattle.std.specs.Prelude.{List, [], ◌∷◌, ◌++◌, option_map}
use Rattle.age_cli_files.specs.FileSet.{Outcome, Found, Absent, Present, Gave, Settled, Put, Reading, created_as}
use Rattle.age_cli_files.specs.declared.log.FileEvent.{FileEvent}
use Rattle.age_cli_files.specs.declared.log.FileEvent.TheVariants as doing

-- The outcomes of an entry of the log.
abbrev came_of : FileEvent → List Outcome
came_of (doing.Found missing name left size) =
    Found missing name.now (option_map (λ t. t.now) left) size ∷ []
came_of (doing.Created clobber name) = created_as clobber name.now
came_of (doing.Absent name) = Absent name.now ∷ []
came_of (doing.Present name) = Present name.now ∷ []
came_of (doing.Gave name given is_at_end) =
    let reading : Reading =
    record { name = name.now; given = given.now; is_at_end = is_at_end } in
    Gave reading ∷ []
came_of (doing.Settled durability took size) = Settled durability took.now size ∷ []
came_of (doing.Put name bytes) = Put name.now bytes.now ∷ []

-- The outcomes in a log after one more entry.
abbrev pub once_done : FileEvent → List Outcome → List Outcome
once_done doing old = old ++ came_of doing
