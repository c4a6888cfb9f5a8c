-- What was opened and isn't a regular file. Private: no public contract cites this module.
use Rattle.std.specs.Prelude.{ℕ, List, [], ◌∷◌, Option, Some, None}
use Rattle.age_host_model.specs.{FileCall, Opened}
use Rattle.age_host_model.specs.declared.opened.FileKind.TheVariants.{Device}

-- which one it is, if these calls only opened it
abbrev pub device_of : List FileCall → Option ℕ
device_of (Opened path n Device ∷ []) = Some n
device_of calls = None
