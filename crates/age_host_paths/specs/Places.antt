-- The path of a name.
use Rattle.std.specs.Prelude.{◌≡◌, ℕ, List}
use Rattle.std.specs.Path.{path_buf_bytes}
use Rattle.age_host_paths.specs.declared.resolve_name.NameTarget.{NameTarget}
use Rattle.age_host_paths.specs.declared.resolve_name.NameTarget.TheVariants as to

-- The target is a standard stream, or the path that the name itself is.
abbrev pub IsItself : (name : List ℕ) → NameTarget → Type 0
IsItself name (to.Stream stream) = Unit {0}
IsItself name (to.Path path) = path_buf_bytes path ≡ name
