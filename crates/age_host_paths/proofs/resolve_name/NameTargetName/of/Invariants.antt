use Rattle.std.proofs.Common.{◌≡◌, is_some, false}
use Rattle.std.specs.Path.{path_buf_bytes}
use Rattle.age_host_paths.proofs.resolve_name.NameTargetName.of.Given as goal

-- no link was found so far, or the path is the name
abbrev pub invariant-links : goal.invariant-links
invariant-links l = record { own : is_some l.link ≡ false → path_buf_bytes l.path ≡ l.fn.name }
