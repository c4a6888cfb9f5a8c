-- The ending of a command that isn't done.
use Rattle.std.specs.Prelude.{Bool, true, false}
use Rattle.age_cli_common.specs.declared.command_error.CommandError.{CommandError}
use Rattle.age_cli_common.specs.declared.command_error.CommandError.TheVariants.{Fault, Unsaved, Usage}

-- Whether the ending is a bad command line.
abbrev pub is_usage : CommandError → Bool
is_usage (Fault fault) = false
is_usage (Unsaved fault second) = false
is_usage (Usage error) = true
