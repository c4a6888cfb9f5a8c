-- How the parser of command lines is built from a table of commands. Private: no public contract
-- cites this module.
use Rattle.std.specs.Prelude.{◌≡◌, Bool, true, false, codes, List, [], ◌∷◌}
use Rattle.clap.specs.Words.{App, Rule, Text, app_of, new_app, new_rule, with_rule, with_subcommand}
use Rattle.clap.specs.Simple.{on_top}
use Rattle.clap.specs.declared.builder.command.Command.TheViews.{out-Command}
use Rattle.clap.specs.declared.builder.command.Command.{Command}
use Rattle.age_cli_args.specs.Commands.{option_rule, required_rule, number_rule, flag_rule}
use Rattle.age_cli_args.specs.declared.commands.Argument.{Argument}
use Rattle.age_cli_args.specs.declared.commands.ArgumentForm.{ArgumentForm}
use Rattle.age_cli_args.specs.declared.commands.ArgumentForm.TheVariants.{Value, File, Number, Flag, Operand, Word}
use Rattle.age_cli_args.specs.declared.commands.Subcommand.{Subcommand}

-- some option of the command reaches its subcommands
abbrev pub has_globals : Command → Bool
has_globals c = (out-Command c).has_globals

-- a command with no option that reaches its subcommands
abbrev pub HasApp : App → Command → Type 0
HasApp a c = (app_of c ≡ a) × (has_globals c ≡ false)

-- the program's help and version
abbrev pub described_tool : App
described_tool = on_top (λ s. record s { has_version = true }) (new_app (codes "age_tool"))

-- the program without its commands
abbrev pub bare_tool : App
bare_tool = on_top
    (λ s. record s { no_binary_name = true; subcommand_required = true; has_version = true })
    (new_app (codes "age_tool"))

-- how the parser reads an argument that is given like this
abbrev pub rule_as : Text → ArgumentForm → Rule
rule_as id (Value _) = option_rule id
rule_as id File = required_rule (option_rule id)
rule_as id Number = number_rule id
rule_as id Flag = flag_rule id
rule_as id Operand = required_rule (new_rule id)
rule_as id Word = new_rule id

-- a command with these arguments added, one after the other
abbrev pub with_all : App → List Argument → App
with_all a [] = a
with_all a (r ∷ rest) = with_all (with_rule a (rule_as r.id.now r.given)) rest

-- a command as the table says it
abbrev pub app_as : Subcommand → App
app_as s = with_all (new_app s.name.now) s.arguments.now

-- a program with these commands added, one after the other
abbrev pub with_subcommands : App → List Subcommand → App
with_subcommands a [] = a
with_subcommands a (s ∷ rest) = with_subcommands (with_subcommand a (app_as s).top) rest
