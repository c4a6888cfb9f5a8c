-- The arguments of each command, as the parser of command lines sees them.
use Rattle.std.specs.Prelude.{pos, true, Some, codes}
use Rattle.clap.specs.Words.{App, Rule, Text, new_app, new_rule, with_rule, with_subcommand}
use Rattle.clap.specs.Simple.{on_top}
use Rattle.clap.specs.declared.builder.ArgAction.TheVariants.{SetTrue}
use Rattle.clap.specs.declared.builder.value_parser.ValueParser.TheVariants as vp

-- ---- One argument.

-- An option with a value, `--ID VALUE`.
abbrev pub option_rule : Text → Rule
option_rule id = record (new_rule id) { long = Some id; value_names = 1 }

-- An argument that is required.
abbrev pub required_rule : Rule → Rule
required_rule r = record r { required = true }

-- An option with a number, `--ID N` for N from 1 to 22.
abbrev pub number_rule : Text → Rule
number_rule id = record (option_rule id) { parser = Some (vp.Signed (pos 1) (pos 22)) }

-- A flag, `--ID`.
abbrev pub flag_rule : Text → Rule
flag_rule id = record (new_rule id) { long = Some id; action = Some SetTrue }

-- ---- Arguments that several commands take, or that belong together.

-- A command with the options of writing, `[--no-sync] [--no-clobber] [--progress]`.
abbrev pub with_writing : App → App
with_writing a = with_rule (with_rule (with_rule a (flag_rule (codes "no-sync")))
    (flag_rule (codes "no-clobber"))) (flag_rule (codes "progress"))

-- A command with the options of decryption, `[--pass FILE] [--file-key HEX] [--shared FILE]
-- [--max-log N] [--save FILE]`, and those of writing.
abbrev pub with_opening : App → App
with_opening a = with_writing (with_rule (with_rule (with_rule (with_rule (with_rule a
    (option_rule (codes "pass"))) (option_rule (codes "file-key"))) (option_rule (codes "shared")))
    (number_rule (codes "max-log"))) (option_rule (codes "save")))

-- A command with the operands `IN OUT`.
abbrev pub with_both_files : App → App
with_both_files a =
    with_rule (with_rule a (required_rule (new_rule (codes "IN"))))
    (required_rule (new_rule (codes "OUT")))

-- A command with the options of encryption, `[--log N] [--random FILE]`, and those of writing.
abbrev pub with_sealing : App → App
with_sealing a = with_writing
    (with_rule (with_rule a (number_rule (codes "log"))) (option_rule (codes "random")))

-- ---- The commands, and the program.

-- The command `encrypt --pass FILE`, with the options of encryption, and `IN OUT`.
unfoldable pub encrypting : App
encrypting = with_both_files (with_sealing (with_rule (new_app (codes "encrypt"))
    (required_rule (option_rule (codes "pass")))))

-- The command `decrypt`, with the options of decryption, and `IN OUT`.
unfoldable pub decrypting : App
decrypting = with_both_files (with_opening (new_app (codes "decrypt")))

-- The command `resume --position FILE --old FILE`, with the options of decryption, and `IN OUT`.
unfoldable pub resuming : App
resuming = with_both_files (with_opening (with_rule (with_rule (new_app (codes "resume"))
    (required_rule (option_rule (codes "position")))) (required_rule (option_rule (codes "old")))))

-- The command `inspect [FILE]`.
unfoldable pub inspecting : App
inspecting = with_rule (new_app (codes "inspect")) (new_rule (codes "FILE"))

-- The command `drill [--clear] [--pass FILE] SCRIPT IN`.
unfoldable pub drilling : App
drilling = with_rule
    (with_rule (with_rule (with_rule (new_app (codes "drill")) (flag_rule (codes "clear")))
    (option_rule (codes "pass"))) (required_rule (new_rule (codes "SCRIPT"))))
    (required_rule (new_rule (codes "IN")))

-- The complete program, which parses the words after its name.
unfoldable pub age_tool : App
age_tool = with_subcommand (with_subcommand (with_subcommand (with_subcommand (with_subcommand
    (on_top
    (λ s. record s { no_binary_name = true; subcommand_required = true; has_version = true })
    (new_app (codes "age_tool")))
    encrypting.top) decrypting.top) resuming.top) inspecting.top) drilling.top
