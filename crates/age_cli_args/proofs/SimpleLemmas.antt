-- The program is simple: the parser of command lines says what each word gives. How it is built.
use Rattle.std.proofs.Common.{◌≡◌, true, refl, List, [], Option, None, ap, ◌∙◌, ℕ, suc, ◌+◌, ◌<◌, length, drop, get_or, arith}
use Rattle.std.proofs.Math.Seq.{drop-cons}
use Rattle.std.specs.Borrow.{Bor}
use Rattle.clap.specs.Words.{is_simple, is_simple_and_free, Row, Text, App, Rule, with_rule, with_subcommand}
use Rattle.clap.specs.Simple.{app_of_fields}
use Rattle.clap.specs.declared.builder.command.Command.{Command}
use Rattle.clap.specs.declared.builder.command.Command.TheViews.{out-Command}
use Rattle.clap.specs.declared.builder.command.Command.TheOpen.{Command-F}
use Rattle.age_cli_args.specs.{named, Asks, age_tool, encrypting, decrypting, resuming, inspecting, drilling}
use Rattle.clap.proofs.OnLiterals.{clap_on_literals}
use Rattle.age_cli_args.specs.inner.{HasApp, with_all, rule_as, app_as, with_subcommands}
use Rattle.age_cli_args.specs.declared.commands.Argument.{Argument}
use Rattle.age_cli_args.specs.declared.commands.Subcommand.{Subcommand}

pub is_simple-age_tool : is_simple age_tool ≡ true
unfolding clap_on_literals age_tool encrypting decrypting resuming inspecting drilling
is_simple-age_tool = refl

pub is_free-age_tool : is_simple_and_free age_tool ≡ true
unfolding clap_on_literals age_tool encrypting decrypting resuming inspecting drilling
is_free-age_tool = refl

named-nothing : named [] ≡ None
unfolding named clap_on_literals age_tool encrypting decrypting resuming inspecting drilling
named-nothing = refl

-- no words name no command
pub no_command : (words : List Text) (name : Text) (rows : List Row) → words ≡ [] → Asks words name rows → ⊥
no_command words name rows none asks = let here : named words ≡ None = ap named none ∙ named-nothing in let there = asks.command in cc

-- how a command is used says nothing of what it takes
pub usage_said : (old new : Command) (a : App) (usage : Option (Bor Text)) → out-Command new ≡ record (out-Command old) { usage_str = usage } → HasApp a old
    → HasApp a new
usage_said old new a usage e h = (ap app_of_fields e ∙ h.0, ap (λ (f : Command-F Command). f.has_globals) e ∙ h.1)

-- ---- The commands' tables of arguments, and the table of commands, added one after the other.

pub add_one : (old new : App) (all : List Argument) (i : ℕ) (r : Rule) (d : Argument) → i < length all → new ≡ with_rule old r
    → r ≡ rule_as (get_or all i d).id.now (get_or all i d).given → with_all new (drop (i + 1) all) ≡ with_all old (drop i all)
add_one old new all i r d h e f =
    let next : suc i ≡ i + 1 = omega arith in
    rw (e, f, drop-cons all i d h, next) refl

pub add_command : (old new : App) (all : List Subcommand) (i : ℕ) (d : Subcommand) → i < length all → new ≡ with_subcommand old (app_as (get_or all i d)).top
    → with_subcommands new (drop (i + 1) all) ≡ with_subcommands old (drop i all)
add_command old new all i d h e =
    let next : suc i ≡ i + 1 = omega arith in
    rw (e, drop-cons all i d h, next) refl
