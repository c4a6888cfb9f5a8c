-- What words ask for, whichever request was made of them.
use Rattle.std.proofs.Common.{◌≡◌, ◌∙◌, ap, sym, subst, refl, inl, inr, true, false, true≢false, ℕ, List, []}
use Rattle.std.proofs.Common.{Option, Some}
use Rattle.std.specs.Option.{option_map_or}
use Rattle.std.specs.Prelude.{bytes_eq}
use Rattle.clap.specs.Kinds.{Kinds, IsAmong}
use Rattle.clap.specs.Words.{Row, Text}
use Rattle.clap.specs.declared.error.kind.ErrorKind.TheVariants.{DisplayHelp, DisplayVersion}
use Rattle.age_cli_args.proofs.{no_command}
use Rattle.age_cli_args.specs.{Asks, IsForHelp, refusals, IsRequest}
use Rattle.age_cli_args.specs.Requests.{Requests}
use Rattle.age_cli_args.specs.declared.request.Request.{Request}
use Rattle.age_cli.specs.{IsMadeBy}

-- what the words ask for is asked for by their one command, with its arguments
same_rows : (words : List Text) (asked : Request) (name : Text) (rows : List Row) → Asks words name rows → Requests words asked
    → IsRequest name rows asked
same_rows words asked name rows asks (other, given, also, is) =
    let same = sym also.command ∙ asks.command in
    let names : other ≡ name = ap (λ (o : Option (Text × List Row)). option_map_or (λ q. q.0) o []) same in
    let lists : given ≡ rows = ap (λ (o : Option (Text × List Row)). option_map_or (λ q. q.1) o []) same in
    subst (λ (n : Text). IsRequest n rows asked) names (subst (λ (l : List Row). IsRequest other l asked) lists is)

-- words with a command make the request by their rows
pub rows_of : (words : List Text) (asked : Request) (name : Text) (rows : List Row) → Asks words name rows → IsMadeBy words asked
    → IsRequest name rows asked
rows_of words asked name rows asks (inl made) = same_rows words asked name rows asks made
rows_of words asked name rows asks (inr none) = absurd (no_command words name rows none.0 asks)

pub not_help : (words : List Text) → refusals words ≡ [] → IsForHelp words → ⊥
not_help words taken (inl help) = subst (λ (ks : Kinds). IsAmong DisplayHelp ks) taken help
not_help words taken (inr version) = subst (λ (ks : Kinds). IsAmong DisplayVersion ks) taken version

pub same_text : (a b : Text) (o : Option Text) → Some a ≡ o → Some b ≡ o → a ≡ b
same_text a b o p q = ap (λ (x : Option Text). option_map_or (λ t. t) x []) (p ∙ sym q)

-- a request is none of another command
pub differs : (a b name : Text) → name ≡ a → name ≡ b → bytes_eq a b ≡ false → bytes_eq b b ≡ true → ⊥
differs a b name x y apart same = true≢false (sym same ∙ ap (λ (n : Text). bytes_eq n b) (sym y ∙ x) ∙ apart)
