-- What was read of the files of a command, and what it makes.
use Rattle.std.proofs.Common.{◌≡◌, ◌∙◌, ◌++◌, refl, List, ℕ, Option, Some, None, subst}
use Rattle.std.specs.Option.{option_or}
use Rattle.clap.specs.Words.{Text}
use Rattle.age_cli_files.proofs.{all_as}
use Rattle.age_cli_files.specs.{Outcome, HasGivenAll}
use Rattle.age_cli_args.specs.{option_text}
use Rattle.age_cli_args.specs.declared.request.Decrypting.{Decrypting}
use Rattle.age_cli_args.specs.declared.request.IdentityOptions.{IdentityOptions}
use Rattle.age_cli_common.specs.{HoldsBytes, IsIdentity, Makes, Chooses, IsSecretGiven, MakesBy, file_of}
use Rattle.age_cli_common.specs.declared.identity_option.IdentityOption.{IdentityOption}
use Rattle.age_cli_common.specs.declared.identity.Identity.{Identity}
use Rattle.age_cli_common.specs.declared.identity.Identity.TheVariants.{ByPassphrase, ByFileKey, ByShared}
use Rattle.age_cli_commands.specs.inner.Engines.{OpensOf}

-- what a file gave, if one is named
secret_of_file : {Came : Outcome → Type 0} (file : Option Text) (held : Option (List ℕ)) → IsSecretGiven Came file held → (name : Text) (bytes : List ℕ)
    → file ≡ Some name → held ≡ Some bytes → HasGivenAll Came name bytes
secret_of_file {Came = Came} file held given name bytes is_name is_bytes =
    subst (λ (o : Option Text). IsSecretGiven Came o (Some bytes)) is_name (subst (λ (o : Option (List ℕ)). IsSecretGiven Came file o) is_bytes given)

-- what makes an identity is what the file gave that is named
pub made_as : (P Q : Text → List ℕ → Type 0) (pass key shared : Option Text) (max_log : ℕ) (identity : Identity)
    → ((name : Text) (bytes : List ℕ) → option_or pass shared ≡ Some name → P name bytes → Q name bytes)
    → IsIdentity P pass key shared max_log identity → IsIdentity Q pass key shared max_log identity
made_as P Q (Some pass) None None max_log (ByPassphrase words) so is = ((is.0.0, so pass is.0.0 refl is.0.1, is.0.2), is.1, is.2)
made_as P Q None (Some digits) None max_log (ByFileKey known) so is = is
made_as P Q None None (Some name) max_log (ByShared shared) so is = record {
  bytes = so name (shared.secret ++ shared.recipient) refl is.bytes;
  secret_length = is.secret_length;
  recipient_length = is.recipient_length;
}
made_as P Q pass key shared max_log identity so is = absurd is

pub made_by : (P Q : Text → List ℕ → Type 0) (u : IdentityOptions) (identity : Identity)
    → ((name : Text) (bytes : List ℕ) → option_or (option_text u.pass) (option_text u.shared) ≡ Some name → P name bytes → Q name bytes) → MakesBy P u identity → MakesBy Q u identity
made_by P Q u identity so is = made_as P Q (option_text u.pass) (option_text u.file_key) (option_text u.shared) u.max_log identity so is

module _ {Came Later : Outcome → Type 0} (so : (o : Outcome) → Came o → Later o) where
  -- what a choice made of the file that it names is what the options make
  pub opens_by : (d : Decrypting) {choice : IdentityOption} (held : Option (List ℕ)) (identity : Identity) → Chooses d.identity choice → Makes choice held identity
      → IsSecretGiven Came (file_of choice) held → OpensOf Later d identity
  opens_by d {choice = choice} held identity chooses makes given =
      made_by (λ name. HoldsBytes held) (HasGivenAll Later) d.identity identity
      (λ name bytes is_name is_bytes. all_as Came Later so name bytes (secret_of_file (file_of choice) held given name bytes (chooses.file ∙ is_name) is_bytes))
      (chooses.makes held identity makes)

  pub opens_as : (d : Decrypting) (identity : Identity) → OpensOf Came d identity → OpensOf Later d identity
  opens_as d identity opens =
      made_by (HasGivenAll Came) (HasGivenAll Later) d.identity identity (λ name bytes is_name given. all_as Came Later so name bytes given) opens
