-- How a part of a command ends before anything is written.
use Rattle.std.proofs.Common.{◌≡◌, ◌∙◌, ◌++◌, ◌∷◌, Option, Some, None, Result, inl, inr, ap, sym, List, ℕ}
use Rattle.std.proofs.Common.{[], subst, refl, ⊎_elim, ◌⊎◌}
use Rattle.std.proofs.lemmas.List.{append_cancel_left}
use Rattle.std.specs.Prelude.{IsErr, IsErrAnd, IsSomeAnd}
use Rattle.clap.specs.Words.{Text}
use Rattle.age_io.specs.{SinkView}
use Rattle.age_host_model.specs.{EndedFile, Discards, IsAtName, IsUntouched, OutFile, TouchesItself}
use Rattle.age_cli_files.proofs.{came_then, did_ended, grows_by, grows_then, puts_then}
use Rattle.age_cli_files.specs.{Outcome, FilesView, NotedSince, Does, PutsOnly, Entry, puts_in}
use Rattle.age_cli_common.proofs.{no_value, this_error}
use Rattle.age_cli_common.specs.declared.command_error.CommandError.{CommandError}
use Rattle.age_cli_commands.specs.Done.{CameFirst}
use Rattle.age_cli_commands.specs.Left.{Spares}
use Rattle.age_cli_commands.specs.inner.{OpensFiles, OpensOut}

pub some_and : {X : Type 0} {P Q : X → Type 0} (o : Option X) → ((x : X) → P x → Q x) → IsSomeAnd o P → IsSomeAnd o Q
some_and None so p = absurd p
some_and (Some x) so p = so x p

-- one into which nothing was put was discarded, or it wasn't even made
pub spared_by : (to : Text) (file : Option OutFile) (sink : SinkView) (before after : Option EndedFile) → sink.taken.label ≡ to → sink.taken.bytes ≡ []
    → sink.failed ≡ 0 → IsSomeAnd after (Discards file sink)
    → (after ≡ before) ⊎ IsSomeAnd after (λ out. IsAtName to out × TouchesItself out × (out.took ≡ []) × IsUntouched 0 out)
spared_by to file sink before after named none unfailed discarded = inr (some_and after (λ out d. (
  subst (λ (n : Text). IsAtName n out) named d.at,
  d.within,
  d.took ∙ none,
  subst (λ (n : ℕ). IsUntouched n out) unfailed (d.untouched none),
)) discarded)

-- ---- How a part fails.

pub spares_did : (to : Text) (old new : FilesView) → Does old new → Spares to old new
spares_did to old new did = record { spared = inl (did_ended old new did); none = grows_by old new did }

-- once the part before was done
pub spares_then : (to : Text) (old mid new : FilesView) → Does old mid → Spares to mid new → Spares to old new
spares_then to old mid new did f = record {
  spared = ⊎_elim (λ is. inl (is ∙ did_ended old mid did)) (λ empty. inr empty) f.spared;
  none = grows_then [] [] old mid new (grows_by old mid did) f.none;
}

pub opens_not : {A : Type 0} {old new : FilesView} {IsNew : A → Type 0} (e : CommandError) (r : Result A CommandError) → IsErr r × IsErrAnd r (λ x. x ≡ e)
    → Does old new → OpensFiles old new IsNew r
opens_not e r is did = record { done = no_value r e is _; fails = this_error r e is _ did }

pub opens_no_out : {A : Type 0} {to : Text} {old new : FilesView} {IsNew : A → Type 0} (e : CommandError) (r : Result A CommandError)
    → IsErr r × IsErrAnd r (λ x. x ≡ e) → Spares to old new → OpensOut to old new IsNew r
opens_no_out e r is spares = record { done = no_value r e is _; fails = this_error r e is _ spares }

front_none : (a b : List Entry) → a ++ b ≡ [] → a ≡ []
front_none [] b none = refl
front_none (e ∷ a) b none = cc

-- what came in a first part that put nothing came before anything was put
pub first_came : (puts : List Entry) (old mid new : FilesView) → PutsOnly [] old mid → PutsOnly puts mid new
    → (o : Outcome) → NotedSince old mid o → CameFirst old new o
first_came puts old mid new none more o c =
    let same : none.more ≡ c.before ++ o ∷ c.later = append_cancel_left old.outcomes _ _ (sym none.is ∙ c.is) in
    record {
      came = came_then puts old mid new more o c;
      first = front_none (puts_in c.before) (puts_in (o ∷ c.later)) (sym (puts_then c.before (o ∷ c.later)) ∙ ap puts_in (sym same) ∙ none.puts_are);
    }
