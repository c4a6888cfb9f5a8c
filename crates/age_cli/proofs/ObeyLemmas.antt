-- What each arm of the part that obeys the words promises, from what its callee does.
use Rattle.std.proofs.Common.{◌≡◌, ◌∙◌, sym, subst, refl, inl, inr, List, [], ◌∷◌, ℕ, Bool, true, false}
use Rattle.std.proofs.Common.{true≢false, Option, Result, Ok, Err, length, Some, None, rules, ⊎_elim}
use Rattle.std.proofs.lemmas.Result.{on_ok_weaker}
use Rattle.std.specs.Borrow.{Bor}
use Rattle.std.specs.Prelude.{OnOk, IfErr, IfOk, IsOk, ◌==◌, IfSome, IfNone}
use Rattle.clap.specs.Kinds.{FailsBy, IsAmong, HasKind}
use Rattle.clap.specs.Values.{kind_of}
use Rattle.clap.specs.Walk.{texts}
use Rattle.clap.specs.Words.{Text}
use Rattle.clap.specs.declared.error.Error.{Error}
use Rattle.clap.specs.declared.error.kind.ErrorKind.{ErrorKind}
use Rattle.age_io.specs.{SinkView}
use Rattle.age_io.specs.Supply.{Supply}
use Rattle.age_file_inspect.specs.{IsReport, Inspects}
use Rattle.age_file_inspect.specs.declared.report.Report.{Report}
use Rattle.age_cli_files.specs.{FilesView}
use Rattle.age_cli_args.specs.{IsForHelp, refusals}
use Rattle.age_cli_args.specs.Requests.{Requests}
use Rattle.age_cli_args.specs.declared.request.Drilling.{Drilling}
use Rattle.age_cli_args.specs.declared.request.Request.{Request}
use Rattle.age_cli_args.specs.declared.request.Request.TheVariants.{Inspect, Drill}
use Rattle.age_cli_common.proofs.{always_ok}
use Rattle.age_cli_common.specs.declared.command_error.CommandError.{CommandError}
use Rattle.age_cli_commands.proofs.EndingLemmas.{as_ended}
use Rattle.age_cli_commands.specs.Effects.{Acts, HoldsAfter}
use Rattle.age_cli_commands.specs.declared.pending_stop.CommandFailure.TheVariants.{Ended}
use Rattle.age_cli.specs.{IsApart, IsMadeBy, IsReadOf, PrintsReport, World}
use Rattle.age_cli.specs.Runs.{IsCausedBy}
use Rattle.age_cli.specs.declared.error.RunError.{RunError}
use Rattle.age_cli.specs.declared.error.RunError.TheVariants as run
use Rattle.age_cli.specs.inner.{Declines, DoesOther, DoesRequest, IsForOutput, IsInspected, IsRefusedBy}
use Rattle.age_cli.specs.inner.{Obeys, ended_so}

-- ---- The words.

some_texts : (ws : List (Bor Text)) → texts ws ≡ [] → length ws ≡ 0
some_texts [] none = refl
some_texts (w ∷ ws) none = cc

pub some_words : (ws : List (Bor Text)) (test : Bool) → test ≡ (length ws == 0) → test ≡ false → texts ws ≡ [] → ⊥
some_words ws test is false_here none =
    let zero : (length ws == 0) ≡ true = rw (some_texts ws none) refl in
    true≢false (sym zero ∙ (sym is ∙ false_here))

pub no_words : (ws : List (Bor Text)) (test : Bool) → test ≡ (length ws == 0) → test ≡ true → texts ws ≡ []
no_words [] test is true_here = refl
no_words (w ∷ ws) true is true_here = let none : length (w ∷ ws) ≡ 0 = search rules in cc
no_words (w ∷ ws) false is true_here = cc

-- help or the version is asked for if its text is the refusal
pub for_help : (words : List Text) (e : Error) → HasKind (refusals words) e → IsForOutput (kind_of e) → IsForHelp words
for_help words e (inl memory) (inl help) = let no = sym memory ∙ help in cc
for_help words e (inl memory) (inr version) = let no = sym memory ∙ version in cc
for_help words e (inr among) (inl help) = inl (subst (λ (k : ErrorKind). IsAmong k (refusals words)) help among)
for_help words e (inr among) (inr version) = inr (subst (λ (k : ErrorKind). IsAmong k (refusals words)) version among)

-- words that were read by the parser
pub read_so : (words : List Text) (r : Result (Option Request) Error) → (words ≡ [] → ⊥) → IfOk r (λ o. IfSome o (Requests words))
    → IfOk r (λ o. IfNone o ((asked : Request) → Requests words asked → ⊥)) → FailsBy (refusals words) r → IsReadOf words r
read_so words (Ok None) some made unasked fails = record { made = tt; unread = (fails, unasked); refuses = tt }
read_so words (Ok (Some asked)) some made unasked fails = record { made = inl made; unread = tt; refuses = tt }
read_so words (Err e) some made unasked fails = record { made = tt; unread = tt; refuses = (some, fails) }

-- the parser refused them
pub refused_by : (words : List Text) (error : Error) → HasKind (refusals words) error → (r : Result (Unit {0}) RunError) → IfErr r (IsRefusedBy error)
    → IfErr r (IsCausedBy words)
refused_by words error kind (Ok x) by = tt
refused_by words error kind (Err (run.Words e)) (same, other) = ⊎_elim (λ memory. absurd (other memory))
    (λ among. subst (λ (x : Error). IsAmong (kind_of x) (refusals words)) (sym same) among) kind
refused_by words error kind (Err run.Unread) by = absurd by
refused_by words error kind (Err (run.Ended e)) by = tt

pub declined : {words : List Text} {before after : World} (r : Result (Unit {0}) RunError) → Declines words before after r → Obeys words before after r
declined (Ok x) d = inr d
declined (Err (run.Words e)) d = d
declined (Err run.Unread) d = d
declined (Err (run.Ended e)) d = inr d

pub help_done : {A N P : Type 0} (r : Result A RunError) (Q : Type 0) → N → (IsOk r → P) → OnOk r Q → OnOk r (N × P × Q)
help_done (Ok x) Q some asked printed = (some, asked refl, printed)
help_done (Err e) Q some asked printed = tt

-- ---- What other commands do with files.

every_fault : {A : Type 0} (r : Result A CommandError) (P : CommandError → Type 0) → ((e : CommandError) → P e) → IfErr r P
every_fault (Ok x) P h = tt
every_fault (Err e) P h = h e

module _ (before after : FilesView) (r : Result (Unit {0}) CommandError) where
  pub drill_acts : (d : Drilling) → Acts (Drill d) before after r
  drill_acts d = record { done = always_ok r _ tt; stopped = every_fault r _ (λ e. tt) }

  pub inspect_acts : (file : Option (Bor Text)) → Acts (Inspect file) before after r
  inspect_acts file = record { done = always_ok r _ tt; stopped = every_fault r _ (λ e. tt) }

module _ (words : List Text) (before after : World) (ended : Result (Unit {0}) CommandError) where
  pub does : (asked : Request) → IsMadeBy words asked → IsApart asked → Acts asked before.files after.files ended
      → DoesOther words before after asked ended → DoesRequest words before after ended
  does asked made apart acts answers = record { asked = asked; made = made; apart = apart; acts = acts; answers = answers }

-- ---- How a part of the program ended.

-- it has no position
pub so_finally : {P : FilesView → Result (Unit {0}) CommandError → Type 0} {files : FilesView} (r : Result (Unit {0}) CommandError) → P files r → HoldsAfter P files (ended_so r)
so_finally (Ok x) p = record { done = p; unfinished = tt }
so_finally {P = P} {files = files} (Err e) p = record { done = tt; unfinished = as_ended P files (Ended e) e refl p }

-- the report of an input whose length isn't known, which was read to its end
pub read_whole : (old new : Supply) (was is : SinkView) (r : Result (Unit {0}) CommandError) → OnOk r (PrintsReport (IsInspected None old new) was is)
    → OnOk r (PrintsReport (Inspects old new) was is)
read_whole old new was is r done = on_ok_weaker r (λ told. (told.0, told.1.reports, told.2, told.3)) done

-- the report of all that there is to read
pub whole_report : (size : Option ℕ) (coming new : Supply) (r : Report) → IfSome coming.left (λ bytes. size ≡ Some (length bytes))
    → IsInspected size coming new r → IfSome coming.left (λ bytes. IsReport bytes r)
whole_report size coming new r sized is = all coming.left refl sized where
  all : (o : Option (List ℕ)) → coming.left ≡ o → IfSome o (λ bytes. size ≡ Some (length bytes)) → IfSome o (λ bytes. IsReport bytes r)
  all None there known = tt
  all (Some bytes) there known = is.whole bytes there (subst (λ (o : Option ℕ). IfSome o (λ n. n ≡ length bytes)) (sym known) refl)
