-- What is known of a file while puts go on, and once it was ended.
use Rattle.std.proofs.Common.{inl, inr, ◌≡◌, ◌<◌, ℕ, List, [], ◌∷◌, ◌++◌, zero, suc, Bool, true, false, Option, Some, None, Result, arith, sym, ap, ◌∙◌, refl, subst}
use Rattle.std.specs.Prelude.{Ok, Err, IfOk, IfSome, OnOk, OnErr, MatchResult, is_ok, is_some}
use Rattle.age_io.specs.{one_more}
use Rattle.age_host_model.specs.declared.options.Durability.{Durability}
use Rattle.age_host_model.specs.declared.options.Durability.TheVariants.{Synced}
use Rattle.age_host_model.specs.{FileCall, ClosesLast, EndedFile, Closes, OutFile, OutView, TouchesFile, text_of, IsThereAs, IsSafe}
use Rattle.age_host_paths.specs.declared.resolve_name.FileId.{FileId}
use Rattle.age_host_output.specs.{IsAtOutName, IsTaking, Stays}
use Rattle.age_host_output.specs.inner.{TargetPuts, part_of}
use Rattle.age_host_output.specs.inner.Closing.{WasWritten, tally_sink}
use Rattle.age_host_output.specs.declared.target.OutputName.{OutputName}
use Rattle.age_host_output.specs.declared.closing.OutputRecord.{OutputRecord}

-- while no put has failed, this one hasn't, nor one before it
pub noted_well : {E F : Type 0} (call : Result ℕ E) (put : Result ℕ F) (before after : ℕ)
    → MatchResult call (λ _. after ≡ before) (λ _. after ≡ one_more before)
    → IfOk call (λ n. put ≡ Ok n) → after ≡ 0 → (before ≡ 0) × (is_ok put ≡ true)
noted_well (Ok n) put before after counted same none = (sym counted ∙ none, ap is_ok same)
noted_well (Err e) put before after counted same none = absurd (more (sym counted ∙ none)) where
  more : one_more before ≡ 0 → ⊥
  more is = grind arith

-- what isn't made yet has taken nothing
pub unmade_put : {E : Type 0} (old new : Option (List ℕ)) (file now : Option OutFile) (id known : Option FileId) (put : Result ℕ E)
    (from took : List ℕ) → Stays old new file now id known → IfSome old (λ _. took ≡ []) → IfOk put (λ n. 0 < n → new ≡ None)
    → IfSome new (λ _. took ++ part_of put from ≡ [])
unmade_put old None file now id known put from took stays none made = tt
unmade_put None (Some path) file now id known put from took stays none made = let no : ⊥ = cc in absurd no
unmade_put (Some at) (Some path) file now id known (Err e) from took stays none made = rw none refl
unmade_put (Some at) (Some path) file now id known (Ok zero) from took stays none made = rw none refl
unmade_put (Some at) (Some path) file now id known (Ok (suc n)) from took stays none made = absurd (differ (made (grind arith))) where
  differ : Some path ≡ None → ⊥
  differ same = cc

-- a file that is made is at its name, if it was to be made there
pub stays_at : (name : OutputName) (old new : Option (List ℕ)) (file now : Option OutFile) (id known : Option FileId) → Stays old new file now id known → IsAtOutName name file old
    → IsAtOutName name now new
stays_at name None new file now id known stays at = λ own. rw stays.0 (rw stays.1 (at own))
stays_at name (Some path) new file now id known (inl stays) at = λ own. rw stays.0 (rw stays.1 (at own))
stays_at name (Some path) new file now id known (inr (made, is)) at = λ own. rw made (rw is.is ((is.at ∙ (at own).1, tt)))

-- what a sink took is what was written, once a part more was
pub taken_on : (old new : Option OutView) (is_ok : Bool) (part took : List ℕ) (before after : ℕ) → TargetPuts old new is_ok part
    → IsTaking old before took → (after ≡ 0 → (before ≡ 0) × (is_ok ≡ true)) → IsTaking new after (took ++ part)
taken_on None None is_ok part took before after puts taking well = tt
taken_on None (Some new) is_ok part took before after puts taking well = absurd puts
taken_on (Some old) None is_ok part took before after puts taking well = absurd puts
taken_on (Some old) (Some new) is_ok part took before after puts taking well = (
  puts.text ∙ ap (λ (t : List ℕ). t ++ part) taking.0,
  (
    λ none indeterminate. let sound = puts.sound (well none).1 indeterminate in sound.0 ∙ taking.1.0 (well none).0 sound.1,
    λ none empty. puts.still (well none).1 (taking.0 ∙ front took empty) (rest took empty) ∙ taking.1.1 (well none).0 (front took empty),
  ),
) where
  front : (took : List ℕ) → took ++ part ≡ [] → took ≡ []
  front [] empty = refl
  front (x ∷ xs) empty = let no : ⊥ = cc in absurd no

  rest : (took : List ℕ) → took ++ part ≡ [] → part ≡ []
  rest [] empty = empty
  rest (x ∷ xs) empty = let no : ⊥ = cc in absurd no

-- ---- A regular file that was ended.

module _ (durability : Durability) (out : OutView) (w : OutputRecord) (calls : List FileCall) (count : ℕ) (which : Option OutFile)
    (is : which ≡ Some out.file) (written : WasWritten out w) (within : TouchesFile out.file calls) where
  abbrev ended : Option OutFile → EndedFile
  ended file = record { took = w.took; is_closed = true; file = file; is_link = is_some w.name.link; calls = calls; failed = count }

  sure_of : {E : Type 0} (P : List ℕ → Type 0) (r : Result (Unit {0}) E) → OnOk r (out.is_indeterminate ≡ false)
      → (out.failed ≡ 0 → OnOk r (P (text_of out.calls))) → w.failures.count ≡ 0 → OnOk r (P w.took)
  sure_of P (Err e) sure holds none = tt
  sure_of P (Ok x) sure holds none = subst P written.0.0 (holds (written.0.1.0 none sure))

  pub file_closes : {E : Type 0} (r : Result (Unit {0}) E) → OnOk r (out.is_indeterminate ≡ false)
      → (durability ≡ Synced → out.failed ≡ 0
      → OnOk r (IsSafe out.file.path (text_of out.calls) calls))
      → (out.failed ≡ 0 → OnOk r (IsThereAs out.file.path out.file.number (text_of out.calls) calls)) → OnErr r (0 < count)
      → OnOk r (ClosesLast out.file.number calls)
      → Closes durability (Some out.file) (tally_sink w) r (ended which)
  file_closes r sure safe there caused closed =
      subst (λ (it : Option OutFile). Closes durability (Some out.file) (tally_sink w) r
      (ended it)) (sym is) (record {
        took = refl;
        closed = refl;
        same = refl;
        at = λ own. (written.1 own).0;
        within = within;
        kept = λ some. closed;
        there = sure_of (λ t. IsThereAs out.file.path out.file.number t calls) r sure there;
        safe = λ synced. sure_of (λ t. IsSafe out.file.path t calls) r sure (safe synced);
        caused = caused;
      })
