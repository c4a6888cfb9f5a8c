-- What was read of a file, by the outcomes.
use Rattle.std.proofs.Common.{◌≡◌, ◌∙◌, ◌++◌, [], ◌∷◌, ap, ℕ, List, append_assoc, Option, Some, None, IfSome}
use Rattle.std.specs.declared.vec.Vec.{Vec}
use Rattle.age_io.specs.{SourceView, Consumes, IsAtEnd}
use Rattle.age_cli_files.specs.{Does, FilesView, Found, Gave, Outcome, reading_of, NotedSince, HasGiven, HasGivenAll, with_outcomes}
use Rattle.age_cli_files.specs.declared.file_set.IfMissing.TheVariants.{Fails}
use Rattle.age_cli_files.proofs.{all_by, gave_by, came_then, grows_by, grows_so, then_came}

-- a file was found and read, and then its reading was over
module _ (name : List ℕ) (old mid new : FilesView) (first last : SourceView) (size : Option ℕ) (unread : first.supply.given ≡ []) (found : NotedSince old mid (Found Fails name first.supply.left size))
    (over : new ≡ with_outcomes (Gave (reading_of last) ∷ []) mid) (named : last.label ≡ name) where
  is_later : new.outcomes ≡ mid.outcomes ++ Gave (reading_of last) ∷ []
  is_later = ap (λ v. v.outcomes) over

  found_then : NotedSince old new (Found Fails name first.supply.left size)
  found_then = came_then _ old mid new (grows_so mid new _ is_later) _ found

  pub over_then : NotedSince old new (Gave (reading_of last))
  over_then = record {
    before = found.before ++ Found Fails name first.supply.left size ∷ found.later;
    later = [];
    is = is_later ∙ ap (λ l. l ++ Gave (reading_of last) ∷ []) found.is ∙ append_assoc old.outcomes (found.before ++ Found Fails name first.supply.left size ∷ found.later) (Gave (reading_of last) ∷ []);
  }

  pub given_so : (bytes : List ℕ) → Consumes first.supply last.supply bytes → HasGiven (NotedSince old new) name bytes
  given_so bytes read = gave_by (NotedSince old new) name bytes first last size unread found_then read over_then named

  pub all_so : (bytes : List ℕ) → Consumes first.supply last.supply bytes → IsAtEnd last.supply → HasGivenAll (NotedSince old new) name bytes
  all_so bytes read end = all_by (NotedSince old new) name bytes first last size unread found_then read over_then named end

  pub given_if : {Z : Type 0} (o : Option (Vec ℕ Z)) → IfSome o (λ v. Consumes first.supply last.supply v.items × IsAtEnd last.supply)
      → IfSome o (λ v. HasGivenAll (NotedSince old new) name v.items)
  given_if (Some v) read = all_so v.items read.0 read.1
  given_if None read = tt

-- ---- What came in a part of a command came in the whole.

module _ {old mid new : FilesView} where
  pub did_came : Does old mid → (o : Outcome) → NotedSince mid new o → NotedSince old new o
  did_came did o came = then_came [] old mid new (grows_by old mid did) o came

  pub came_did : Does mid new → (o : Outcome) → NotedSince old mid o → NotedSince old new o
  came_did did o came = came_then [] old mid new (grows_by mid new did) o came
