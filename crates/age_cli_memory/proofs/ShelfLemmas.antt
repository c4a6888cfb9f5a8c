-- What stands under each name, by what came of a set of files over memory, and what it held before.
use Rattle.std.proofs.Common.{◌≡◌, ◌∙◌, ◌++◌, [], ◌∷◌, refl, ap, sym, List, ℕ, Bool, true, false, Option, Some, Ok, append-nil, inl, inr, subst, None}
use Rattle.std.proofs.Common.{append_assoc, true≢false}
use Rattle.std.specs.Str.{bytes_eq}
use Rattle.std.proofs.lemmas.Slice.Eq.{bytes_eq-Decides}
use Rattle.std.specs.Prelude.{if◌then◌else◌, is_some}
use Rattle.age_cli_files.specs.declared.file_set.IfMissing.{IfMissing}
use Rattle.age_cli_files.specs.declared.file_set.IfMissing.TheVariants.{Fails}
use Rattle.age_cli_memory.specs.{MemEntry}
use Rattle.age_cli_files.specs.{Outcome, Found, Absent, Present, Put}
use Rattle.age_cli_memory.specs.{Files, no_files, once, stands, held_by, Fits, AllFit, AreTrue, PutsEntry, entry_of}
use Rattle.age_cli_files.specs.{created_as}
use Rattle.age_cli_files.specs.{Entry, entry, puts_in, FilesView, PutsOnly, NotedSince, HasGivenAll}
use Rattle.age_host_model.specs.declared.options.ClobberOption.{ClobberOption}
use Rattle.age_host_model.specs.declared.options.ClobberOption.TheVariants.{Allowed, Refused}
use Rattle.std.specs.Io.KnownBytes.{prepend_known, IsAtEnd}
use Rattle.std.proofs.lemmas.Bool.{false_from_ne_true}

-- ---- One more outcome.

pub stands_then : (files : Files) (a b : List Outcome) (q : List ℕ) → stands files (a ++ b) q ≡ stands (stands files a) b q
unfolding stands
stands_then files [] b q = refl
stands_then files (x ∷ a) b q = stands_then (once files x) a b q

pub fit_then : (files : Files) (a b : List Outcome) → AllFit files a → AllFit (stands files a) b → AllFit files (a ++ b)
unfolding stands AllFit
fit_then files [] b fit more = more
fit_then files (x ∷ a) b fit more = (fit.0, fit_then (once files x) a b fit.1 more)

pub fits_by : (f g : Files) (o : Outcome) → ((q : List ℕ) → f q ≡ g q) → Fits f o → Fits g o
fits_by f g (Found missing name left size) same fit = (fit.0, fit.1 ∙ ap (held_by missing) (same name), fit.2)
fits_by f g (Absent name) same fit = sym (same name) ∙ fit
fits_by f g (Present name) same fit = ap is_some (sym (same name)) ∙ fit
fits_by f g o same fit = fit

-- what stands doesn't change
abbrev pub IsNoPut : Outcome → Type 0
IsNoPut o = (files : Files) (q : List ℕ) → once files o q ≡ files q

pub kept_note : (es : List MemEntry) (os : List Outcome) (o : Outcome) → IsNoPut o → Fits (entry_of es) o → AreTrue es os → AreTrue es (os ++ o ∷ [])
unfolding stands AllFit
kept_note es os o none fit kept = record {
  stand = λ q. kept.stand q ∙ sym (stands_then no_files os (o ∷ []) q ∙ none (stands no_files os) q);
  fit = fit_then no_files os (o ∷ []) kept.fit (fits_by (entry_of es) (stands no_files os) o kept.stand fit, tt);
}

put_at : (files : Files) (name bytes q : List ℕ) (new old : Option (List ℕ)) (b : Bool) → bytes_eq name q ≡ b → (b ≡ true → new ≡ Some bytes) → (b ≡ false → new ≡ files q)
    → new ≡ (if b then Some bytes else files q)
put_at files name bytes q new old true is put other = put refl
put_at files name bytes q new old false is put other = other refl

pub kept_put : (old new : List MemEntry) (os : List Outcome) (name bytes : List ℕ) → PutsEntry {E = Unit {0}} name bytes (Ok tt) old new → AreTrue old os
    → AreTrue new (os ++ Put name bytes ∷ [])
unfolding stands AllFit
kept_put old new os name bytes puts kept = record {
  stand = λ q. put_at (stands no_files os) name bytes q (entry_of new q) (entry_of old q) (bytes_eq name q) refl
      (λ same. ap (entry_of new) (sym ((bytes_eq-Decides name q).0 same)) ∙ puts.put)
      (λ other. puts.others q (λ same. absurd_of other ((bytes_eq-Decides name q).1 (sym same))) ∙ kept.stand q)
      ∙ sym (stands_then no_files os (Put name bytes ∷ []) q);
  fit = fit_then no_files os (Put name bytes ∷ []) kept.fit (tt, tt);
} where
  absurd_of : {b : Bool} → b ≡ false → b ≡ true → ⊥
  absurd_of {b} f t = cc

-- ---- What a call over memory noted.

pub kept_one : (es : List MemEntry) (os new : List Outcome) (o : Outcome) → new ≡ os ++ o ∷ [] → IsNoPut o → Fits (entry_of es) o → AreTrue es os → AreTrue es new
kept_one es os new o is none fit kept = rw is (kept_note es os o none fit kept)

no_value : (o : Option (List ℕ)) → (is_some o ≡ true → ⊥) → o ≡ None
no_value None none = refl
no_value (Some bytes) none = absurd (none refl)

pub kept_created : (es : List MemEntry) (os new : List Outcome) (clobber : ClobberOption) (name : List ℕ) → new ≡ os ++ created_as clobber name
    → (clobber ≡ Refused → is_some (entry_of es name) ≡ true → ⊥) → AreTrue es os → AreTrue es new
kept_created es os new Allowed name is none kept = rw (is, append-nil os) kept
kept_created es os new Refused name is none kept = rw is (kept_note es os (Absent name) (λ files q. refl) (no_value (entry_of es name) (none refl)) kept)

pub kept_at_first : AreTrue [] []
unfolding stands AllFit
kept_at_first = record { stand = λ q. refl; fit = tt }

pub kept_then : {E : Type 0} (old new : List MemEntry) (os late : List Outcome) (name bytes : List ℕ) {own took : List ℕ} → late ≡ os ++ Put own took ∷ [] → own ≡ name → took ≡ bytes
    → PutsEntry {E = E} name bytes (Ok tt) old new → AreTrue old os → AreTrue new late
kept_then old new os late name bytes is own took puts kept =
    rw (is, own, took) (kept_put old new os name bytes (record { put = puts.put; others = puts.others; err = tt }) kept)

-- ---- What was put under other names.

-- none of these was put under this name
abbrev pub AreOthers : List ℕ → List Entry → Type 0
AreOthers q [] = Unit {0}
AreOthers q (e ∷ more) = (e.name ≡ q → ⊥) × AreOthers q more

pub others_then : (q : List ℕ) (a b : List Entry) → AreOthers q a → AreOthers q b → AreOthers q (a ++ b)
others_then q [] b x y = y
others_then q (e ∷ a) b x y = (x.0, others_then q a b x.1 y)

unput : (files : Files) (name bytes q : List ℕ) → (name ≡ q → ⊥) → once files (Put name bytes) q ≡ files q
unput files name bytes q other = rw (false_from_ne_true (bytes_eq name q) (λ h. other ((bytes_eq-Decides name q).0 h))) refl

is_put : (files : Files) (name bytes : List ℕ) → once files (Put name bytes) name ≡ Some bytes
is_put files name bytes = rw ((bytes_eq-Decides name name).1 refl) refl

pub stands_other : (files : Files) (more : List Outcome) (q : List ℕ) → AreOthers q (puts_in more) → stands files more q ≡ files q
unfolding stands puts_in
stands_other files [] q other = refl
stands_other files (Put name bytes ∷ a) q other = stands_other (once files (Put name bytes)) a q other.1 ∙ unput files name bytes q other.0
stands_other files (x ∷ a) q other = stands_other (once files x) a q other

-- the first that was put, and then others
pub stands_put : (files : Files) (more : List Outcome) (name bytes : List ℕ) (rest : List Entry) → puts_in more ≡ entry name bytes ∷ rest
    → AreOthers name rest
    → stands files more name ≡ Some bytes
unfolding stands puts_in
stands_put files [] name bytes rest is other = cc
stands_put files (Put n b ∷ a) name bytes rest is other =
    let one : entry n b ≡ entry name bytes = cc in
    let mine : n ≡ name = ap (λ (e : Entry). e.name) one in
    let same : b ≡ bytes = ap (λ (e : Entry). e.bytes) one in
    let late : puts_in a ≡ rest = cc in
    subst (λ (x : List ℕ). stands (once files (Put x b)) a name ≡ Some bytes) (sym mine)
    (subst (λ (x : List ℕ). stands (once files (Put name x)) a name ≡ Some bytes) (sym same)
    (stands_other (once files (Put name bytes)) a name (subst (λ (l : List Entry). AreOthers name l) (sym late) other) ∙ is_put files name bytes))
stands_put files (x ∷ a) name bytes rest is other = stands_put (once files x) a name bytes rest is other

-- ---- What came is true of what stood then.

pub fit_rest : (files : Files) (a b : List Outcome) → AllFit files (a ++ b) → AllFit (stands files a) b
unfolding stands AllFit
fit_rest files [] b fit = fit
fit_rest files (x ∷ a) b fit = fit_rest (once files x) a b fit.1

-- memory before and after, by what came since
module _ (old new : FilesView) (was is : List MemEntry) (kept_was : AreTrue was old.outcomes) (kept_is : AreTrue is new.outcomes) where
  module _ (puts : List Entry) (grows : PutsOnly puts old new) where
    since : (q : List ℕ) → entry_of is q ≡ stands (stands no_files old.outcomes) grows.more q
    since q = kept_is.stand q ∙ ap (λ l. stands no_files l q) grows.is ∙ stands_then no_files old.outcomes grows.more q

    -- what stands under other names than those of what was put is as it was
    pub same_since : (q : List ℕ) → AreOthers q puts → entry_of is q ≡ entry_of was q
    same_since q other =
        since q ∙ stands_other (stands no_files old.outcomes) grows.more q (subst (λ (l : List Entry). AreOthers q l) (sym grows.puts_are) other)
        ∙ sym (kept_was.stand q)

    -- what was put stands there, if what was put then has other names
    pub put_since : (name bytes : List ℕ) (rest : List Entry) → puts ≡ entry name bytes ∷ rest → AreOthers name rest → entry_of is name ≡ Some bytes
    put_since name bytes rest are other =
        since name ∙ stands_put (stands no_files old.outcomes) grows.more name bytes rest (grows.puts_are ∙ are) other

  module _ (o : Outcome) (c : NotedSince old new o) where
    abbrev at : Files
    at = stands no_files (old.outcomes ++ c.before)

    fit_at : Fits at o
    unfolding AllFit
    fit_at =
        let all = subst (λ (l : List Outcome). AllFit no_files l) (c.is ∙ sym (append_assoc old.outcomes c.before (o ∷ c.later))) kept_is.fit in
        (fit_rest no_files (old.outcomes ++ c.before) (o ∷ c.later) all).0

    same_at : (q : List ℕ) → AreOthers q (puts_in c.before) → at q ≡ entry_of was q
    same_at q other =
        stands_then no_files old.outcomes c.before q ∙ stands_other (stands no_files old.outcomes) c.before q other ∙ sym (kept_was.stand q)

  -- a file was found: what it has to give is what stood there at first
  pub found_was : (missing : IfMissing) (name : List ℕ) (left : Option (List ℕ)) (size : Option ℕ) (c : NotedSince old new (Found missing name left size))
      → AreOthers name (puts_in c.before) → (is_some left ≡ true) × (left ≡ held_by missing (entry_of was name))
  found_was missing name left size c other =
      let fit = fit_at (Found missing name left size) c in
      (fit.0, fit.1 ∙ ap (held_by missing) (same_at (Found missing name left size) c name other))

  -- all that a file gave stood there at first
  pub gave_all_was : (name bytes : List ℕ) (g : HasGivenAll (NotedSince old new) name bytes) → AreOthers name (puts_in g.gave.found.before)
      → entry_of was name ≡ Some bytes
  gave_all_was name bytes g other =
      let found = found_was Fails name (prepend_known bytes g.gave.left) g.gave.size g.gave.found other in
      sym found.1 ∙ all_of g.gave.left found.0 g.none where
        all_of : (left : Option (List ℕ)) → is_some (prepend_known bytes left) ≡ true → IsAtEnd left → prepend_known bytes left ≡ Some bytes
        all_of None there end = absurd (true≢false (sym there))
        all_of (Some rest) there end = rw (end, append-nil bytes) refl
