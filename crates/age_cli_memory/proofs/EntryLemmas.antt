-- The files of a list, after one is put.
use Rattle.std.proofs.Common.{◌≡◌, ℕ, List, [], ◌∷◌, ◌++◌, length, get_or, Option, Some, None, true, false, Bool, refl, sym, ap, ◌∙◌, arith, cond}
use Rattle.std.specs.Prelude.{position, option_map, find, nat_lt, is_some}
use Rattle.std.specs.Option.{option_or}
use borrow.Author.Tests.{ltb-false}
use Rattle.std.proofs.lemmas.Bool.{false_from_ne_true}
use Rattle.std.proofs.lemmas.Option.{slice_get_past}
use Rattle.std.specs.List.{position_or_len}
use Rattle.std.proofs.Math.ListN.{set}
use Rattle.std.proofs.lemmas.Slice.Eq.{bytes_eq-Decides}
use Rattle.std.proofs.lemmas.List.Folds.{find-set, find_past, find-append, find_at}
use Rattle.std.proofs.lemmas.List.Quantifiers.{position-Some}
use Rattle.age_cli_memory.specs.{MemEntry, has_name, entry_of}

abbrev bytes_in : Option MemEntry → Option (List ℕ)
bytes_in = option_map (λ e. e.bytes)

has_name-same : (q : List ℕ) (e : MemEntry) → e.name ≡ q → has_name q e ≡ true
has_name-same q e same = (bytes_eq-Decides (e.name) q).1 same

has_name-other : (q : List ℕ) (e : MemEntry) → (e.name ≡ q → ⊥) → has_name q e ≡ false
has_name-other q e other = false_from_ne_true (has_name q e) (λ h. other ((bytes_eq-Decides (e.name) q).0 h))

named_so : (q : List ℕ) (e : MemEntry) → has_name q e ≡ true → e.name ≡ q
named_so q e h = (bytes_eq-Decides (e.name) q).0 h

chosen : (b : Bool) (n i : ℕ) → cond b (Some n) None ≡ Some i → i ≡ n
chosen true n i e = cc
chosen false n i e = cc

unchosen : (b : Bool) (n : ℕ) → cond b (Some n) None ≡ None → b ≡ false
unchosen true n e = cc
unchosen false n e = refl

-- bytes that are put in the place of the first file of a name
pub entry_of-set : (es : List MemEntry) (i : ℕ) (q : List ℕ) (e d : MemEntry) → position (has_name q) es ≡ Some i → e.name ≡ q
    → entry_of (set es i e) q ≡ Some e.bytes
entry_of-set es i q e d at same =
    let found = position-Some (has_name q) es i d at in
    let name : has_name q e ≡ true = has_name-same q e same in
    ap bytes_in (find-set (has_name q) es i e (chosen (nat_lt (position_or_len (has_name q) es) (length es)) _ i at) found.0 name)

pub entry_of-set-other : (es : List MemEntry) (i : ℕ) (q r : List ℕ) (e d : MemEntry) → position (has_name q) es ≡ Some i → e.name ≡ q
    → (r ≡ q → ⊥) → entry_of (set es i e) r ≡ entry_of es r
entry_of-set-other es i q r e d at same other =
    let found = position-Some (has_name q) es i d at in
    let old : (get_or es i d).name ≡ q = named_so q (get_or es i d) found.1 in
    ap bytes_in (find_past (has_name r) es i e d (has_name-other r (get_or es i d) (λ h. other (sym h ∙ old)))
    (has_name-other r e (λ h. other (sym h ∙ same))))

none_found : (q : List ℕ) (es : List MemEntry) → position (has_name q) es ≡ None → find (has_name q) es ≡ None
none_found q es none =
    let past : nat_lt (position_or_len (has_name q) es) (length es) ≡ false =
    unchosen _ (position_or_len (has_name q) es) none in
    find_at (has_name q) es ∙ slice_get_past es (position_or_len (has_name q) es) (omega (arith, ltb-false _ _ past))

-- a file of a new name
pub entry_of-push : (es : List MemEntry) (q : List ℕ) (e : MemEntry)
    → position (has_name q) es ≡ None → e.name ≡ q → entry_of (es ++ e ∷ []) q ≡ Some e.bytes
entry_of-push es q e none same =
    let found : find (has_name q) (es ++ e ∷ []) ≡ Some e =
    rw (find-append (has_name q) es (e ∷ []), none_found q es none, has_name-same q e same) refl in
    ap bytes_in found

pub entry_of-push-other : (es : List MemEntry) (r : List ℕ) (e : MemEntry) → (r ≡ e.name → ⊥) → entry_of (es ++ e ∷ []) r ≡ entry_of es r
entry_of-push-other es r e other =
    let found : find (has_name r) (es ++ e ∷ []) ≡ find (has_name r) es =
    rw (find-append (has_name r) es (e ∷ []), has_name-other r e (λ h. other (sym h))) (go (find (has_name r) es)) in
    ap bytes_in found where
      go : (o : Option MemEntry) → option_or o None ≡ o
      go None = refl
      go (Some x) = refl

-- a file that is there has a place
pub place_of_entry : (es : List MemEntry) (q : List ℕ) → is_some (entry_of es q) ≡ true → position (has_name q) es ≡ None → ⊥
place_of_entry es q there none =
    let gone : is_some (entry_of es q) ≡ false =
    ap (λ o. is_some (bytes_in o)) (none_found q es none) in
    cc
