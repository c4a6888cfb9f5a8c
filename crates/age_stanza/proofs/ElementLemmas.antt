-- What a test of each element says, and what a write that went well leaves.
use Rattle.std.proofs.Common.{◌≡◌, ℕ, ◌+◌, ◌<◌, ◌≤◌, Bool, true, false, cond, List, [], ◌∷◌, ◌++◌, length, get_or, drop, Result, Ok, Err, refl, sym, ap, ◌∙◌}
use Rattle.std.specs.Prelude.{◌&&◌, IsTrue, MatchBool, OnOk, is_ok, leb}
use Rattle.std.specs.List.{AllByRecursion, AllWithin, HoldsAt, list_all, flat_map}
use Rattle.std.proofs.lemmas.List.{append_assoc, drop_more}
use Rattle.std.proofs.lemmas.Bool.{false≢true, leb-true, le-leb, and_parts, and_from}
use Rattle.std.proofs.lemmas.List.Elements.{All-from_recursion, recursion_from_All, All-from_all_within}

-- a test of each element that was made in turn
pub all_is : {X : Type 0} (P : X → Type 0) (d : X) (r : Bool) (xs : List X) → MatchBool r (AllWithin P xs 0 (length xs)) ((k : ℕ) × (k < length xs)
    × HoldsAt (λ x. P x → ⊥) xs k)
    → (IsTrue r → AllByRecursion P xs) × (AllByRecursion P xs → IsTrue r)
all_is P d true xs h = (λ _. recursion_from_All P xs (All-from_all_within P xs h), λ _. refl)
all_is P d false xs h = (λ e. absurd (false≢true e), λ each. absurd (h.2 d (All-from_recursion P xs each h.0 d h.1)))

module _ {X : Type 0} (p : X → Bool) (P : X → Type 0) where
  pub all_from_test : ((x : X) → p x ≡ true → P x) → (xs : List X) → list_all p xs ≡ true → AllByRecursion P xs
  all_from_test f [] e = tt
  all_from_test f (x ∷ xs) e =
      let parts = and_parts (p x) (list_all p xs) e in
      (f x parts.0, all_from_test f xs parts.1)

  pub test_from_all : ((x : X) → P x → p x ≡ true) → (xs : List X) → AllByRecursion P xs → list_all p xs ≡ true
  test_from_all f [] h = refl
  test_from_all f (x ∷ xs) h = and_from (p x) (list_all p xs) (f x h.0) (test_from_all f xs h.1)

pub all_map : {X : Type 0} (P Q : X → Type 0) → ((x : X) → P x → Q x) → (xs : List X) → AllByRecursion P xs → AllByRecursion Q xs
all_map P Q f [] h = tt
all_map P Q f (x ∷ xs) h = (f x h.0, all_map P Q f xs h.1)

pub visible_from_test : (a : List ℕ) → list_all (λ c. leb 33 c && leb c 126) a ≡ true → AllByRecursion (λ c. (33 ≤ c) × (c ≤ 126)) a
visible_from_test a e = all_from_test (λ c. leb 33 c && leb c 126) (λ c. (33 ≤ c) × (c ≤ 126))
    (λ c seen. let ends = and_parts (leb 33 c) (leb c 126) seen in (leb-true 33 c ends.0, leb-true c 126 ends.1)) a e

pub test_from_visible : (a : List ℕ) → AllByRecursion (λ c. (33 ≤ c) × (c ≤ 126)) a → list_all (λ c. leb 33 c && leb c 126) a ≡ true
test_from_visible a h = test_from_all (λ c. leb 33 c && leb c 126) (λ c. (33 ≤ c) × (c ≤ 126))
    (λ c seen. and_from (leb 33 c) (leb c 126) (le-leb 33 c seen.0) (le-leb c 126 seen.1)) a h

-- a write that went well
pub on_ok : {A E : Type 0} (r : Result A E) (new wrote old : List ℕ) → new ≡ cond (is_ok r) wrote old → OnOk r (new ≡ wrote)
on_ok (Ok x) new wrote old e = e
on_ok (Err x) new wrote old e = tt

-- ---- a loop that writes the text of each element

pub written_next : {X : Type 0} (f : X → List ℕ) (out next all : List ℕ) (xs : List X) (i : ℕ) (x : X) → i < length xs → x ≡ get_or xs i x → next ≡ out ++ f x
    → out ++ flat_map f (drop i xs) ≡ all → next ++ flat_map f (drop (i + 1) xs) ≡ all
written_next {X} f out next all xs i x lt is puts same =
    let after = flat_map f (drop (i + 1) xs) in
    let first : drop i xs ≡ x ∷ drop (i + 1) xs = drop_more xs i x lt ∙ ap (λ (y : X). y ∷ drop (i + 1) xs) (sym is) in
    ap (λ (t : List ℕ). t ++ after) puts ∙ append_assoc out (f x) after ∙ ap (λ (ys : List X). out ++ flat_map f ys) (sym first) ∙ same
