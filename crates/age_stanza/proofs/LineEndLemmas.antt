-- Where the first line of some bytes ends, and the first argument of a line.
use Rattle.std.proofs.Common.{◌≡◌, ℕ, zero, suc, ◌<◌, ◌≤◌, ◌+◌, ◌-◌, false, eqb, List, [], ◌∷◌, ◌++◌, length, get_or, take, drop, Some, None, refl, sym, ap}
use Rattle.std.proofs.Common.{◌∙◌, arith, inl, inr}
use Rattle.std.specs.List.{AllByRecursion, position, position_from}
use Rattle.std.proofs.lemmas.Bool.{eqb-true, eqb-false}
use Rattle.std.proofs.lemmas.Iterator.Adapters.{position_from-zero}
use Rattle.std.proofs.lemmas.List.{append_assoc, length-append, length-drop, length-take, take-append-drop, drop_more, take_more, take_rest}
use Rattle.std.proofs.lemmas.List.Quantifiers.{position-Some}
use Rattle.std.proofs.Math.Seq.{take-add}
use Rattle.age_stanza.specs.{line, IsLine}
use Rattle.age_stanza.proofs.LineLemmas.{chosen}

part_of_front : (mark i : ℕ) (xs : List ℕ) → ((k : ℕ) → k < i → eqb (get_or xs k 0) mark ≡ false) → AllByRecursion (λ c. c ≡ mark → ⊥) (take i xs)
part_of_front mark zero xs other = tt
part_of_front mark (suc i) [] other = tt
part_of_front mark (suc i) (x ∷ xs) other = (eqb-false x mark (other 0 (omega arith)), part_of_front mark i xs (λ k lt. other (suc k) (omega arith)))

-- the first part, in which no mark stands, and what follows the mark
pub record FirstPart (mark : ℕ) (xs : List ℕ) (i : ℕ) : Type 0 where
  pub within : i < length xs
  pub at : get_or xs i 0 ≡ mark
  pub one_line : AllByRecursion (λ c. c ≡ mark → ⊥) (take i xs)
  pub parts : xs ≡ take i xs ++ mark ∷ drop (i + 1) xs

pub first_part : (mark : ℕ) (xs : List ℕ) (i : ℕ) → position (λ c. eqb c mark) xs ≡ Some i → FirstPart mark xs i
first_part mark xs i e =
    let known = position-Some (λ c. eqb c mark) xs i 0 e in
    let within : i < length xs = known.0 in
    let at : get_or xs i 0 ≡ mark = eqb-true (get_or xs i 0) mark known.1 in
    record {
      within = known.0;
      at = at;
      one_line = part_of_front mark i xs known.2;
      parts = sym (take-append-drop i xs) ∙ ap (λ (t : List ℕ). take i xs ++ t) (drop_more xs i 0 within ∙ ap (λ n. n ∷ drop (i + 1) xs) at);
    }

no_part_from : (mark n : ℕ) (xs : List ℕ) → position_from (λ c. eqb c mark) n xs ≡ None → AllByRecursion (λ c. c ≡ mark → ⊥) xs
no_part_from mark n [] e = tt
no_part_from mark n (x ∷ xs) e = elim (chosen (eqb x mark) (Some n) (position_from (λ c. eqb c mark) (n + 1) xs) None e) [
  | inl h ↦ absurd (cc (h.1))
  | inr h ↦ (eqb-false x mark h.0, no_part_from mark (n + 1) xs h.1)
]

-- if no mark stands, all is one part
pub no_part : (mark : ℕ) (xs : List ℕ) → position (λ c. eqb c mark) xs ≡ None → AllByRecursion (λ c. c ≡ mark → ⊥) xs
no_part mark xs e = no_part_from mark 0 xs (sym (position_from-zero (λ c. eqb c mark) xs) ∙ e)

-- the next line of some bytes, after those that were read of them
pub record NextLine (held partial bytes : List ℕ) (n i : ℕ) : Type 0 where
  pub one_line : IsLine (take (n + i - n) (drop n bytes))
  pub within : n + (i + 1) ≤ length bytes
  pub room : length partial + length (take (n + i - n) (drop n bytes)) < length held + length bytes
  pub joined : partial ++ line (take (n + i - n) (drop n bytes)) ≡ held ++ take (n + (i + 1)) bytes

pub next_line : (held partial bytes : List ℕ) (n i : ℕ) → n ≤ length bytes → partial ≡ held ++ take n bytes
    → position (λ c. eqb c 10) (take (length bytes - n) (drop n bytes)) ≡ Some i → NextLine held partial bytes n i
next_line held partial bytes n i within is e =
    let rest = drop n bytes in
    let first : FirstPart 10 rest i = first_part 10 rest i (rw take_rest at e) in
    let lt = first.within in
    let long = length-drop n bytes in
    let index : n + i - n ≡ i = omega arith in
    let last : line (take i rest) ≡ take (i + 1) rest = ap (λ c. take i rest ++ c ∷ []) (sym first.at) ∙ sym (take_more rest i 0 lt) in
    record {
      one_line = rw index first.one_line;
      within = omega arith;
      room = omega (arith, ap length is, length-append held (take n bytes), length-take n bytes, length-take (n + i - n) rest);
      joined = rw (index, is, append_assoc held (take n bytes) (line (take i rest)), last, take-add n (i + 1) bytes) refl;
    }
