-- The lines of a header: a body's, an argument line, an end line.
use Rattle.std.proofs.lemmas.Grind.{common_steps}
use Rattle.std.proofs.lemmas.Bool.Decides.{Decides-eqb}
use Rattle.std.proofs.Common.{◌≡◌, ℕ, zero, suc, ◌<◌, ◌≤◌, ◌+◌, ◌*◌, ◌/◌, ◌%◌, Bool, true, false, cond, ltb, eqb, nat_eq, List, [], ◌∷◌, ◌++◌, length, take}
use Rattle.std.proofs.Common.{drop, Option, Some, None, refl, sym, ap, ◌∙◌, arith, inl, inr}
use Rattle.std.specs.Prelude.{codes, ◌⊎◌}
use Rattle.std.specs.List.{All, flat_map, list_all, join_with_byte, AllByRecursion, starts_with}
use Rattle.std.proofs.lemmas.Bool.{eqb-true, eq-eqb, ne_eqb, ltb-true, lt-ltb, and_parts, and_from}
use Rattle.std.specs.Simd.{first_chunks}
use Rattle.std.proofs.lemmas.List.{append-nil, append_assoc, length-append, length-take, length-drop, take_at, drop_at, drop-drop, take-append-drop}
use Rattle.std.proofs.lemmas.List.Elements.{All-from_recursion}
use Rattle.std.proofs.lemmas.List.Splits.{join_with_byte-slice_split, length-slice_split, slice_split_at, slice_split_none}
use Rattle.std.proofs.lemmas.Slice.Eq.{starts_is}
use Rattle.std.proofs.lemmas.Option.{cond_some}
use Rattle.base64.specs.GeneralPurpose.{IsBytes}
use Rattle.age_stanza.specs.inner.{whole_lines, base64_bytes, at_spaces, tests_argument, arguments_from, arguments_of, mac_of, whole_mac}
use Rattle.age_stanza.specs.{base64_text, line, IsArgument, argument_line, in_lines, end_line}
use Rattle.age_stanza.proofs.ElementLemmas.{all_from_test, all_map, test_from_all, visible_from_test, test_from_visible}
use Rattle.age_stanza.proofs.TextLemmas.{text_of_decoded, decoded-text, IsBytes-drop, text-append, length-text}

-- ---- a test that was passed or not

pub chosen : {A : Type 0} (b : Bool) (x y z : A) → cond b x y ≡ z → ((b ≡ true) × (x ≡ z)) ⊎ ((b ≡ false) × (y ≡ z))
chosen true x y z e = inl (refl, e)
chosen false x y z e = inr (refl, e)

pub tested : (b : Bool) → (b ≡ true) ⊎ (b ≡ false)
tested true = inl refl
tested false = inr refl

-- ---- what a line starts with

starts_at : (s p : List ℕ) → starts_with nat_eq s p ≡ true → s ≡ p ++ drop (length p) s
starts_at s p e = (starts_is Decides-eqb s p (starts_with nat_eq s p) refl).0 e

pub starts_from : (s p rest : List ℕ) → s ≡ p ++ rest → starts_with nat_eq s p ≡ true
starts_from s p rest e = (starts_is Decides-eqb s p (starts_with nat_eq s p) refl).1 rest e

-- ---- a text in lines

pub whole_lines-full : (l rest : List ℕ) → length l ≡ 64 → whole_lines (l ++ rest) ≡ line l ++ whole_lines rest
unfolding whole_lines
whole_lines-full l rest len =
    let n = length rest / 64 in
    let all = l ++ rest in
    let count : length all / 64 ≡ suc n = omega (arith, length-append l rest, len) in
    let front : take 64 all ≡ l = take_at l rest 64 len in
    let after : drop 64 all ≡ rest = drop_at l rest 64 len in
    ap (λ (k : ℕ). flat_map line (first_chunks 64 k all)) count
    ∙ (ap (λ (a : List ℕ). line a ++ flat_map line (first_chunks 64 n (drop 64 all))) front
    ∙ ap (λ (b : List ℕ). line l ++ flat_map line (first_chunks 64 n b)) after)

pub in_lines-short : (l : List ℕ) → length l < 64 → in_lines l ≡ line l
unfolding in_lines
in_lines-short l lt = grind (arith, common_steps)

pub in_lines-full : (l rest : List ℕ) → length l ≡ 64 → in_lines (l ++ rest) ≡ line l ++ in_lines rest
unfolding in_lines whole_lines
in_lines-full l rest len =
    let n = length rest / 64 in
    let all = l ++ rest in
    let count : length all / 64 * 64 ≡ 64 + n * 64 = omega (arith, length-append l rest, len) in
    let last : drop (length all / 64 * 64) all ≡ drop (n * 64) rest =
    ap (λ (k : ℕ). drop k all) count ∙ sym (drop-drop (n * 64) 64 all) ∙ ap (drop (n * 64)) (drop_at l rest 64 len) in
    ap (λ (w : List ℕ). w ++ line (drop (length all / 64 * 64) all)) (whole_lines-full l rest len)
    ∙ ap (λ (d : List ℕ). (line l ++ whole_lines rest) ++ line d) last ∙ append_assoc (line l) (whole_lines rest) (line (drop (n * 64) rest))

-- a text in lines has an LF for each 64 characters, and one more
length-first_lines : (n : ℕ) (cs : List ℕ) → n * 64 ≤ length cs → length (flat_map line (first_chunks 64 n cs)) ≡ n * 65
length-first_lines zero cs le = omega arith
length-first_lines (suc n) cs le = omega (
  arith,
  le,
  length-append (line (take 64 cs)) (flat_map line (first_chunks 64 n (drop 64 cs))),
  length-append (take 64 cs) (10 ∷ []),
  length-take 64 cs,
  length-first_lines n (drop 64 cs) (omega (arith, le, length-drop 64 cs)),
)

pub length-in_lines : (cs : List ℕ) → length (in_lines cs) ≡ length cs + length cs / 64 + 1
unfolding in_lines
length-in_lines cs = grind (arith, common_steps, length-append, length-drop, length-first_lines)

-- ---- a body in lines: each but the last spells 48 bytes

pub full_line : (body : List ℕ) → 48 ≤ length body → in_lines (base64_text body)
    ≡ line (base64_text (take 48 body)) ++ in_lines (base64_text (drop 48 body))
full_line body le =
    let len : length (take 48 body) ≡ 48 = omega (arith, length-take 48 body) in
    let long : length (base64_text (take 48 body)) ≡ 64 = omega (arith, length-text (take 48 body)) in
    let whole : length (take 48 body) % 3 ≡ 0 = omega arith in
    ap (λ (b : List ℕ). in_lines (base64_text b)) (sym (take-append-drop 48 body)) ∙ ap in_lines (text-append (take 48 body) (drop 48 body) whole)
    ∙ in_lines-full (base64_text (take 48 body)) (base64_text (drop 48 body)) (omega arith)

pub last_line : (body : List ℕ) → length body < 48 → in_lines (base64_text body) ≡ line (base64_text body)
last_line body lt = in_lines-short (base64_text body) (omega (arith, length-text body))

-- a line more is written
pub line_written : (out next all rest : List ℕ) → 48 ≤ length rest → next ≡ out ++ line (base64_text (take 48 rest))
    → out ++ in_lines (base64_text rest) ≡ all → next ++ in_lines (base64_text (drop 48 rest)) ≡ all
line_written out next all rest le puts same = grind (arith, common_steps, append_assoc, full_line)

-- the last line is written
pub last_written : (out next all rest : List ℕ) → length rest < 48 → next ≡ out ++ line (base64_text rest) → out ++ in_lines (base64_text rest) ≡ all
    → next ≡ all
last_written out next all rest lt puts same = puts ∙ ap (λ (t : List ℕ). out ++ t) (sym (last_line rest lt)) ∙ same

-- ---- an argument line

abbrev pub IsVisible : ℕ → Type 0
IsVisible c = (33 ≤ c) × (c ≤ 126)

abbrev pub spaced : List (List ℕ) → List ℕ
spaced args = flat_map (λ a. 32 ∷ a) args

pub All-append : {X : Type 0} (P : X → Type 0) (xs ys : List X) → AllByRecursion P xs → AllByRecursion P ys → AllByRecursion P (xs ++ ys)
All-append P [] ys f g = g
All-append P (x ∷ xs) ys f g = (f.0, All-append P xs ys f.1 g)

pub All-front : {X : Type 0} (P : X → Type 0) (xs ys : List X) → AllByRecursion P (xs ++ ys) → AllByRecursion P xs
All-front P [] ys f = tt
All-front P (x ∷ xs) ys f = (f.0, All-front P xs ys f.1)

pub All-back : {X : Type 0} (P : X → Type 0) (xs ys : List X) → AllByRecursion P (xs ++ ys) → AllByRecursion P ys
All-back P [] ys f = f
All-back P (x ∷ xs) ys f = All-back P xs ys f.1

-- a visible character is none of those below
pub visible_other : (mark : ℕ) (w : List ℕ) → mark < 33 → AllByRecursion IsVisible w → AllByRecursion (λ c. c ≡ mark → ⊥) w
visible_other mark w low seen = all_map IsVisible (λ c. c ≡ mark → ⊥) (λ c visible e. let least = visible.0 in omega (arith, least, low, e)) w seen

no_space : (w : List ℕ) → AllByRecursion (λ c. c ≡ 32 → ⊥) w → All (λ c. eqb c 32 ≡ false) w
no_space w other = All-from_recursion _ w (all_map (λ c. c ≡ 32 → ⊥) (λ c. eqb c 32 ≡ false) (λ c ne. ne_eqb c 32 ne) w other)

pub words_next : (w rest : List ℕ) → AllByRecursion (λ c. c ≡ 32 → ⊥) w → at_spaces (w ++ 32 ∷ rest) ≡ w ∷ at_spaces rest
words_next w rest other = slice_split_at (λ c. eqb c 32) w 32 rest (no_space w other) refl

pub words_last : (w : List ℕ) → AllByRecursion (λ c. c ≡ 32 → ⊥) w → at_spaces w ≡ w ∷ []
words_last w other = slice_split_none (λ c. eqb c 32) w (no_space w other)

-- the words of a line are the line
spaced_joined : (w : List ℕ) (ws : List (List ℕ)) → spaced (w ∷ ws) ≡ 32 ∷ join_with_byte 32 (w ∷ ws)
spaced_joined w [] = ap (λ (t : List ℕ). 32 ∷ t) (append-nil w)
spaced_joined w (v ∷ vs) = ap (λ (t : List ℕ). 32 ∷ (w ++ t)) (spaced_joined v vs)

spaced_words : (l : List ℕ) (ws : List (List ℕ)) → at_spaces l ≡ ws → (spaced ws ≡ 32 ∷ l) × (0 < length ws)
spaced_words l [] e = absurd (omega (arith, ap length e, length-slice_split (λ c. eqb c 32) l))
spaced_words l (w ∷ ws) e = (
  spaced_joined w ws ∙ ap (λ (t : List (List ℕ)). 32 ∷ join_with_byte 32 t) (sym e)
      ∙ ap (λ (t : List ℕ). 32 ∷ t) (join_with_byte-slice_split 32 l),
  omega arith,
)

words_spaced : (w : List ℕ) (ws : List (List ℕ)) → IsArgument w → AllByRecursion IsArgument ws → at_spaces (w ++ spaced ws) ≡ w ∷ ws
words_spaced w [] valid all = ap at_spaces (append-nil w) ∙ words_last w (visible_other 32 w (omega arith) valid.1)
words_spaced w (v ∷ vs) valid all =
    words_next w (v ++ spaced vs) (visible_other 32 w (omega arith) valid.1) ∙ ap (λ (ws : List (List ℕ)). w ∷ ws) (words_spaced v vs all.0 all.1)

argument_from_test : (w : List ℕ) → tests_argument w ≡ true → IsArgument w
argument_from_test w e = grind (arith, common_steps, and_parts, ltb-true, visible_from_test)

test_from_argument : (w : List ℕ) → IsArgument w → tests_argument w ≡ true
test_from_argument w valid = and_from (ltb 0 (length w)) _ (lt-ltb 0 (length w) valid.0) (test_from_visible w valid.1)

-- one word more is an argument, or isn't
pub next_argument : (done : List (List ℕ)) (w : List ℕ) (ws : List (List ℕ)) → IsArgument w → arguments_from done (w ∷ ws) ≡ arguments_from (done ++ w ∷ []) ws
unfolding arguments_from
next_argument done w ws valid = rw (test_from_argument w valid, append_assoc) refl

pub bad_argument : (done : List (List ℕ)) (w : List ℕ) (ws : List (List ℕ)) → (IsArgument w → ⊥) → arguments_from done (w ∷ ws) ≡ None
unfolding arguments_from
bad_argument done w ws bad = grind (arith, common_steps, argument_from_test, tested)

pub none_left : (done : List (List ℕ)) → arguments_from done [] ≡ Some done
unfolding arguments_from
none_left done = ap Some (append-nil done)

pub argument_line_read : (l : List ℕ) (args : List (List ℕ)) → arguments_of l ≡ Some args → (l ≡ argument_line args) × (0 < length args)
    × AllByRecursion IsArgument args
unfolding arguments_of arguments_from
argument_line_read l args e = elim (chosen (starts_with nat_eq l (codes "-> ")) (arguments_from [] (at_spaces (drop 3 l))) None (Some args) e) [
  | inl h ↦
      let read = cond_some (list_all tests_argument (at_spaces (drop 3 l))) (at_spaces (drop 3 l)) args h.1 in
      let is = spaced_words (drop 3 l) args read.1 in
      (starts_at l (codes "-> ") h.0 ∙ ap (λ (xs : List ℕ). codes "->" ++ xs) (sym is.0), is.1, rw (← read.1) (all_from_test tests_argument IsArgument argument_from_test (at_spaces (drop 3 l)) read.0))
  | inr h ↦ absurd (cc (h.1))
]

pub read_argument_line : (args : List (List ℕ)) → 0 < length args → AllByRecursion IsArgument args → arguments_of (argument_line args) ≡ Some args
unfolding arguments_of arguments_from
read_argument_line [] some valid = absurd (omega arith)
read_argument_line (a ∷ as') some valid =
    ap (arguments_from []) (words_spaced a as' valid.0 valid.1) ∙ rw (test_from_all tests_argument IsArgument test_from_argument (a ∷ as') valid) refl

-- ---- an end line

whole_is : (o : Option (List ℕ)) (mac : List ℕ) → whole_mac o ≡ Some mac → (o ≡ Some mac) × (length mac ≡ 32)
whole_is o mac h0 = grind (arith, common_steps, cond_some, eqb-true)

pub end_line_read : (l mac : List ℕ) → IsBytes l → mac_of l ≡ Some mac → (l ≡ end_line mac) × (length mac ≡ 32) × IsBytes mac
unfolding mac_of
end_line_read l mac fits e = elim (chosen (starts_with nat_eq l (codes "--- ")) (whole_mac (base64_bytes (drop 4 l))) None (Some mac) e) [
  | inl h ↦
      let front = starts_at l (codes "--- ") h.0 in
      let whole = whole_is (base64_bytes (drop 4 l)) mac h.1 in
      let is = text_of_decoded (drop 4 l) mac (IsBytes-drop 4 l fits) whole.0 in
      (front ∙ ap (λ (xs : List ℕ). codes "--- " ++ xs) is.0, whole.1, is.1)
  | inr h ↦ absurd (cc (h.1))
]

pub read_end_line : (mac : List ℕ) → length mac ≡ 32 → IsBytes mac → mac_of (end_line mac) ≡ Some mac
unfolding mac_of
read_end_line mac long fits = rw (decoded-text mac fits, eq-eqb (length mac) 32 long) refl

-- ---- what stands after the marks of an end line

pub no_end_line : (l : List ℕ) → starts_with nat_eq l (codes "--- ") ≡ false → None ≡ mac_of l
unfolding mac_of
no_end_line l e = rw e refl

pub mac_is : (l mac : List ℕ) → starts_with nat_eq l (codes "--- ") ≡ true → drop 4 l ≡ base64_text mac → length mac ≡ 32 → IsBytes mac → Some mac ≡ mac_of l
mac_is l mac starts is long fits = grind (arith, common_steps, read_end_line, starts_at)

none_unless : (o : Option (List ℕ)) → ((mac : List ℕ) → o ≡ Some mac → ⊥) → None ≡ o
none_unless None never = refl
none_unless (Some mac) never = absurd (never mac refl)

pub no_mac : (l : List ℕ) → IsBytes l → ((mac : List ℕ) → IsBytes mac → length mac ≡ 32 → drop 4 l ≡ base64_text mac → ⊥) → None ≡ mac_of l
no_mac l fits never = none_unless (mac_of l) (λ mac e.
    let read = end_line_read l mac fits e in
    never mac read.2 read.1 (ap (drop 4) read.0))
