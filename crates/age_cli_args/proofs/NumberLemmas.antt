-- What a number or a flag of the command line is.
use Rattle.std.proofs.Common.{◌≡◌, ◌≤◌, ℕ, List, Option, Some, None, true, false, refl, sym, ap, ◌∙◌, arith, Bool}
use Rattle.std.specs.Prelude.{Result, Ok, Err, option_and_then, option_map, slice_get, is_some, IfNone, unwrap_or, bytes_eq, codes}
use Rattle.std.specs.Borrow.{Bor}
use Rattle.std.specs.Str.Parse.{ParsesUnsigned, ParsesBool}
use Rattle.std.specs.Option.{option_map_or}
use Rattle.std.proofs.lemmas.Bool.{false_from_ne_true}
use Rattle.std.proofs.lemmas.Slice.Eq.{bytes_eq-Decides}
use Rattle.clap.specs.Words.{Text, matched_of, one_text, first_value, ReadsOne, read_as}
use Rattle.clap.specs.declared.parser.matches.Found.{Found}
use Rattle.clap.specs.declared.parser.matches.MatchedArg.{MatchedArg}
use Rattle.age_cli_args.specs.{IsNumber}

-- a number that was read is the one that its text spells
pub number_read : {E : Type 0} (G : List ℕ → Result ℕ E → Type 0) (o : Option Text) (n default : ℕ) → (o ≡ None → Some n ≡ None)
    → ((t : Text) → o ≡ Some t → ReadsOne G t (Some n)) → ((t : Text) (x : Result ℕ E) → G t x → ParsesUnsigned 32 10 t x) → 1 ≤ n → n ≤ 22
    → IsNumber default o n
number_read G None n default none value only low high = let no = none refl in cc
number_read G (Some t) n default none value only low high = let p = only t (Ok n) (value t refl) in (p.0.0, p.1, low, high)

-- and one that is out of bounds is none
pub not_number : {E : Type 0} (G : List ℕ → Result ℕ E → Type 0) (o : Option Text) (n m default : ℕ) → (o ≡ None → Some n ≡ None)
    → ((t : Text) → o ≡ Some t → ReadsOne G t (Some n)) → ((t : Text) (x : Result ℕ E) → G t x → ParsesUnsigned 32 10 t x) → (1 ≤ n → n ≤ 22 → ⊥)
    → IsNumber default o m → ⊥
not_number G None n m default none value only out is = let no = none refl in cc
not_number G (Some t) n m default none value only out is =
    let p = only t (Ok n) (value t refl) in
    let same : n ≡ m = p.1 ∙ sym is.1 in
    out (omega (arith, same, is.2)) (omega (arith, same, is.3))

-- so is a text that can't be read as a number
pub no_number : {E : Type 0} (G : List ℕ → Result ℕ E → Type 0) (o : Option Text) (m default : ℕ) → ((t : Text) → o ≡ Some t → ReadsOne {T = ℕ} G t None)
    → ((t : Text) (x : Result ℕ E) → G t x → ParsesUnsigned 32 10 t x) → (o ≡ None → ⊥) → IsNumber default o m → ⊥
no_number G None m default value only some is = some refl
no_number G (Some t) m default value only some is =
    let failed = value t refl in
    let none = only t (Err failed.0) failed.1 in
    none (is.0, omega (arith, is.1, is.3))

-- the text of a value that is read, and that value
abbrev Value : Option MatchedArg → Option Text
Value = option_and_then (λ (a : MatchedArg). option_map (λ (s : Bor Text). s.now) (slice_get a.vals.items 0))

abbrev Read : Option MatchedArg → Option Text
Read = option_and_then (λ (a : MatchedArg). option_map (λ (s : Bor Text). read_as a.reading s.now) (slice_get a.vals.items 0))

none_mapped : {A B C : Type 0} (f : A → B) (g : A → C) (o : Option A) → option_map f o ≡ None → option_map g o ≡ None
none_mapped f g None h = refl
none_mapped f g (Some x) h = cc

none_read : (o : Option MatchedArg) → Value o ≡ None → Read o ≡ None
none_read None h = refl
none_read (Some a) h = none_mapped _ _ (slice_get a.vals.items 0) h

none_held : (o : Option MatchedArg) → Read o ≡ None → Value o ≡ None
none_held None h = refl
none_held (Some a) h = none_mapped _ _ (slice_get a.vals.items 0) h

none_given : (o : Option (Bor Text)) → is_some o ≡ false → option_map (λ (s : Bor Text). s.now) o ≡ None
none_given None h = refl
none_given (Some s) h = cc

-- if there is no value there is no text to be read, and the other way round
pub no_text : (f : Found) (id : Text) (o : Option (Bor Text)) → option_map (λ (s : Bor Text). s.now) o ≡ first_value f id → is_some o ≡ false
    → one_text f id ≡ None
no_text f id o is none = none_read (matched_of f id) (sym is ∙ none_given o none)

pub some_text : (f : Found) (id : Text) (o : Option (Bor Text)) → option_map (λ (s : Bor Text). s.now) o ≡ first_value f id → is_some o ≡ true
    → one_text f id ≡ None → ⊥
some_text f id None is some none = cc
some_text f id (Some s) is some none = let no : Some s.now ≡ None = is ∙ none_held (matched_of f id) none in cc

pub none_weaker : {A : Type 0} (o : Option A) (P Q : Type 0) → (P → Q) → IfNone o P → IfNone o Q
none_weaker None P Q h p = h p
none_weaker (Some x) P Q h p = tt

-- a text spells one number
pub one_number : (default : ℕ) (o : Option Text) (m n : ℕ) → IsNumber default o m → IsNumber default o n → m ≡ n
one_number default None m n a b = a ∙ sym b
one_number default (Some t) m n a b = a.1 ∙ sym b.1

-- ---- What a flag is.

-- a flag that was read is the one that its text says
pub flag_read : {E : Type 0} (G : List ℕ → Result Bool E → Type 0) (o : Option Text) (r : Option Bool) → (o ≡ None → r ≡ None)
    → ((t : Text) → o ≡ Some t → ReadsOne G t r) → ((t : Text) (x : Result Bool E) → G t x → ParsesBool t x)
    → unwrap_or r false ≡ option_map_or (λ t. bytes_eq t (codes "true")) o false
flag_read G None r none value only = ap (λ (x : Option Bool). unwrap_or x false) (none refl)
flag_read G (Some t) (Some true) none value only = sym ((bytes_eq-Decides t (codes "true")).1 (only t (Ok true) (value t refl)))
flag_read G (Some t) (Some false) none value only = sym (ap (λ (s : Text). bytes_eq s (codes "true")) (only t (Ok false) (value t refl)))
flag_read G (Some t) None none value only =
    let failed = value t refl in
    sym (false_from_ne_true (bytes_eq t (codes "true")) (λ same. (only t (Err failed.0) failed.1).0 ((bytes_eq-Decides t (codes "true")).0 same)))
