-- The text of bytes, and the bytes of a text.
use Rattle.std.proofs.lemmas.Grind.{common_steps}
use Rattle.std.proofs.Common.{◌≡◌, ℕ, zero, suc, ◌+◌, ◌≤◌, ◌*◌, ◌/◌, ◌%◌, true, not, ltb, eqb, List, [], ◌∷◌, ◌++◌, length, get_or, take, drop, Option, Some}
use Rattle.std.proofs.Common.{None, Result, Ok, Err, refl, sym, ap, subst, ◌∙◌, arith}
use Rattle.std.specs.List.{list_all}
use Rattle.std.specs.Prelude.{IfOk, IfErr, IfSome, IfNone}
use Rattle.std.specs.Result.{result_ok}
use Rattle.std.proofs.lemmas.Bool.{ltb-true, lt-ltb, and_parts, and_from, eqb-false, not-true}
use Rattle.std.proofs.lemmas.List.{append-nil, get_or-drop, take-append-drop}
use Rattle.std.proofs.lemmas.Option.{cond_some}
use Rattle.base64.specs.GeneralPurpose.{IsBytes, IsDecodedInto, decode_of, encode_of, engine_symbols}
use Rattle.base64.specs.Engines.{standard_no_pad}
use Rattle.base64.specs.Rfc4648.{encode_symbols}
use Rattle.base64.specs.declared.decode.DecodeError.{DecodeError}
use Rattle.base64.proofs.EngineFacts.{decode_of-encode_of, decode_of_strict, encode_of-append, front_bytes}
use Rattle.base64.proofs.RoundTrip.{length-encode_symbols}
use Rattle.age_stanza.specs.{base64_text, IsLine, character, IsBase64}
use Rattle.age_stanza.proofs.ElementLemmas.{all_from_test}
use Rattle.age_stanza.specs.inner.{base64_bytes, only_bytes}

pub bytes_pass : (b : List ℕ) → IsBytes b → list_all (λ x. ltb x 256) b ≡ true
bytes_pass [] h = refl
bytes_pass (x ∷ xs) h = and_from (ltb x 256) (list_all (λ y. ltb y 256) xs) (lt-ltb x 256 (h 0)) (bytes_pass xs (λ i. h (suc i)))

pub bytes_from_pass : (b : List ℕ) → list_all (λ x. ltb x 256) b ≡ true → IsBytes b
bytes_from_pass [] h i = omega arith
bytes_from_pass (x ∷ xs) h zero = ltb-true x 256 (and_parts (ltb x 256) (list_all (λ y. ltb y 256) xs) h).0
bytes_from_pass (x ∷ xs) h (suc i) = bytes_from_pass xs (and_parts (ltb x 256) (list_all (λ y. ltb y 256) xs) h).1 i

-- what decoding answers is what is decoded
pub decoded_is : (s b : List ℕ) → decode_of standard_no_pad s ≡ Ok b → IsBytes b → Some b ≡ base64_bytes s
unfolding base64_bytes
decoded_is s b e fits = rw (e, bytes_pass b fits) refl

not_decoded : (s : List ℕ) (error : DecodeError) → decode_of standard_no_pad s ≡ Err error → base64_bytes s ≡ None
unfolding base64_bytes
not_decoded s error e = rw e refl

-- what a line that was read into some room decodes to
pub line_read : (s old out : List ℕ) (r : Result ℕ DecodeError) → IsBytes out → length old ≡ 48 → IfOk r (λ n. IsDecodedInto standard_no_pad s n old out)
    → IfSome (result_ok r) (λ n. (n ≤ 48) × (base64_bytes s ≡ Some (take n out)))
line_read s old out (Ok n) fits size h =
    let front : IsBytes (take n out) = front_bytes (take n out) (drop n out) (subst IsBytes (sym (take-append-drop n out)) fits) in
    (omega (arith, h.2, size), sym (decoded_is s (take n out) h.0 front))
line_read s old out (Err e) fits size h = tt

pub line_refused : (s : List ℕ) (r : Result ℕ DecodeError) → IfErr r (λ e. decode_of standard_no_pad s ≡ Err e) → IfNone (result_ok r) (base64_bytes s ≡ None)
line_refused s (Ok n) h = tt
line_refused s (Err e) h = not_decoded s e h

-- ---- lists of bytes

pub no_bytes : IsBytes []
no_bytes = bytes_from_pass [] refl

pub IsBytes-drop : (n : ℕ) (b : List ℕ) → IsBytes b → IsBytes (drop n b)
IsBytes-drop n b h i = rw get_or-drop (h (n + i))

pub IsBytes-take : (n : ℕ) (b : List ℕ) → IsBytes b → IsBytes (take n b)
IsBytes-take n b h = front_bytes (take n b) (drop n b) (rw take-append-drop h)

pub IsBytes-append : (a b : List ℕ) → IsBytes a → IsBytes b → IsBytes (a ++ b)
IsBytes-append [] b f g i = g i
IsBytes-append (x ∷ a) b f g zero = f 0
IsBytes-append (x ∷ a) b f g (suc i) = IsBytes-append a b (λ k. f (suc k)) g i

-- ---- the text of bytes

abbrev pub the_symbols : List ℕ
the_symbols = engine_symbols standard_no_pad

pub text-symbols : (m : List ℕ) → base64_text m ≡ encode_symbols the_symbols m
unfolding base64_text
text-symbols m = append-nil (encode_symbols the_symbols m)

pub text-none : base64_text [] ≡ []
unfolding encode_symbols
text-none = text-symbols []

text-one : (a : ℕ) → base64_text (a ∷ []) ≡ character (a / 4) ∷ character (a % 4 * 16) ∷ []
unfolding encode_symbols
text-one a = text-symbols (a ∷ [])

pub text-two : (a b : ℕ) → base64_text (a ∷ b ∷ []) ≡ character (a / 4) ∷ character (a % 4 * 16 + b / 16) ∷ character (b % 16 * 4) ∷ []
unfolding encode_symbols
text-two a b = text-symbols (a ∷ b ∷ [])

pub text-three : (a b c : ℕ) (rest : List ℕ)
    → base64_text (a ∷ b ∷ c ∷ rest) ≡ character (a / 4) ∷ character (a % 4 * 16 + b / 16) ∷ character (b % 16 * 4 + c / 64) ∷ character (c % 64) ∷
    base64_text rest
unfolding encode_symbols
text-three a b c rest = grind (arith, common_steps, text-symbols)

pub text_is_base64 : IsBase64
text_is_base64 = record { none = text-none; one = text-one; two = text-two; three = text-three }

pub length-text : (m : List ℕ) → length (base64_text m) ≡ (4 * length m + 2) / 3
length-text m = ap length (text-symbols m) ∙ length-encode_symbols the_symbols m

pub text-append : (a b : List ℕ) → length a % 3 ≡ 0 → base64_text (a ++ b) ≡ base64_text a ++ base64_text b
unfolding base64_text
text-append a b whole = encode_of-append standard_no_pad a b whole

some_if_bytes : (o : Option (List ℕ)) (b : List ℕ) → only_bytes o ≡ Some b → (o ≡ Some b) × IsBytes b
some_if_bytes o b h0 = grind (arith, common_steps, bytes_from_pass, cond_some)

ok_if_some : (r : Result (List ℕ) DecodeError) (b : List ℕ) → result_ok r ≡ Some b → r ≡ Ok b
ok_if_some (Ok x) b e = cc
ok_if_some (Err d) b e = absurd cc

-- a text that is decoded is the text of those bytes
pub text_of_decoded : (s b : List ℕ) → IsBytes s → base64_bytes s ≡ Some b → (s ≡ base64_text b) × IsBytes b
unfolding base64_bytes base64_text
text_of_decoded s b fits e =
    let parts = some_if_bytes (result_ok (decode_of standard_no_pad s)) b e in
    (decode_of_strict standard_no_pad s b (refl, refl) fits (ok_if_some (decode_of standard_no_pad s) b parts.0), parts.1)

-- the text of bytes is decoded to them
pub decoded-text : (b : List ℕ) → IsBytes b → base64_bytes (base64_text b) ≡ Some b
unfolding base64_text
decoded-text b fits = sym (decoded_is (encode_of standard_no_pad b) b (decode_of-encode_of standard_no_pad b refl fits) fits)

-- ---- no line ends inside a text

pub IsLine-append : (a b : List ℕ) → IsLine a → IsLine b → IsLine (a ++ b)
IsLine-append [] b f g = g
IsLine-append (x ∷ a) b f g = (f.0, IsLine-append a b f.1 g)

pub line_from_test : (xs : List ℕ) → list_all (λ c. not (eqb c 10)) xs ≡ true → IsLine xs
line_from_test = all_from_test (λ c. not (eqb c 10)) (λ c. c ≡ 10 → ⊥) (λ c e. eqb-false c 10 (not-true (eqb c 10) e))

at_line : (xs : List ℕ) (i : ℕ) → IsLine xs → get_or xs i 0 ≡ 10 → ⊥
at_line [] i h e = omega arith
at_line (x ∷ xs) zero h e = h.0 e
at_line (x ∷ xs) (suc i) h e = at_line xs i h.1 e

symbols_line : (t m : List ℕ) → ((i : ℕ) → get_or t i 0 ≡ 10 → ⊥) → IsLine (encode_symbols t m)
unfolding encode_symbols
symbols_line t [] h = tt
symbols_line t (a ∷ []) h = (h _, (h _, tt))
symbols_line t (a ∷ b ∷ []) h = (h _, (h _, (h _, tt)))
symbols_line t (a ∷ b ∷ c ∷ rest) h = (h _, (h _, (h _, (h _, symbols_line t rest h))))

pub text_line : (m : List ℕ) → IsLine (base64_text m)
text_line m = rw text-symbols (symbols_line the_symbols m (λ i. at_line the_symbols i (line_from_test the_symbols refl)))
