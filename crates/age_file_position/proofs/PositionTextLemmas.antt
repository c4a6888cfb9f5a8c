use Rattle.std.proofs.lemmas.Grind.{common_steps}
use Rattle.std.proofs.Common.{◌≡◌, ℕ, ◌+◌, ◌-◌, ◌≤◌, ◌<◌, List, [], ◌∷◌, ◌++◌, length, take, drop, get_or, Result, Ok, Err, Option, Some, None, Bool, true}
use Rattle.std.proofs.Common.{false, not, eqb, codes, refl, sym, ap, ◌∙◌, arith, append_assoc}
use Rattle.std.proofs.lemmas.List.{length-append, take-append-drop, take_rest, length-drop, drop-drop, get_or-drop}
use Rattle.std.proofs.Math.Seq.{drop-append_seam, take-append_seam}
use Rattle.std.specs.Prelude.{IfSome}
use Rattle.std.specs.Result.{result_ok}
use Rattle.std.specs.Cmp.Lexicographic.{pointwise, same_text}
use Rattle.std.proofs.lemmas.Bool.{and_from, eq-eqb}
use Rattle.std.specs.Fmt.{decimal}
use Rattle.std.specs.Str.{IsUtf8}
use Rattle.std.specs.Str.Parse.{ParsesUnsigned}
use Rattle.std.proofs.lemmas.Str.{IsUtf8-from_ascii}
use Rattle.std.proofs.lemmas.Fmt.{IsAscii-decimal, parse-decimal}
use Rattle.base64.specs.GeneralPurpose.{IsBytes, decode_of}
use Rattle.base64.specs.Engines.{standard_no_pad}
use Rattle.base64.specs.declared.decode.DecodeError.{DecodeError}
use Rattle.age_stanza.specs.{base64_text as text}
use Rattle.age_stanza.proofs.{length-text, IsBytes-drop}
use Rattle.age_stanza.proofs.Base64Lemmas.{text_of_decoded, decoded_size, never_decodes}
use Rattle.age_file_position.specs.declared.position.Position.{Position}
use Rattle.age_file_position.specs.Bindings.{position_front}
use Rattle.age_file_position.specs.Texts.{position_text, IsDigest}
use Rattle.age_file_position.specs.inner.{index_text, field_text, fields_text}
use Rattle.age_chunk.specs.{chunk_limit}

-- a list that is cut where its second part begins
front_is : (a b x : List ℕ) (n : ℕ) → length a ≡ n → x ≡ a ++ b → take n x ≡ a
front_is a b x n size e = rw (e, ← size) (take-append_seam a b)

back_is : (a b x : List ℕ) (n : ℕ) → length a ≡ n → x ≡ a ++ b → drop n x ≡ b
back_is a b x n size e = rw (e, ← size) (drop-append_seam a b)

-- ---- the index

-- the digits of an index are text
pub decimal_reads : (index : ℕ) (digits : List ℕ) → index < chunk_limit → digits ≡ decimal index → IsUtf8 digits
decimal_reads index digits lt e = rw e (IsUtf8-from_ascii (decimal index) (IsAscii-decimal index (omega arith)))

-- what a result was, by what `ok` made of it
pub was_err : {T E : Type 0} (r : Result T E) (o : Option T) → o ≡ result_ok r → o ≡ None → (error : E) × (r ≡ Err error)
was_err (Ok x) o is none = absurd cc
was_err (Err error) o is none = (error, refl)

pub was_ok : {T E : Type 0} (r : Result T E) (o : Option T) (x : T) → o ≡ result_ok r → o ≡ Some x → r ≡ Ok x
was_ok (Ok y) o x is some = cc
was_ok (Err error) o x is some = absurd cc

-- and are read as it
pub read_as : {E : Type 0} (index m : ℕ) (digits : List ℕ) (r : Result ℕ E) → r ≡ Ok m → index < chunk_limit → digits ≡ decimal index
    → ParsesUnsigned 64 10 digits r → m ≡ index
read_as index m digits r is lt e h = cc (parse-decimal 64 index digits r (omega arith) (omega arith) e h)

pub never_refused : {E : Type 0} (index : ℕ) (digits : List ℕ) (r : Result ℕ E) (error : E)
    → r ≡ Err error → index < chunk_limit → digits ≡ decimal index → ParsesUnsigned 64 10 digits r → ⊥
never_refused index digits r error is lt e h = cc (parse-decimal 64 index digits r (omega arith) (omega arith) e h)

-- a comparison of lists
same_of : (xs : List ℕ) → pointwise eqb xs xs ≡ true
same_of [] = refl
same_of (x ∷ xs) = and_from (eqb x x) (pointwise eqb xs xs) (eq-eqb x x refl) (same_of xs)

pub never_differs : (xs ys : List ℕ) → false ≡ pointwise eqb xs ys → xs ≡ ys → ⊥
never_differs xs ys test e = grind (arith, common_steps, same_of)

pub same_unless : (xs ys : List ℕ) → false ≡ not (pointwise eqb xs ys) → xs ≡ ys
same_unless xs ys test = same_text xs ys (sym (from_not (pointwise eqb xs ys) test)) where
  from_not : (b : Bool) → false ≡ not b → b ≡ true
  from_not true e = refl
  from_not false e = absurd cc

pub index_read : (r : Option ℕ) (front version : List ℕ) → take 16 front ≡ version → IfSome r (λ index. take (length front - 16) (drop 16 front)
    ≡ decimal index) → IfSome r (λ index. front ≡ version ++ decimal index)
index_read r front version h0 h1 = grind (arith, common_steps, take-append-drop, take_rest)

-- ---- a field

with_first : (xs ys : List ℕ) → 1 ≤ length xs → get_or xs 0 0 ≡ 32 → drop 1 xs ≡ ys → xs ≡ 32 ∷ ys
with_first [] ys size first e = absurd (omega (arith, size))
with_first (x ∷ xs) ys size first e = ap (λ (k : ℕ). k ∷ xs) first ∙ ap (λ (zs : List ℕ). 32 ∷ zs) e

module _ (field : List ℕ) where
  -- what follows the space
  behind : drop 1 field ≡ take (length field - 1) (drop 1 field)
  behind = sym (take_rest field 1)

  pub digest_read : IsBytes field → (bytes out : List ℕ) (n : ℕ) → 1 ≤ length field → get_or field 0 0 ≡ 32 → bytes ≡ take n out
      → decode_of standard_no_pad (take (length field - 1) (drop 1 field)) ≡ Ok (take n out) → field ≡ field_text bytes
  digest_read fits bytes out n size first same decoded =
      let e : drop 1 field ≡ text (take n out) = text_of_decoded (drop 1 field) (take n out) (IsBytes-drop 1 field fits)
      (ap (decode_of standard_no_pad) behind ∙ decoded) in
      with_first field (text bytes) size first (e ∙ ap text (sym same))

  pub digest_short : (bytes out : List ℕ) (n : ℕ) → (n ≡ 32 → ⊥) → n ≤ length out → decode_of standard_no_pad (take (length field - 1) (drop 1 field))
      ≡ Ok (take n out) → IsDigest bytes → field ≡ field_text bytes → ⊥
  digest_short bytes out n differs room decoded digest e = grind (arith, common_steps, behind, decoded_size)

  pub digest_none : (bytes : List ℕ) (error : DecodeError) → decode_of standard_no_pad (take (length field - 1) (drop 1 field)) ≡ Err error
      → IsDigest bytes → field ≡ field_text bytes → ⊥
  digest_none bytes error decoded digest e =
      never_decodes (drop 1 field) bytes error (ap (decode_of standard_no_pad) behind ∙ decoded) digest.fits (ap (drop 1) e)

length-field : (b : List ℕ) → IsDigest b → length (field_text b) ≡ 44
length-field b d = omega (arith, length-text b, d.size)

-- ---- fields one after the other

module _ (fields id links tag : List ℕ) (d1 : IsDigest id) (d2 : IsDigest links) (d3 : IsDigest tag) (e : fields ≡ fields_text id links tag) where
  pub first_field : take 44 fields ≡ field_text id
  first_field = front_is (field_text id) (field_text links ++ (field_text tag ++ codes "\n")) fields 44 (length-field id d1) e

  after_first : drop 44 fields ≡ field_text links ++ (field_text tag ++ codes "\n")
  after_first = back_is (field_text id) (field_text links ++ (field_text tag ++ codes "\n")) fields 44 (length-field id d1) e

  after_second : drop 88 fields ≡ field_text tag ++ codes "\n"
  after_second = sym (drop-drop 44 44 fields) ∙ back_is (field_text links) (field_text tag ++ codes "\n") (drop 44 fields) 44 (length-field links d2)
      after_first

  pub second_field : take 44 (drop 44 fields) ≡ field_text links
  second_field = front_is (field_text links) (field_text tag ++ codes "\n") (drop 44 fields) 44 (length-field links d2) after_first

  pub third_field : take 44 (drop 88 fields) ≡ field_text tag
  third_field = front_is (field_text tag) (codes "\n") (drop 88 fields) 44 (length-field tag d3) after_second

one_element : (xs : List ℕ) → length xs ≡ 1 → get_or xs 0 0 ≡ 10 → xs ≡ 10 ∷ []
one_element xs h0 h1 = grind (arith, common_steps)

-- fields that were read are the texts of what they say
pub fields_are : (fields id links tag : List ℕ) → length fields ≡ 133 → take 44 fields ≡ field_text id → take 44 (drop 44 fields) ≡ field_text links
    → take 44 (drop 88 fields) ≡ field_text tag → get_or fields 132 0 ≡ 10 → fields ≡ fields_text id links tag
fields_are fields id links tag size a b c d =
    let end : drop 132 fields ≡ 10 ∷ [] = one_element (drop 132 fields) (omega (arith, length-drop 132 fields, size))
    (get_or-drop 132 fields 0 0 ∙ d) in
    let third : drop 88 fields ≡ field_text tag ++ (10 ∷ []) = sym (take-append-drop 44 (drop 88 fields))
    ∙ ap (λ (xs : List ℕ). xs ++ drop 44 (drop 88 fields)) c ∙ ap (λ (xs : List ℕ). field_text tag ++ xs) (drop-drop 44 88 fields ∙ end) in
    let second : drop 44 fields ≡ field_text links ++ (field_text tag ++ (10 ∷ [])) = sym (take-append-drop 44 (drop 44 fields))
    ∙ ap (λ (xs : List ℕ). xs ++ drop 44 (drop 44 fields)) b ∙ ap (λ (xs : List ℕ). field_text links ++ xs) (drop-drop 44 44 fields ∙ third) in
    sym (take-append-drop 44 fields) ∙ ap (λ (xs : List ℕ). xs ++ drop 44 fields) a ∙ ap (λ (xs : List ℕ). field_text id ++ xs) second

-- ---- the whole text

regroup : (version digits space id links tag end : List ℕ) → ((((((((version ++ digits) ++ space) ++ id) ++ space) ++ links) ++ space) ++ tag) ++ end)
    ≡ (version ++ digits) ++ ((space ++ id) ++ ((space ++ links) ++ ((space ++ tag) ++ end)))
regroup version digits space id links tag end = simp append_assoc

-- a position's text in two parts
two_parts : (p : Position) → position_text p ≡ index_text p.index ++ fields_text p.file_id p.chain p.tag
unfolding position_front
two_parts p = regroup (codes "age-position/v2 ") (decimal p.index) (codes " ") (text p.file_id) (text p.chain) (text p.tag) (codes "\n")

length-fields : (id links tag : List ℕ) → IsDigest id → IsDigest links → IsDigest tag → length (fields_text id links tag) ≡ 133
length-fields id links tag d1 d2 d3 = simp length-append (omega (arith, length-field id d1, length-field links d2, length-field tag d3))

module _ (words : List ℕ) (p : Position) (d1 : IsDigest p.file_id) (d2 : IsDigest p.chain) (d3 : IsDigest p.tag) (e : words ≡ position_text p) where
  pub words_are : words ≡ index_text p.index ++ fields_text p.file_id p.chain p.tag
  words_are = e ∙ two_parts p

  sizes : length words ≡ length (index_text p.index) + 133
  sizes = ap length words_are ∙ length-append (index_text p.index) (fields_text p.file_id p.chain p.tag)
      ∙ ap (λ (k : ℕ). length (index_text p.index) + k) (length-fields p.file_id p.chain p.tag d1 d2 d3)

  pub long_enough : 133 ≤ length words
  long_enough = omega (arith, sizes)

  module _ (at : ℕ) (at_is : at ≡ length words - 133) where
    pub words_front : take at words ≡ index_text p.index
    words_front = front_is (index_text p.index) (fields_text p.file_id p.chain p.tag) words at (omega (arith, sizes)) words_are

    pub words_back : take (length words - at) (drop at words) ≡ fields_text p.file_id p.chain p.tag
    words_back = take_rest words at ∙ back_is (index_text p.index) (fields_text p.file_id p.chain p.tag) words at (omega (arith, sizes)) words_are

-- what was read is the text of the position
pub words_of : (words : List ℕ) (at index : ℕ) (p : Position) → take at words ≡ index_text index → p.index ≡ index
    → take (length words - at) (drop at words) ≡ fields_text p.file_id p.chain p.tag → words ≡ position_text p
words_of words at index p front same back =
    sym (take-append-drop at words) ∙ ap (λ (xs : List ℕ). xs ++ drop at words) (front ∙ ap index_text (sym same))
    ∙ ap (λ (xs : List ℕ). index_text p.index ++ xs) (sym (take_rest words at) ∙ back) ∙ sym (two_parts p)
