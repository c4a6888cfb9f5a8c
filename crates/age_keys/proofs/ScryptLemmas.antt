-- The header of a scrypt stanza has a text.
use Rattle.std.proofs.lemmas.Grind.{common_steps}
use Rattle.std.proofs.Common.{◌≡◌, ℕ, zero, suc, ◌+◌, ◌<◌, ◌≤◌, List, [], ◌∷◌, ◌++◌, length, get_or, refl, ap, ap₂, ◌∙◌, arith}
use Rattle.std.specs.Prelude.{codes}
use Rattle.std.specs.Fmt.{decimal}
use Rattle.std.specs.List.{AllByRecursion}
use Rattle.std.specs.Str.Parse.{AllDigits}
use Rattle.std.proofs.lemmas.Fmt.{decimal_is_IsNumeral, length-decimal-le}
use Rattle.std.proofs.lemmas.List.{length-append}
use Rattle.std.proofs.lemmas.Str.Parse.{digit_from_value}
use Rattle.base64.specs.GeneralPurpose.{IsBytes}
use Rattle.base64.specs.Rfc4648.{encode_symbols}
use Rattle.age_stanza.specs.{base64_text, in_lines, stanza_text, head_text, IsStanza, HasText}
use Rattle.age_stanza.specs.declared.header.Header.{Header}
use Rattle.age_stanza.specs.declared.header.Stanza.{Stanza}
use Rattle.age_stanza.proofs.{IsVisible, visible_from_test, length-body, length-head, the_symbols, text-symbols, length-text}
use Rattle.age_keys.specs.{header_mac, wrapped_key, wrap_key, scrypt_stanza, scrypt_head}

visible_at : (xs : List ℕ) (i : ℕ) → AllByRecursion IsVisible xs → i < length xs → IsVisible (get_or xs i 0)
visible_at [] i h lt = absurd (omega arith)
visible_at (x ∷ xs) zero h lt = h.0
visible_at (x ∷ xs) (suc i) h lt = visible_at xs i h.1 (omega arith)

-- ---- the arguments are of visible characters

symbols_visible : (t m : List ℕ) → ((i : ℕ) → i < 64 → IsVisible (get_or t i 0)) → IsBytes m → AllByRecursion IsVisible (encode_symbols t m)
unfolding encode_symbols
symbols_visible t [] h fits = tt
symbols_visible t (a ∷ []) h fits =
    let fa : a < 256 = fits 0 in
    (h _ (omega arith), (h _ (omega arith), tt))
symbols_visible t (a ∷ b ∷ []) h fits =
    let fa : a < 256 = fits 0 in
    let fb : b < 256 = fits 1 in
    (h _ (omega arith), (h _ (omega arith), (h _ (omega arith), tt)))
symbols_visible t (a ∷ b ∷ c ∷ rest) h fits =
    let fa : a < 256 = fits 0 in
    let fb : b < 256 = fits 1 in
    let fc : c < 256 = fits 2 in
    (h _ (omega arith), (h _ (omega arith), (h _ (omega arith), (h _ (omega arith), symbols_visible t rest h (λ i. fits (suc (suc (suc i))))))))

pub text_visible : (m : List ℕ) → IsBytes m → AllByRecursion IsVisible (base64_text m)
text_visible m fits = rw text-symbols (symbols_visible the_symbols m (λ i lt. visible_at the_symbols i (visible_from_test the_symbols refl) lt) fits)

digits_visible : (ds : List ℕ) → AllDigits 10 ds → AllByRecursion IsVisible ds
digits_visible [] h = tt
digits_visible (c ∷ cs) h =
    let range = digit_from_value c h.0 in ((omega arith, omega arith), digits_visible cs h.1)

-- a work factor below a hundred has two digits at most
factor_size : (log : ℕ) → log ≤ 22 → length (decimal log) ≤ 2
factor_size log few = length-decimal-le 2 log (omega arith) (omega arith) (omega arith)

-- ---- the stanza, and the header

pub scrypt_valid : (salt body : List ℕ) (log : ℕ) → length salt ≡ 16 → IsBytes salt → IsBytes body → log ≤ 22 → IsStanza (scrypt_stanza salt log body)
unfolding scrypt_stanza
scrypt_valid salt body log size fits body_fits few =
    let numeral = (decimal_is_IsNumeral log (omega arith)).0 in
    let characters : 0 < length (base64_text salt) = omega (arith, length-text salt) in
    record {
      some_argument = omega arith;
      arguments = (
        (omega arith, visible_from_test (codes "scrypt") refl),
        ((characters, text_visible salt fits), ((numeral.0, digits_visible (decimal log) numeral.1), tt)),
      );
      body = body_fits;
    }

three_arguments : (a b c body : List ℕ) → length (stanza_text (record { args = a ∷ b ∷ c ∷ []; body = body }))
    ≡ length a + length b + length c + length (in_lines (base64_text body)) + 6
three_arguments a b c body = grind (arith, common_steps, length-append)

pub scrypt_size : (salt body : List ℕ) (log : ℕ) → length salt ≡ 16 → length body ≡ 32 → log ≤ 22
    → length (stanza_text (scrypt_stanza salt log body)) ≤ 100
unfolding scrypt_stanza
scrypt_size salt body log size body_size few = grind (arith, common_steps, factor_size, length-body, length-text, three_arguments)

-- a MAC of 32 bytes doesn't change the length
pub size_of_one : (s : Stanza) (mac : List ℕ) → length mac ≡ 32
    → length (head_text (record { stanzas = s ∷ []; mac = mac })) ≡ length (stanza_text s) + 70
size_of_one s mac long =
    length-head (record { stanzas = s ∷ []; mac = mac }) long ∙ ap (λ n. n + 70) (omega (arith, length-append (stanza_text s) []))

pub scrypt_has_text : (salt body mac : List ℕ) (log : ℕ) → length salt ≡ 16 → IsBytes salt → length body ≡ 32 → IsBytes body → log ≤ 22 → length mac
    ≡ 32 → IsBytes mac → HasText (record { stanzas = scrypt_stanza salt log body ∷ []; mac = mac })
scrypt_has_text salt body mac log size fits body_size body_fits few mac_size mac_fits =
    let h : Header = record { stanzas = scrypt_stanza salt log body ∷ []; mac = mac } in
    let whole = size_of_one (scrypt_stanza salt log body) mac mac_size in
    let part = scrypt_size salt body log size body_size few in (
      head_text h,
      record {
        spells = record {
          valid = record {
            some_stanza = omega arith;
            stanzas = (scrypt_valid salt body log size fits body_fits few, tt);
            mac_length = mac_size;
            mac = mac_fits;
          };
          bytes_are = refl;
        };
        within = omega arith;
      },
    )

-- a MAC of 32 bytes in the place of another
pub other_mac : (h : Header) (mac : List ℕ) → HasText h → length mac ≡ 32 → IsBytes mac → HasText (record { stanzas = h.stanzas; mac = mac })
other_mac h mac has mac_size mac_fits =
    let other : Header = record { stanzas = h.stanzas; mac = mac } in
    let valid = has.1.spells.valid in
    let size = ap length has.1.spells.bytes_are in
    let within = has.1.within in
    let before = length-head h valid.mac_length in
    let after = length-head other mac_size in (
      head_text other,
      record {
        spells = record {
          valid = record { some_stanza = valid.some_stanza; stanzas = valid.stanzas; mac_length = mac_size; mac = mac_fits };
          bytes_are = refl;
        };
        within = omega arith;
      },
    )

-- the MAC covers the stanzas alone
pub scrypt_head_is : (pass salt key wrap body mac : List ℕ) (log : ℕ) (h : Header) → wrap ≡ wrap_key pass salt log → body ≡ wrapped_key wrap key
    → h.stanzas ≡ scrypt_stanza salt log body ∷ [] → mac ≡ header_mac key h → record { stanzas = h.stanzas; mac = mac } ≡ scrypt_head pass log salt key
unfolding scrypt_head header_mac
scrypt_head_is pass salt key wrap body mac log h wrap_is body_is stanzas_are mac_is = grind (arith, common_steps)
