-- The bytes of a text in base64.
use Rattle.std.proofs.lemmas.Grind.{common_steps}
use Rattle.std.proofs.Common.{◌≡◌, ℕ, ◌+◌, ◌*◌, ◌/◌, ◌≤◌, List, [], length, take, Ok, Err, refl, sym, ap, ◌∙◌, arith, length-take}
use Rattle.std.specs.Result.{result_unwrap_or}
use Rattle.base64.specs.declared.decode.DecodeError.{DecodeError}
use Rattle.age_stanza.proofs.TextLemmas.{length-text}
use Rattle.base64.specs.GeneralPurpose.{IsBytes, decode_of}
use Rattle.base64.specs.Engines.{standard_no_pad}
use Rattle.base64.proofs.EngineFacts.{decode_of-encode_of, decode_of_strict}
use Rattle.age_stanza.specs.{base64_text}

-- what decodes is the text of its bytes
pub text_of_decoded : (s b : List ℕ) → IsBytes s → decode_of standard_no_pad s ≡ Ok b → s ≡ base64_text b
unfolding base64_text
text_of_decoded s b h e = decode_of_strict standard_no_pad s b (refl, refl) h e

-- and the text of bytes decodes to them
decoded_of_text : (s b : List ℕ) → IsBytes b → s ≡ base64_text b → decode_of standard_no_pad s ≡ Ok b
unfolding base64_text
decoded_of_text s b h e = rw e (decode_of-encode_of standard_no_pad b refl h)

-- the text of n bytes has this many characters
pub characters_of : (s b : List ℕ) (n : ℕ) → length b ≡ n → s ≡ base64_text b → length s ≡ (4 * n + 2) / 3
characters_of s b n len e = ap length e ∙ length-text b ∙ ap (λ k. (4 * k + 2) / 3) len

same_bytes : (s a b : List ℕ) → decode_of standard_no_pad s ≡ Ok a → decode_of standard_no_pad s ≡ Ok b → a ≡ b
same_bytes s a b x y = ap (λ r. result_unwrap_or r []) (sym x ∙ y)

-- what decodes to the front of a longer list is the text of no more bytes than that front has
pub decoded_size : (s b out : List ℕ) (n : ℕ) → n ≤ length out → decode_of standard_no_pad s ≡ Ok (take n out) → IsBytes b → s ≡ base64_text b → n ≡ length b
decoded_size s b out n room e fits is = grind (arith, common_steps, decoded_of_text, length-take, same_bytes)

pub never_decodes : (s b : List ℕ) (error : DecodeError) → decode_of standard_no_pad s ≡ Err error → IsBytes b → s ≡ base64_text b → ⊥
never_decodes s b error e fits is = cc (sym e ∙ decoded_of_text s b fits is)

-- different bytes have different texts
pub one_text : (a b : List ℕ) → IsBytes a → IsBytes b → base64_text a ≡ base64_text b → a ≡ b
one_text a b a_fits b_fits e = same_bytes (base64_text a) a b (decoded_of_text (base64_text a) a a_fits refl) (decoded_of_text (base64_text a) b b_fits e)
