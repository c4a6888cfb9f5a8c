-- Ciphertexts, tags, sealings and openings; the crates above use some of it.
use Rattle.std.proofs.lemmas.Grind.{common_steps}
use Rattle.std.proofs.Common.{◌≡◌, ℕ, ◌+◌, ◌-◌, ◌<◌, ◌≤◌, replicate, List, length, take, drop, get_or, slice_index, bit_xor, refl, sym, ap, ◌∙◌, arith}
use Rattle.std.proofs.Common.{length-append, Bool, true, false, [], ◌∷◌, bit_or}
use Rattle.std.specs.Bool.{OnTrue, OnFalse}
use Rattle.std.specs.Int.Bits.{xor_assoc, xor_self, xor_zero_r, xor_add_and}
use Rattle.std.specs.Prelude.{Option, Some, None, IsTrue, ◌↔◌}
use Rattle.std.proofs.lemmas.List.{take_at, drop_at, ext_get_or, take-append-drop, take-replicate}
use Rattle.std.proofs.lemmas.List.FromFn.{length-map-range_with_len, get_or-map-range_with_len}
use Rattle.std.proofs.lemmas.Nat.{le_or_l, le_or_r, and_le_l, and_le_r}
use Rattle.std.proofs.lemmas.Option.{cond_some}
use Rattle.std.proofs.lemmas.Slice.Eq.{bytes_eq-Decides}
use Rattle.std.specs.Int.{w64, to_le_bytes}
use Rattle.std.specs.List.{concat}
use Rattle.age_cipher.specs.{tag, sealing, IsSealing, opening, keystream_byte, ciphertext, poly1305, one_time_key, padding, mac_data}

-- ---- what the crates above may use of ciphertexts, sealings and openings

pub length-ciphertext : (key nonce : List ℕ) (counter : ℕ) (text : List ℕ) → length (ciphertext key nonce counter text) ≡ length text
unfolding ciphertext
length-ciphertext key nonce counter text = length-map-range_with_len (λ j. bit_xor (slice_index text j) (keystream_byte key nonce counter j)) 0 (length text)

get_or-ciphertext : (key nonce : List ℕ) (counter : ℕ) (text : List ℕ) (j : ℕ) → j < length text
    → get_or (ciphertext key nonce counter text) j 0 ≡ bit_xor (get_or text j 0) (keystream_byte key nonce counter j)
unfolding ciphertext
get_or-ciphertext key nonce counter text j h = grind (arith, common_steps, get_or-map-range_with_len)

-- enciphering twice gives the text back
pub twice : (key nonce : List ℕ) (counter : ℕ) (text : List ℕ) → ciphertext key nonce counter (ciphertext key nonce counter text) ≡ text
twice key nonce counter text =
    let c : List ℕ = ciphertext key nonce counter text in
    let len : length c ≡ length text = length-ciphertext key nonce counter text in
    ext_get_or 0 (ciphertext key nonce counter c) text (length-ciphertext key nonce counter c ∙ len) (λ j h.
    let in_c : j < length c = omega (arith, length-ciphertext key nonce counter c) in
    let k : ℕ = keystream_byte key nonce counter j in
    get_or-ciphertext key nonce counter c j in_c ∙ ap (λ x. bit_xor x k) (get_or-ciphertext key nonce counter text j (omega arith))
    ∙ xor_assoc (get_or text j 0) k k ∙ ap (bit_xor (get_or text j 0)) (xor_self k) ∙ xor_zero_r (get_or text j 0))

pub length-tag : (key nonce aad cipher : List ℕ) → length (tag key nonce aad cipher) ≡ 16
unfolding tag poly1305
length-tag key nonce aad cipher = refl

-- the two ends of a sealing
record HasEnds (block cipher tag : List ℕ) : Type 0 where
  pub front : take (length block - 16) block ≡ cipher
  pub end : drop (length block - 16) block ≡ tag

ends_of_sealing : (key nonce aad text : List ℕ)
    → HasEnds (sealing key nonce aad text) (ciphertext key nonce 1 text) (tag key nonce aad (ciphertext key nonce 1 text))
unfolding sealing
ends_of_sealing key nonce aad text = grind (arith, common_steps, drop_at, length-append, length-tag, take_at)

-- a sealing is 16 bytes longer than its text
pub length-sealing : (key nonce aad text : List ℕ) → length (sealing key nonce aad text) ≡ length text + 16
unfolding sealing
length-sealing key nonce aad text = grind (arith, common_steps, length-append, length-ciphertext, length-tag)

-- the front of a sealing, enciphered once more, is the text
pub deciphered_front : (key nonce aad text : List ℕ)
    → ciphertext key nonce 1 (take (length (sealing key nonce aad text) - 16) (sealing key nonce aad text)) ≡ text
deciphered_front key nonce aad text = ap (ciphertext key nonce 1) ((ends_of_sealing key nonce aad text).front) ∙ twice key nonce 1 text

-- a block is the sealing of one text at most
pub one_text : (key nonce aad text other : List ℕ) → sealing key nonce aad text ≡ sealing key nonce aad other → text ≡ other
one_text key nonce aad text other e =
    sym (deciphered_front key nonce aad text) ∙ ap (λ b. ciphertext key nonce 1 (take (length b - 16) b)) e ∙ deciphered_front key nonce aad other

-- ---- openings

-- a sealing opens to its text
pub opening_of_sealing : (key nonce aad text : List ℕ) → opening key nonce aad (sealing key nonce aad text) ≡ Some text
unfolding opening
opening_of_sealing key nonce aad text = grind (arith, common_steps, bytes_eq-Decides, deciphered_front)

-- what a block opens to seals to the block
pub sealing_of_opening : (key nonce aad block text : List ℕ) → opening key nonce aad block ≡ Some text → block ≡ sealing key nonce aad text
unfolding opening
sealing_of_opening key nonce aad block text e = grind (arith, common_steps, bytes_eq-Decides, cond_some)

pub opens_to : (key nonce aad block text : List ℕ) → block ≡ sealing key nonce aad text → opening key nonce aad block ≡ Some text
opens_to key nonce aad block text e = ap (opening key nonce aad) e ∙ opening_of_sealing key nonce aad text

none_of : (o : Option (List ℕ)) → ((text : List ℕ) → o ≡ Some text → ⊥) → o ≡ None
none_of o h = grind (arith, common_steps)

not_true : false ≡ true → ⊥
not_true e = cc

-- the clauses of `open_in_place`, in these words
pub opening_where_true : (b : Bool) (key nonce aad block text : List ℕ)
    → OnTrue b (block ≡ sealing key nonce aad text) → OnTrue b (opening key nonce aad block ≡ Some text)
opening_where_true b key nonce aad block text h = grind (arith, common_steps, opens_to)

pub opening_where_false : (b : Bool) (key nonce aad block : List ℕ)
    → (IsTrue b ↔ IsSealing key nonce aad block) → OnFalse b (opening key nonce aad block ≡ None)
opening_where_false true key nonce aad block e = tt
opening_where_false false key nonce aad block e =
    none_of (opening key nonce aad block)
    (λ text is. let bad : IsTrue false = e.1 (text, sealing_of_opening key nonce aad block text is) in not_true bad)

-- ---- the tag of a block, and the comparison of a block's end with it

-- the first of sixteen zeros
pub cut_zeros : (n : ℕ) → n ≤ 16 → take {A = ℕ} n (0 ∷ 0 ∷ 0 ∷ 0 ∷ 0 ∷ 0 ∷ 0 ∷ 0 ∷ 0 ∷ 0 ∷ 0 ∷ 0 ∷ 0 ∷ 0 ∷ 0 ∷ 0 ∷ []) ≡ replicate n 0
cut_zeros n few = take-replicate n 16 0 few

pub tag_is : (key nonce aad cipher one az cz al cl : List ℕ) → one ≡ one_time_key key nonce → az ≡ padding aad → cz ≡ padding cipher
    → al ≡ to_le_bytes w64 (length aad) → cl ≡ to_le_bytes w64 (length cipher)
    → poly1305 one (concat (aad ∷ az ∷ cipher ∷ cz ∷ al ∷ cl ∷ [])) ≡ tag key nonce aad cipher
unfolding tag mac_data
tag_is key nonce aad cipher one az cz al cl o a c la lc = grind (arith, common_steps)

-- a sealing's end is the tag of its front
pub end_is_tag : (key nonce aad text block : List ℕ) → block ≡ sealing key nonce aad text
    → drop (length block - 16) block ≡ tag key nonce aad (take (length block - 16) block)
end_is_tag key nonce aad text block e = grind (arith, common_steps, ends_of_sealing)

-- and if it is, the block is the sealing of what the front deciphers to
pub sealed_by_tag : (key nonce aad block : List ℕ) (n : ℕ) → drop n block ≡ tag key nonce aad (take n block)
    → block ≡ sealing key nonce aad (ciphertext key nonce 1 (take n block))
unfolding sealing
sealed_by_tag key nonce aad block n e = grind (arith, common_steps, take-append-drop, twice)

-- a test of the tag tells whether the block is a sealing
pub opens_exactly : (same : Bool) (key nonce aad block front t e : List ℕ) → (IsTrue same ↔ (t ≡ e)) → t ≡ tag key nonce aad front
    → front ≡ take (length block - 16) block → e ≡ drop (length block - 16) block → IsTrue same ↔ IsSealing key nonce aad block
opens_exactly same key nonce aad block front t e tested tags front_is end_is =
    let n : ℕ = length block - 16 in
    let tagged : t ≡ tag key nonce aad (take n block) = tags ∙ ap (tag key nonce aad) front_is in (
      λ h. (ciphertext key nonce 1 (take n block), sealed_by_tag key nonce aad block n (sym end_is ∙ sym (tested.0 h) ∙ tagged)),
      λ w. tested.1 (sym (end_is ∙ end_is_tag key nonce aad w.0 block w.1 ∙ sym tagged)),
    )

-- ---- differences, gathered by or

both_zero : (a b : ℕ) → bit_or a b ≡ 0 → (a ≡ 0) × (b ≡ 0)
both_zero a b e = (omega (arith, le_or_l a b), omega (arith, le_or_r a b))

no_difference : (a b : ℕ) → bit_xor a b ≡ 0 → a ≡ b
no_difference a b e = omega (arith, xor_add_and a b, and_le_l a b, and_le_r a b)

pub still_same : (d a b : ℕ) → bit_or d (bit_xor a b) ≡ 0 → (d ≡ 0) × (a ≡ b)
still_same d a b e = grind (arith, common_steps, both_zero, no_difference)

pub still_none : (d a b : ℕ) → d ≡ 0 → a ≡ b → bit_or d (bit_xor a b) ≡ 0
still_none d a b e f = rw (e, f, xor_self) refl
