-- The keystream, and texts that are changed by it.
use Rattle.std.proofs.lemmas.Grind.{common_steps}
use Rattle.std.proofs.Common.{◌≡◌, ℕ, ◌+◌, ◌-◌, ◌*◌, ◌/◌, ◌%◌, ◌<◌, ◌≤◌, List, length, min, take, drop, get_or, slice_index, bit_xor, refl, ap, ap₂, ◌∙◌, arith}
use Rattle.std.proofs.Common.{inl, inr, length-take, length-drop, ◌^◌, sym, w32, Fits}
use Rattle.std.specs.Int.{byte_at}
use Rattle.std.proofs.lemmas.Bool.{cases_lt}
use Rattle.std.proofs.lemmas.List.{get_or-take, get_or-drop, take_all}
use Rattle.std.proofs.lemmas.List.FromFn.{fill_by_all}
use Rattle.std.proofs.lemmas.Simd.{put_chunk_whole, length-zip2, get_or-zip2, get_or_narrower, chunk-fits, below_from_Fits}
use borrow.Rule.Slice.PartMut.{put_mid}
use Rattle.rand_chacha.specs.Block.{initial_state, block_word}
use Rattle.rand_chacha.specs.ChaCha.{ChaCha, word_at, key_of, next_word}
use Rattle.rand_core.specs.Steps.{u32_at}
use Rattle.age_cipher.specs.{stream_number, block_place, keystream_byte, ciphertext, state, state_word, block_byte}
use Rattle.age_cipher.specs.inner.{word_byte, IsXored}
use lib.Lanes.{zip2, put_chunk, digits_l, number_l, Each1}

-- ---- a text changed place by place, part by part

-- the places below i are changed, and the others are as they were
pub record IsXoredBelow (stream : ℕ → ℕ) (i : ℕ) (old text : List ℕ) : Type 0 where
  pub done : (j : ℕ) → j < i → j < length old → slice_index text j ≡ bit_xor (slice_index old j) (stream j)
  pub left : (j : ℕ) → i ≤ j → slice_index text j ≡ slice_index old j

-- ---- an element after a write to a part of k elements from a on

pub get_or-put_below : (a k : ℕ) (xs ys : List ℕ) (j : ℕ) → j < a → a ≤ length xs → get_or (put_mid a k xs ys) j 0 ≡ get_or xs j 0
get_or-put_below a k xs ys j h room = grind (arith, common_steps)

pub get_or-put_in : (a k : ℕ) (xs ys : List ℕ) (j : ℕ) → a ≤ j → j < a + length ys → a ≤ length xs → get_or (put_mid a k xs ys) j 0 ≡ get_or ys (j - a) 0
get_or-put_in a k xs ys j low high room = grind (arith, common_steps)

get_or-put_above : (a k : ℕ) (xs ys : List ℕ) (j : ℕ) → length ys ≡ k → a + k ≤ j → a ≤ length xs → get_or (put_mid a k xs ys) j 0 ≡ get_or xs j 0
get_or-put_above a k xs ys j len high room = grind (arith, common_steps)

-- one more part of k bytes, from a on, which was changed by the bytes of another stream from there; it ends at b, or the
-- text ends before
pub part_xored : (stream other : ℕ → ℕ) (a b k : ℕ) (old text ys : List ℕ) → length text ≡ length old → a + k ≤ length text
    → a + k ≤ b → min b (length text) ≤ a + k → ((m : ℕ) → m < k → other m ≡ stream (a + m))
    → IsXored other (take k (drop a text)) ys → IsXoredBelow stream a old text → IsXoredBelow stream b old (put_mid a k text ys)
part_xored stream other a b k old text ys long room up last same x s =
    let mid : List ℕ = take k (drop a text) in
    let width : length mid ≡ k = omega (arith, length-take k (drop a text), length-drop a text) in
    let len : length ys ≡ k = omega (arith, x.len) in
    record {
      done = λ j h short. elim (cases_lt j a) [
        | inl below ↦ get_or-put_below a k text ys j below (omega arith) ∙ s.done j below short
        | inr above ↦
            let m : ℕ = j - a in
            let small : m < k = omega arith in
            let back : a + m ≡ j = omega arith in
            get_or-put_in a k text ys j (omega arith) (omega arith) (omega arith) ∙ x.at m (omega arith) ∙ ap₂ bit_xor
            (get_or-take k (drop a text) m 0 small ∙ get_or-drop a text m 0 ∙ ap (λ n. get_or text n 0) back ∙ s.left j (omega arith))
            (same m small ∙ ap stream back)
      ];
      left = λ j h. get_or-put_above a k text ys j len (omega arith) (omega arith) ∙ s.left j (omega arith);
    }

pub all_xored : (stream : ℕ → ℕ) (i : ℕ) (old text : List ℕ) → length text ≡ length old → length old ≤ i
    → IsXoredBelow stream i old text → IsXored stream old text
all_xored stream i old text same whole s = record { len = same; at = λ j h. s.done j (omega arith) h }

-- the words from word 8 * i on, all of them or some, and the bytes from byte 32 * i on
pub word_byte-drop : (words : List ℕ) (i m : ℕ) → word_byte (drop (8 * i) words) m ≡ word_byte words (32 * i + m)
word_byte-drop words i m = grind (arith, common_steps)

pub word_byte-part : (words : List ℕ) (i k m : ℕ) → m < 4 * k → word_byte (take k (drop (8 * i) words)) m ≡ word_byte words (32 * i + m)
word_byte-part words i k m h = ap (byte_at (m % 4)) (get_or-take k (drop (8 * i) words) (m / 4) 0 (omega arith)) ∙ word_byte-drop words i m

-- ---- the bytes of a vector of words, and a vector of bytes changed by them

byte_at-is : (i n : ℕ) → byte_at i n ≡ n / 256 ^ i % 256
byte_at-is i n = grind (arith, common_steps)

byte_of_lanes : (words : List ℕ) (j : ℕ) → ((k : ℕ) → Fits w32 (get_or words k 0)) → j < 32
    → get_or (digits_l 256 32 (number_l (2 ^ 32) (take 8 words))) j 0 ≡ word_byte words j
byte_of_lanes words j fits h =
    let small : Each1 (λ x. x < 2 ^ 32) (take 8 words) = below_from_Fits w32 _ (chunk-fits w32 0 8 words fits) in
    let place : 4 * (j / 4) + j % 4 ≡ j = omega arith in
    let at_place : get_or (digits_l 256 32 (number_l (2 ^ 32) (take 8 words))) j 0 ≡ get_or (digits_l 256 32 (number_l (2 ^ 32) (take 8 words)))
    (4 * (j / 4) + j % 4) 0 =
    ap (λ m. get_or (digits_l 256 32 (number_l (2 ^ 32) (take 8 words))) m 0) (sym place) in
    at_place ∙ get_or_narrower (2 ^ 32) 4 256 32 (take 8 words) (j / 4) (j % 4) refl small (omega arith) (omega arith)
    ∙ ap (λ w. w / 256 ^ (j % 4) % 256) (get_or-take 8 words (j / 4) 0 (omega arith)) ∙ sym (byte_at-is (j % 4) (get_or words (j / 4) 0))

pub lanes_xored : (text words bytes : List ℕ) → length text ≡ 32 → length words ≡ 8 → ((k : ℕ) → Fits w32 (get_or words k 0))
    → bytes ≡ digits_l 256 32 (number_l (2 ^ 32) (take 8 words))
    → IsXored (word_byte words) text (put_chunk 0 text (zip2 bit_xor (take 32 text) bytes))
lanes_xored text words bytes long eight fits e =
    let ys : List ℕ = zip2 bit_xor (take 32 text) bytes in
    let whole : take 32 text ≡ text = take_all 32 text (omega arith) in
    let width : length bytes ≡ 32 = ap length e in
    let front : length (take 32 text) ≡ 32 = ap length whole ∙ long in
    let len : length ys ≡ 32 = length-zip2 bit_xor (take 32 text) bytes (omega arith) ∙ front in
    let put : put_chunk 0 text ys ≡ ys = put_chunk_whole text ys (omega arith) in
    rw put (record {
      len = omega arith;
      at = λ j h.
          get_or-zip2 bit_xor (take 32 text) bytes j 0 0 0 (omega arith) (omega arith)
          ∙ ap₂ bit_xor (ap (λ t. get_or t j 0) whole) (ap (λ b. get_or b j 0) e ∙ byte_of_lanes words j fits (omega arith));
    })

-- ---- words drawn from the generator, and the keystream's bytes

-- the generator k words on, and its word there
unfoldable pub generator_on : ChaCha → ℕ → ChaCha
generator_on g k = record g { word_pos = (g.word_pos + k) % 2 ^ 68 }

unfoldable pub word_on : ChaCha → ℕ → ℕ
word_on g k = word_at 10 g.key g.stream ((g.word_pos + k) % 2 ^ 68)

pub word_drawn : (g now new : ChaCha) (x k : ℕ) → now ≡ generator_on g k → (x, new) ≡ next_word 10 now
    → (x ≡ word_on g k) × (new ≡ generator_on g (k + 1))
unfolding generator_on word_on
word_drawn g now new x k at gave = grind (arith, common_steps)

-- the first n words are drawn, and the generator is n words on
pub record IsDrawn (g : ChaCha) (n : ℕ) (words : List ℕ) (now : ChaCha) : Type 0 where
  pub drawn : (k : ℕ) → k < n → slice_index words k ≡ word_on g k
  pub generator : now ≡ generator_on g n

-- none yet, if the generator was set to a block's first word
pub drawn_none : (old now : ChaCha) (number place : ℕ) (words : List ℕ) → place ≡ 16 * number → now ≡ record old { word_pos = place % 2 ^ 68 }
    → IsDrawn (record old { word_pos = 16 * number }) 0 words now
unfolding generator_on
drawn_none old now number place words at e = grind (arith, common_steps)

-- m words more
pub drawn_more : (g now new : ChaCha) (n m w : ℕ) (words ys : List ℕ) → w ≡ m → length ys ≡ m → n + m ≤ length words
    → ((k : ℕ) → k < w → slice_index ys k ≡ word_at 10 now.key now.stream ((now.word_pos + k) % 2 ^ 68))
    → new ≡ record now { word_pos = (now.word_pos + w) % 2 ^ 68 } → IsDrawn g n words now → IsDrawn g (n + m) (put_mid n m words ys) new
unfolding generator_on word_on
drawn_more g now new n m w words ys width len room drew gave s = grind (arith, common_steps)

pub u32_at-lt : (bs : List ℕ) (i : ℕ) → ((k : ℕ) → slice_index bs k < 256) → u32_at bs i < 2 ^ 32
unfolding u32_at
u32_at-lt bs i h = omega (arith, h (4 * i), h (4 * i + 1), h (4 * i + 2), h (4 * i + 3))

-- byte m of the four blocks from block 4 * i on is the keystream's byte 256 * i + m
pub word_byte_is : (key nonce : List ℕ) (counter first i stream : ℕ) (seed words : List ℕ) (m : ℕ)
    → ((k : ℕ) → slice_index nonce k < 256) → 64 * counter + (256 * i + m) < 2 ^ 38 → m < 256
    → seed ≡ key_of key → stream ≡ stream_number nonce → 16 * first ≡ block_place nonce counter
    → ((k : ℕ) → k < 64 → slice_index words k ≡ word_at 10 seed stream ((16 * (first + 4 * i) + k) % 2 ^ 68))
    → word_byte words m ≡ keystream_byte key nonce counter (256 * i + m)
unfolding keystream_byte
word_byte_is key nonce counter first i stream seed words m fits room small key_is stream_is at drawn =
    grind (arith, common_steps, u32_at-lt)

pub ciphertext_is : (key nonce : List ℕ) (counter : ℕ) (old text : List ℕ) → IsXored (keystream_byte key nonce counter) old text
    → text ≡ ciphertext key nonce counter old
unfolding ciphertext
ciphertext_is key nonce counter old text x =
    fill_by_all (λ j. bit_xor (slice_index old j) (keystream_byte key nonce counter j)) text (length old) 0 x.len (λ k h. x.at k (omega arith))

-- ---- the keystream, compared with the block function of RFC 8439

-- the generator's last four words are the counter and the nonce
state_is : (key nonce : List ℕ) (counter place stream : ℕ) → ((k : ℕ) → slice_index nonce k < 256) → counter < 2 ^ 32
    → place ≡ counter + u32_at nonce 0 * 2 ^ 32 → stream ≡ stream_number nonce → initial_state (key_of key) place stream ≡ state key counter nonce
state_is key nonce counter place stream fits small at from = grind (arith, common_steps, u32_at-lt)

word_is : (key : List ℕ) (place stream k : ℕ) → block_word 10 key place stream k ≡ state_word (initial_state key place stream) k
unfolding block_word
word_is key place stream k = refl

pub keystream_of_blocks : (key nonce : List ℕ) (counter j : ℕ) → ((k : ℕ) → slice_index nonce k < 256) → counter + j / 64 < 2 ^ 32
    → keystream_byte key nonce counter j ≡ block_byte key (counter + j / 64) nonce (j % 64)
unfolding keystream_byte
keystream_of_blocks key nonce counter j fits small =
    let place : ℕ = (block_place nonce counter + j / 4) / 16 in
    let at : place ≡ counter + j / 64 + u32_at nonce 0 * 2 ^ 32 = omega arith in
    let word : (block_place nonce counter + j / 4) % 16 ≡ (j % 64) / 4 = omega arith in
    let byte : j % 4 ≡ (j % 64) % 4 = omega arith in
    rw (
      word_is (key_of key) place (stream_number nonce) ((block_place nonce counter + j / 4) % 16),
      state_is key nonce (counter + j / 64) place (stream_number nonce) fits small at refl,
      word,
      byte,
    ) refl
