-- Lists that are cut into chunks; the chunks of a text, and their sealings.
use Rattle.std.proofs.lemmas.Grind.{common_steps, flat_map-append}
use Rattle.std.proofs.Common.{◌≡◌, ℕ, ◌<◌, ◌≤◌, ◌+◌, ◌*◌, ◌-◌, ◌/◌, ap, sym, ◌∙◌, List, [], ◌∷◌, ◌++◌, length, take, drop, false, arith, inl, inr, zero, suc}
use Rattle.std.proofs.Common.{refl, subst, get_or, true, take-add}
use Rattle.std.specs.Prelude.{map, ◌==◌}
use Rattle.std.specs.List.{enumerate_from, flat_map, AllByRecursion}
use Rattle.std.specs.Simd.{first_chunks}
use Rattle.std.proofs.lemmas.List.{length-append, length-drop, drop-append-le, append-nil, map-append, drop_at, take_at, take-append-drop, get_or_append_left}
use Rattle.std.proofs.lemmas.List.{length_push, get_or_push, nil_from_length, drop-drop, append_assoc, length-take, get_or-map, length-map}
use Rattle.std.proofs.Math.Nat.{div-mul-le_self, le-div_iff_mul-le}
use Rattle.std.proofs.lemmas.Bool.{cases_lt, eq-eqb, ne_eqb}
use Rattle.std.proofs.lemmas.List.FromFn.{length-enumerate_from, get_or-enumerate_from}
use Rattle.age_chunk.specs.{Seals, last_index, last_chunk, sealed_before_last, block_bytes, pair, nonce_bytes, chunks, sealed, chunk_count}
use Rattle.age_chunk.proofs.{first_chunks-append, length-first_chunks}
use Rattle.age_stream.specs.{SealedGrows, AreChunks, ChunksAreOne, SealsChunks}

-- ---- A list that is cut.

abbrev flat : List (List ℕ) → List ℕ
flat parts = flat_map (λ (part : List ℕ). part) parts

pub first_chunks-add : (z q d : ℕ) (xs : List ℕ) → first_chunks z (q + d) xs ≡ first_chunks z q xs ++ first_chunks z d (drop (q * z) xs)
first_chunks-add z zero d xs =
    let a : 0 + d ≡ d = omega arith in
    let b : 0 ≡ 0 * z = omega arith in
    ap (λ (k : ℕ). first_chunks z k xs) a ∙ ap (λ (k : ℕ). first_chunks z d (drop k xs)) b
first_chunks-add z (suc q) d xs =
    let a : suc q + d ≡ suc (q + d) = omega arith in
    let e : z + q * z ≡ suc q * z = omega arith in
    ap (λ (k : ℕ). first_chunks z k xs) a
    ∙ ap (λ (cs : List (List ℕ)). take z xs ∷ cs)
    (first_chunks-add z q d (drop z xs) ∙ ap (λ (ys : List ℕ). first_chunks z q (drop z xs) ++ first_chunks z d ys) (drop-drop (q * z) z xs
    ∙ ap (λ (k : ℕ). drop k xs) e))

pub first_chunks-take : (n i d : ℕ) (xs : List ℕ) → take i (first_chunks n (i + d) xs) ≡ first_chunks n i xs
first_chunks-take n i d xs =
    ap (take i) (first_chunks-add n i d xs) ∙ take_at (first_chunks n i xs) (first_chunks n d (drop (i * n) xs)) i (length-first_chunks n i xs)

-- texts of n bytes each are the first chunks of what they join to
pub first_chunks-full : (n : ℕ) (ts : List (List ℕ)) (l : List ℕ) → AllByRecursion (λ (t : List ℕ). length t ≡ n) ts
    → first_chunks n (length ts) (flat_map (λ (t : List ℕ). t) ts ++ l) ≡ ts
first_chunks-full n [] l h = refl
first_chunks-full n (t ∷ ts) l h = grind (arith, common_steps, append_assoc, drop_at, take_at, first_chunks-full n ts l h.1)

pub flat_full : (n : ℕ) (ts : List (List ℕ)) → AllByRecursion (λ (t : List ℕ). length t ≡ n) ts → length (flat_map (λ (t : List ℕ). t) ts) ≡ length ts * n
flat_full n [] h = grind (arith, common_steps, length-append)
flat_full n (t ∷ ts) h = grind (arith, common_steps, length-append, flat_full n ts h.1)

pub flat_first : (n c : ℕ) (xs : List ℕ) → flat (first_chunks n c xs) ≡ take (c * n) xs
flat_first n zero xs = grind (arith, common_steps, take-add)
flat_first n (suc c) xs = grind (arith, common_steps, take-add, flat_first n c (drop n xs))

flat_push : (front : List (List ℕ)) (last : List ℕ) → flat (front ++ last ∷ []) ≡ flat front ++ last
flat_push front last = flat_map-append (λ (part : List ℕ). part) front (last ∷ []) ∙ ap (λ (ys : List ℕ). flat front ++ ys) (append-nil last)

pub all_full : (n c : ℕ) (xs : List ℕ) → c * n ≤ length xs → AllByRecursion (λ (x : List ℕ). length x ≡ n) (first_chunks n c xs)
all_full n zero xs h = tt
all_full n (suc c) xs h =
    let e : suc c * n ≡ c * n + n = omega arith in
    (omega (arith, length-take n xs, h, e), all_full n c (drop n xs) (omega (arith, length-drop n xs, h, e)))

-- ---- The last chunk of a text.

-- the last index, by its bounds
pub last_index_is : (m : ℕ) (text : List ℕ) (i : ℕ) → i * m ≤ length text - 1 → length text - 1 < (i + 1) * m → last_index m text ≡ i
last_index_is m text i low high = grind (arith, common_steps)

pub last_index_le : (m : ℕ) (text : List ℕ) → last_index m text * m ≤ length text - 1
last_index_le m text = div-mul-le_self (length text - 1) m

-- the last index is the one whose chunk the text ends in
pub text_le : (n : ℕ) (text : List ℕ) → 0 < n → length text ≤ (last_index n text + 1) * n
text_le n text positive = grind (arith, common_steps)

pub last_chunk_le : (n : ℕ) (text : List ℕ) → 0 < n → length (last_chunk n text) ≤ n
last_chunk_le n text positive = omega (arith, length-drop (last_index n text * n) text, text_le n text positive)

-- ---- The chunks of a text, each sealed at its number.

pub enumerate_from-append : {X : Type 0} (k : ℕ) (xs ys : List X) → enumerate_from k (xs ++ ys) ≡ enumerate_from k xs ++ enumerate_from (k + length xs) ys
enumerate_from-append k [] ys = grind (arith, common_steps)
enumerate_from-append {X} k (x ∷ xs) ys = grind (arith, common_steps, enumerate_from-append (k + 1) xs ys)

pub enumerate_from_more : {X : Type 0} (k : ℕ) (xs : List X) (x : X) → enumerate_from k (xs ++ x ∷ []) ≡ enumerate_from k xs ++ (k + length xs, x) ∷ []
enumerate_from_more k xs x = enumerate_from-append k xs (x ∷ [])

-- the pairs of a payload, by their numbers
module _ (sealing : Seals) (n : ℕ) (text : List ℕ) where
  abbrev q : ℕ
  q = last_index n text

  abbrev cs : List (List ℕ)
  cs = first_chunks n q text

  length-before_last : length (sealed_before_last sealing n text) ≡ q
  length-before_last = length-map (enumerate_from 0 cs) (pair sealing false) ∙ (length-enumerate_from 0 cs ∙ length-first_chunks n q text)

  pub length-sealed : length (sealed sealing n text) ≡ chunk_count n text
  length-sealed = grind (arith, common_steps, length-before_last, length_push)

  pub pair_before : (i : ℕ) (d : List ℕ × List ℕ) → i < q → get_or (sealed sealing n text) i d ≡ pair sealing false (i, get_or cs i [])
  pair_before i d lt =
      let size = length-first_chunks n q text in
      let z : 0 + i ≡ i = omega arith in
      get_or_append_left (sealed_before_last sealing n text) (pair sealing true (q, last_chunk n text) ∷ []) d i
      (omega (arith, lt, length-before_last))
      ∙ (get_or-map (pair sealing false) (enumerate_from 0 cs) i (0, []) d (omega (arith, lt, size, length-enumerate_from 0 cs))
      ∙ (ap (pair sealing false) (get_or-enumerate_from 0 cs i (0, []) (omega (arith, lt, size)))
      ∙ ap (λ (j : ℕ). pair sealing false (j, get_or cs i [])) z))

  pub pair_last : (i : ℕ) (d : List ℕ × List ℕ) → i ≡ q → get_or (sealed sealing n text) i d ≡ pair sealing true (q, last_chunk n text)
  pair_last i d is = grind (arith, common_steps, get_or_push, length-before_last)

  abbrev sealed_as : ℕ → List (List ℕ) → ℕ → List ℕ × List ℕ
  sealed_as count parts i = (nonce_bytes i (i + 1 == count), sealing (nonce_bytes i (i + 1 == count)) (get_or parts i []))

  count : length (chunks n text) ≡ q + 1
  count = length_push cs (last_chunk n text) ∙ ap (λ (k : ℕ). k + 1) (length-first_chunks n q text)

  pub sealed_at : (i : ℕ) → i < length (chunks n text) → get_or (sealed sealing n text) i ([], []) ≡ sealed_as (length (chunks n text)) (chunks n text) i
  sealed_at i below = grind (arith, common_steps, cases_lt, count, eq-eqb, get_or_append_left, get_or_push, ne_eqb, pair_before, pair_last)

module _ (n : ℕ) (text : List ℕ) (positive : 0 < n) where
  abbrev at : ℕ
  at = last_index n text

  low : at * n ≤ length text - 1
  low = last_index_le n text

  -- the one chunk of the empty text
  empty_chunks : length text ≡ 0 → chunks n text ≡ [] ∷ []
  empty_chunks none = grind (arith, common_steps)

  chunks_are : AreChunks n text (chunks n text)
  chunks_are =
      let fits : at * n ≤ length text = omega (arith, low) in
      let last = last_chunk n text in
      record {
        front = first_chunks n at text;
        last = last;
        are = refl;
        join = flat_push (first_chunks n at text) last ∙ (ap (λ (xs : List ℕ). xs ++ last) (flat_first n at text) ∙ take-append-drop (at * n) text);
        full = all_full n at text fits;
        rest = elim (cases_lt 0 (length last)) [
          | inl lt ↦ inl (lt, last_chunk_le n text positive)
          | inr le ↦
              (let none : length text ≡ 0 = omega (arith, le, low, length-drop (at * n) text) in
              inr (nil_from_length text none, empty_chunks none))
        ];
      }

  joined_are : (front : List (List ℕ)) (last : List ℕ) → flat front ++ last ≡ text → AllByRecursion (λ (part : List ℕ). length part ≡ n) front
      → 0 < length last → length last ≤ n → front ++ last ∷ [] ≡ chunks n text
  joined_are front last join full some most =
      grind (arith, common_steps, drop_at, first_chunks-full, flat_full, last_index_is, length-append)

  chunks_only : (parts : List (List ℕ)) → AreChunks n text parts → parts ≡ chunks n text
  chunks_only parts a = grind (arith, common_steps, flat_push, joined_are)

pub chunks_are_one : ChunksAreOne
chunks_are_one n text positive = (chunks_are n text positive, chunks_only n text positive)

pub seals_chunks : SealsChunks
seals_chunks sealing n text parts positive a =
    subst (λ (ps : List (List ℕ)). (length (sealed sealing n text) ≡ length ps)
    × ((i : ℕ) → i < length ps → get_or (sealed sealing n text) i ([], []) ≡ sealed_as sealing n text (length ps) ps i))
    (sym (chunks_only n text positive parts a)) (length-sealed sealing n text ∙ sym (count sealing n text), sealed_at sealing n text)

-- ---- A text that grows.

-- more bytes, after which this many chunks more stand before the last
module _ (m : ℕ) (text more : List ℕ) (d : ℕ) (at : last_index m (text ++ more) ≡ last_index m text + d) (sealing : Seals) where
  abbrev added : List (List ℕ × List ℕ)
  added = map (pair sealing false) (enumerate_from (last_index m text) (first_chunks m d (drop (last_index m text * m) (text ++ more))))

  before_last_on : sealed_before_last sealing m (text ++ more) ≡ sealed_before_last sealing m text ++ added
  before_last_on =
      let q = last_index m text in
      let front = first_chunks m q text in
      let next = first_chunks m d (drop (q * m) (text ++ more)) in
      let len : 0 + length front ≡ q = omega (arith, length-first_chunks m q text) in
      let cs : first_chunks m (last_index m (text ++ more)) (text ++ more) ≡ front ++ next =
      ap (λ (k : ℕ). first_chunks m k (text ++ more)) at
      ∙ (first_chunks-add m q d (text ++ more)
      ∙ ap (λ (cs : List (List ℕ)). cs ++ next) (first_chunks-append m q text more (omega (arith, last_index_le m text)))) in
      ap (λ (cs : List (List ℕ)). map (pair sealing false) (enumerate_from 0 cs)) cs
      ∙ (ap (map (pair sealing false)) (enumerate_from-append 0 front next ∙ ap (λ (k : ℕ). enumerate_from 0 front ++ enumerate_from k next) len)
      ∙ map-append (pair sealing false) (enumerate_from 0 front) (enumerate_from q next))

-- bytes that the last chunk has room for
module _ (m : ℕ) (positive : 0 < m) (text more : List ℕ) (room : length (last_chunk m text) + length more ≤ m) where
  pub grown_index : last_index m (text ++ more) ≡ last_index m text
  grown_index = grind (arith, common_steps)

  pub grown_blocks : (sealing : Seals) → sealed_before_last sealing m (text ++ more) ≡ sealed_before_last sealing m text
  grown_blocks sealing = before_last_on m text more 0 (omega (arith, grown_index)) sealing ∙ append-nil (sealed_before_last sealing m text)

-- a byte that the last chunk has no room for
module _ (m : ℕ) (positive : 0 < m) (text : List ℕ) (x : ℕ) (full : length (last_chunk m text) ≡ m) where
  whole : length text ≡ (last_index m text + 1) * m
  whole = grind (arith, common_steps)

  pub closed_index : last_index m (text ++ x ∷ []) ≡ last_index m text + 1
  closed_index = grind (arith, common_steps)

  pub closed_chunk : last_chunk m (text ++ x ∷ []) ≡ x ∷ []
  closed_chunk = ap (λ (k : ℕ). drop (k * m) (text ++ x ∷ [])) closed_index ∙ drop_at text (x ∷ []) ((last_index m text + 1) * m) whole

  pub closed_blocks : (sealing : Seals)
      → sealed_before_last sealing m (text ++ x ∷ []) ≡ sealed_before_last sealing m text ++ pair sealing false (last_index m text, last_chunk m text) ∷ []
  closed_blocks sealing =
      let i = last_index m text in
      let tail : take m (drop (i * m) (text ++ x ∷ [])) ≡ last_chunk m text =
      ap (take m) (drop-append-le (i * m) text (x ∷ []) (omega (arith, last_index_le m text))) ∙ take_at (last_chunk m text) (x ∷ []) m full in
      before_last_on m text (x ∷ []) 1 closed_index sealing
      ∙ ap (λ (c : List ℕ). sealed_before_last sealing m text ++ pair sealing false (i, c) ∷ []) tail

pub sealed_grows : SealedGrows
sealed_grows sealing n text more positive =
    let q = last_index n text in
    let le : q ≤ (length (text ++ more) - 1) / n = (le-div_iff_mul-le positive).1 (omega (arith, last_index_le n text, length-append text more)) in
    let d = last_index n (text ++ more) - q in
    let at : last_index n (text ++ more) ≡ q + d = omega (arith, le) in
    let next = added n text more d at sealing in (
      block_bytes next,
      sym (ap block_bytes (before_last_on n text more d at sealing)
          ∙ flat_map-append (λ (p : List ℕ × List ℕ). p.1) (sealed_before_last sealing n text) next),
    )
