-- Salsa20/8 on vectors of four words, which are the diagonals of sixteen.
use Rattle.std.proofs.lemmas.Grind.{common_steps}
use Rattle.std.proofs.Common.{◌≡◌, ℕ, ◌-◌, ◌*◌, ◌/◌, ◌%◌, ◌^◌, ◌<◌, List, [], ◌∷◌, ◌++◌, length, map, bit_or, bit_xor, refl, ap, zero, suc, arith}
use Rattle.std.specs.Int.{w32, rotate_left}
use Rattle.std.specs.Simd.Lanes.{zip2}
use Rattle.std.proofs.lemmas.Simd.{length-zip2}
use Rattle.std.proofs.lemmas.List.{length-append}
use Rattle.age_scrypt.specs.{Part, add32, quarter, columns, rows, double_rounds}
use Rattle.age_scrypt.specs.inner.{quarters, transpose, words, at_places, IsRows, IsDiagonals}

-- ---- vectors of four words

-- two shifts and an or are a rotation
pub shifts_rotate : (k : ℕ) → 0 < k → k < 32 → (words : List ℕ) → length words ≡ 4
    → zip2 bit_or (zip2 (λ x by. x * 2 ^ by % 2 ^ 32) words (k ∷ k ∷ k ∷ k ∷ []))
    (zip2 (λ x by. x / 2 ^ by) words ((32 - k) ∷ (32 - k) ∷ (32 - k) ∷ (32 - k) ∷ [])) ≡ map (λ x. rotate_left w32 x k) words
shifts_rotate k some below (p ∷ q ∷ r ∷ s ∷ []) len =
    let left : k % 32 ≡ k = omega arith in
    let right : (32 - k) % 32 ≡ 32 - k = omega arith in
    rw (left, right) refl
shifts_rotate k some below words len = absurd (omega arith)

-- b xor the sum of x and y, rotated, on vectors
abbrev pub xor_rotated_lanes : List ℕ → List ℕ → List ℕ → ℕ → List ℕ
xor_rotated_lanes b x y k = zip2 bit_xor b (map (λ sum. rotate_left w32 sum k) (zip2 add32 x y))

-- a quarter round on each lane, as it is computed on vectors
pub quarter_lanes : (a b c d a' b' c' d' : List ℕ) → length a ≡ 4 → length b ≡ 4 → length c ≡ 4 → length d ≡ 4
    → b' ≡ xor_rotated_lanes b a d 7 → c' ≡ xor_rotated_lanes c b' a 9 → d' ≡ xor_rotated_lanes d c' b' 13 → a' ≡ xor_rotated_lanes a d' c' 18
    → (a' ≡ map (λ q. q.0) (quarters a b c d)) × (b' ≡ map (λ q. q.1) (quarters a b c d)) × (c' ≡ map (λ q. q.2) (quarters a b c d))
    × (d' ≡ map (λ q. q.3) (quarters a b c d))
unfolding quarter
quarter_lanes (a0 ∷ a1 ∷ a2 ∷ a3 ∷ []) (b0 ∷ b1 ∷ b2 ∷ b3 ∷ []) (c0 ∷ c1 ∷ c2 ∷ c3 ∷ []) (d0 ∷ d1 ∷ d2 ∷ d3 ∷ []) a' b' c' d' _ _ _ _ second third fourth first =
    rw (first, fourth, third, second) (refl, refl, refl, refl)
quarter_lanes a b c d a' b' c' d' a_len b_len c_len d_len second third fourth first = absurd (omega arith)

-- the rows are the columns of the transpose
pub transpose-columns_of-transpose : (x : List ℕ) → length x ≡ 16 → transpose (columns (transpose x)) ≡ rows x
unfolding transpose columns rows
transpose-columns_of-transpose (x0 ∷ x1 ∷ x2 ∷ x3 ∷ x4 ∷ x5 ∷ x6 ∷ x7 ∷ x8 ∷ x9 ∷ x10 ∷ x11 ∷ x12 ∷ x13 ∷ x14 ∷ x15 ∷ []) len = refl
transpose-columns_of-transpose x len = absurd (omega arith)

pub length-columns : (x : List ℕ) → length x ≡ 16 → length (columns x) ≡ 16
unfolding columns
length-columns x h = grind (arith, common_steps)

pub length-rows : (x : List ℕ) → length x ≡ 16 → length (rows x) ≡ 16
unfolding rows
length-rows x h = grind (arith, common_steps)

pub length-double_rounds : (n : ℕ) (x : List ℕ) → length x ≡ 16 → length (double_rounds n x) ≡ 16
unfolding double_rounds
length-double_rounds zero x len = len
length-double_rounds (suc n) x len = length-rows _ (length-columns _ (length-double_rounds n x len))

pub length-transpose : (x : List ℕ) → length (transpose x) ≡ 16
unfolding transpose
length-transpose x = refl

-- ---- rounds on the diagonals of sixteen words

-- the quarter rounds on the lanes of the diagonals are those of the columns
pub columns_on_diagonals : (x : List ℕ) (p q : Part) → length x ≡ 16 → IsDiagonals x p → q.a ≡ map (λ q. q.0) (quarters p.a p.b p.c p.d)
    → q.b ≡ map (λ q. q.1) (quarters p.a p.b p.c p.d) → q.c ≡ map (λ q. q.2) (quarters p.a p.b p.c p.d)
    → q.d ≡ map (λ q. q.3) (quarters p.a p.b p.c p.d) → IsDiagonals (columns x) q
unfolding columns
columns_on_diagonals (x0 ∷ x1 ∷ x2 ∷ x3 ∷ x4 ∷ x5 ∷ x6 ∷ x7 ∷ x8 ∷ x9 ∷ x10 ∷ x11 ∷ x12 ∷ x13 ∷ x14 ∷ x15 ∷ []) p q len h a b c d = record {
  a = rw (h.a, h.b, h.c, h.d) at a;
  b = rw (h.a, h.b, h.c, h.d) at b;
  c = rw (h.a, h.b, h.c, h.d) at c;
  d = rw (h.a, h.b, h.c, h.d) at d;
}
columns_on_diagonals x p q len h a b c d = absurd (omega arith)

-- an operation on two parts is one on each pair of their vectors
zip2-append : (f : ℕ → ℕ → ℕ) (xs ys us vs : List ℕ) → length xs ≡ length us → zip2 f (xs ++ ys) (us ++ vs) ≡ zip2 f xs us ++ zip2 f ys vs
zip2-append f [] ys [] vs len = refl
zip2-append f [] ys (u ∷ us) vs len = absurd (omega arith)
zip2-append f (x ∷ xs) ys [] vs len = absurd (omega arith)
zip2-append f (x ∷ xs) ys (u ∷ us) vs len = ap (λ rest. f x u ∷ rest) (zip2-append f xs ys us vs (omega arith))

pub zip2_words : (f : ℕ → ℕ → ℕ) (p q : Part) → zip2 f (words p) (words q) ≡ zip2 f p.a q.a ++ zip2 f p.b q.b ++ zip2 f p.c q.c ++ zip2 f p.d q.d
zip2_words f p q = grind (arith, common_steps, length-append, zip2-append)

-- an operation on two vectors keeps their length
pub ruleset vector_lengths = (length-zip2)

record FourRows (a b c d : List ℕ) : Type 0 where
  pub first : a ≡ at_places (a ++ b ++ c ++ d) 0 1 2 3
  pub second : b ≡ at_places (a ++ b ++ c ++ d) 4 5 6 7
  pub third : c ≡ at_places (a ++ b ++ c ++ d) 8 9 10 11
  pub fourth : d ≡ at_places (a ++ b ++ c ++ d) 12 13 14 15

four_rows : (a b c d : List ℕ) → length a ≡ 4 → length b ≡ 4 → length c ≡ 4 → length d ≡ 4 → FourRows a b c d
four_rows (a0 ∷ a1 ∷ a2 ∷ a3 ∷ []) (b0 ∷ b1 ∷ b2 ∷ b3 ∷ []) (c0 ∷ c1 ∷ c2 ∷ c3 ∷ []) (d0 ∷ d1 ∷ d2 ∷ d3 ∷ []) _ _ _ _ = record { first = refl; second = refl; third = refl; fourth = refl }
four_rows a b c d a_len b_len c_len d_len = absurd (omega arith)

-- the vectors of a part are the rows of its words
pub rows_of_words : (p : Part) → IsRows (words p) p
rows_of_words p =
    let are = four_rows p.a p.b p.c p.d p.a_len p.b_len p.c_len p.d_len in
    record { a = are.first; b = are.second; c = are.third; d = are.fourth }

pub words_of_rows : (x : List ℕ) (p : Part) → length x ≡ 16 → IsRows x p → words p ≡ x
words_of_rows (x0 ∷ x1 ∷ x2 ∷ x3 ∷ x4 ∷ x5 ∷ x6 ∷ x7 ∷ x8 ∷ x9 ∷ x10 ∷ x11 ∷ x12 ∷ x13 ∷ x14 ∷ x15 ∷ []) p len h = rw (h.a, h.b, h.c, h.d) refl
words_of_rows x p len h = absurd (omega arith)
