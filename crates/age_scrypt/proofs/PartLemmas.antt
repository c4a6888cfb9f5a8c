-- A block in its parts, each kept as its rows or turned into its diagonals.
use Rattle.std.proofs.lemmas.Grind.{common_steps}
use Rattle.std.proofs.Common.{◌≡◌, ◌≢◌, ◌++◌, ◌+◌, ◌*◌, ◌<◌, ◌≤◌, ℕ, zero, suc, List, [], ◌∷◌, bit_xor, refl, sym, ap, ◌∙◌, arith, length, take, drop}
use Rattle.std.proofs.Common.{length-take, length-drop, inl, inr, ◌/◌, ◌%◌, get_or}
use Rattle.std.specs.List.{flat_map}
use Rattle.std.specs.Simd.Lanes.{zip2}
use Rattle.std.proofs.Math.Nat.{mul-le-mul_left}
use Rattle.std.proofs.Math.Seq.{take-add, drop-append-add}
use Rattle.std.proofs.lemmas.Bool.{cases_lt}
use Rattle.std.proofs.lemmas.List.{drop-take, drop-drop, take_at, drop_at, length-append, take_all, get_or-drop, get_or-take, ext_get_or}
use Rattle.std.proofs.lemmas.Simd.{length-zip2}
use Rattle.std.proofs.lemmas.Slice.{take-put_mid_below, drop-put_mid}
use borrow.Rule.Slice.PartMut.{put_mid}
use Rattle.age_scrypt.specs.{Part, part, xor_words, salsa20_8, x_part, block_mix}
use Rattle.age_scrypt.specs.inner.{words, at_places, IsDiagonals, turned, IsTurned}
use Rattle.age_scrypt.proofs.SalsaLemmas.{length-double_rounds, rows_of_words}

-- ---- a list cut into parts of k: what a write to one part leaves, and the list as its parts joined

-- a part ends where the next begins
next_part : (k i j : ℕ) → i < j → k * i + k ≤ k * j
next_part k i j h = omega (arith, mul-le-mul_left {m = i + 1} {n = j} k (omega arith))

-- w is the width as the goal writes it
pub part-put_here : (k w : ℕ) (xs ys : List ℕ) (i : ℕ) → w ≡ k → k * i + k ≤ length xs → length ys ≡ k → part k (put_mid (k * i) w xs ys) i ≡ ys
unfolding part
part-put_here k w xs ys i e room len = grind (arith, common_steps)

pub part-put_other : (k w : ℕ) (xs ys : List ℕ) (i j : ℕ) → w ≡ k → k * i + k ≤ length xs → length ys ≡ k → j ≢ i → part k (put_mid (k * i) w xs ys) j
    ≡ part k xs j
unfolding part
part-put_other k w xs ys i j e room len ne =
    elim (cases_lt i j) [
      | inl above ↦
          ap (take k) (drop-put_mid (k * i) w xs ys (k * j) (omega (arith, next_part k i j above)) (omega arith) (omega arith))
      | inr notabove ↦
          let below : j < i = omega arith in
          sym (drop-take (k * j) k (put_mid (k * i) w xs ys)) ∙ ap (drop (k * j))
          (take-put_mid_below (k * i) w xs ys (k * j + k) (next_part k j i below) (omega arith)) ∙ drop-take (k * j) k xs
    ]

-- word k of a list stands in its part k / 16
get_or-part : (xs : List ℕ) (k : ℕ) → get_or xs k 0 ≡ get_or (part 16 xs (k / 16)) (k % 16) 0
unfolding part
get_or-part xs k =
    let place : 16 * (k / 16) + k % 16 ≡ k = omega arith in
    sym (get_or-take 16 (drop (16 * (k / 16)) xs) (k % 16) 0 (omega arith) ∙ get_or-drop (16 * (k / 16)) xs (k % 16) 0 ∙ ap (λ j. get_or xs j 0) place)

-- four rows of four, one after the other, are sixteen words
pub rows_read : (block : List ℕ) (at : ℕ) → take 4 (drop at block) ++ take 4 (drop (at + 4) block) ++ take 4 (drop (at + 8) block)
    ++ take 4 (drop (at + 12) block) ≡ take 16 (drop at block)
rows_read block at =
    let rest : List ℕ = drop at block in
    rw (← drop-drop 4 at block, ← drop-drop 8 at block, ← drop-drop 12 at block) (
    sym (take-add 12 4 rest ∙ ap (λ front. front ++ take 4 (drop 12 rest)) (take-add 8 4 rest
    ∙ ap (λ front. front ++ take 4 (drop 8 rest)) (take-add 4 4 rest)))
    )

-- four rows that were written one after the other over sixteen words
pub rows_written : (o b1 b2 b3 b4 p q r s : List ℕ) → length o ≡ 16 → length p ≡ 4 → length q ≡ 4 → length r ≡ 4 → length s ≡ 4
    → b1 ≡ take 0 o ++ p ++ drop 4 o → b2 ≡ take 4 b1 ++ q ++ drop 8 b1 → b3 ≡ take 8 b2 ++ r ++ drop 12 b2 → b4 ≡ take 12 b3 ++ s ++ drop 16 b3
    → b4 ≡ p ++ q ++ r ++ s
rows_written (o0 ∷ o1 ∷ o2 ∷ o3 ∷ o4 ∷ o5 ∷ o6 ∷ o7 ∷ o8 ∷ o9 ∷ o10 ∷ o11 ∷ o12 ∷ o13 ∷ o14 ∷ o15 ∷ []) b1 b2 b3 b4
    (p0 ∷ p1 ∷ p2 ∷ p3 ∷ []) (q0 ∷ q1 ∷ q2 ∷ q3 ∷ []) (r0 ∷ r1 ∷ r2 ∷ r3 ∷ []) (s0 ∷ s1 ∷ s2 ∷ s3 ∷ []) _ _ _ _ _ e1 e2 e3 e4 =
    rw (e4, e3, e2, e1) refl
rows_written o b1 b2 b3 b4 p q r s o_len p_len q_len r_len s_len e1 e2 e3 e4 = absurd (omega arith)

take-zip2 : (f : ℕ → ℕ → ℕ) (n : ℕ) (xs ys : List ℕ) → take n (zip2 f xs ys) ≡ zip2 f (take n xs) (take n ys)
take-zip2 f zero xs ys = refl
take-zip2 f (suc n) [] ys = refl
take-zip2 f (suc n) (x ∷ xs) [] = refl
take-zip2 f (suc n) (x ∷ xs) (y ∷ ys) = ap (λ rest. f x y ∷ rest) (take-zip2 f n xs ys)

drop-zip2 : (f : ℕ → ℕ → ℕ) (n : ℕ) (xs ys : List ℕ) → length xs ≡ length ys → drop n (zip2 f xs ys) ≡ zip2 f (drop n xs) (drop n ys)
drop-zip2 f zero xs ys len = refl
drop-zip2 f (suc n) [] ys len = refl
drop-zip2 f (suc n) (x ∷ xs) [] len = absurd (omega arith)
drop-zip2 f (suc n) (x ∷ xs) (y ∷ ys) len = drop-zip2 f n xs ys (omega arith)

pub part-xor : (x y : List ℕ) → length x ≡ length y → (j : ℕ) → part 16 (xor_words x y) j ≡ xor_words (part 16 x j) (part 16 y j)
unfolding part
part-xor x y same_len j = ap (take 16) (drop-zip2 bit_xor (16 * j) x y same_len) ∙ take-zip2 bit_xor 16 (drop (16 * j) x) (drop (16 * j) y)

-- two blocks with the same parts
pub same_parts : (x y : List ℕ) → length x ≡ 256 → length y ≡ 256 → ((i : ℕ) → i < 16 → part 16 x i ≡ part 16 y i) → x ≡ y
same_parts x y x_len y_len h = ext_get_or 0 x y (x_len ∙ sym y_len) (λ k below.
    get_or-part x k ∙ ap (λ p. get_or p (k % 16) 0) (h (k / 16) (omega arith)) ∙ sym (get_or-part y k))

-- a block is the exclusive or of two others if each of its parts is
pub xored_parts : (x y to : List ℕ) → length x ≡ 256 → length y ≡ 256 → length to ≡ 256
    → ((j : ℕ) → j < 16 → part 16 to j ≡ xor_words (part 16 x j) (part 16 y j)) → to ≡ xor_words x y
xored_parts x y to x_len y_len to_len h = grind (arith, common_steps, length-zip2, part-xor, same_parts)

pub part-append_left : (k : ℕ) (xs ys : List ℕ) (j : ℕ) → k * j + k ≤ length xs → part k (xs ++ ys) j ≡ part k xs j
unfolding part
part-append_left k xs ys j room = grind (arith, common_steps)

pub part-append_right : (k : ℕ) (xs ys : List ℕ) (i : ℕ) → length xs ≡ k * i → length ys ≡ k → part k (xs ++ ys) i ≡ ys
unfolding part
part-append_right k xs ys i len ys_len = ap (take k) (drop_at xs ys (k * i) len) ∙ take_all k ys (omega arith)

-- ---- parts that are kept as their diagonals

-- an operation on turned words is the turned result
pub zip2-turned : (f : ℕ → ℕ → ℕ) (x y : List ℕ) → length x ≡ 16 → length y ≡ 16 → zip2 f (turned x) (turned y) ≡ turned (zip2 f x y)
unfolding turned
zip2-turned f (x0 ∷ x1 ∷ x2 ∷ x3 ∷ x4 ∷ x5 ∷ x6 ∷ x7 ∷ x8 ∷ x9 ∷ x10 ∷ x11 ∷ x12 ∷ x13 ∷ x14 ∷ x15 ∷ []) (y0 ∷ y1 ∷ y2 ∷ y3 ∷ y4 ∷ y5 ∷ y6 ∷ y7 ∷ y8 ∷ y9 ∷ y10 ∷ y11 ∷ y12 ∷ y13 ∷ y14 ∷ y15 ∷ []) x_len y_len = refl
zip2-turned f x y x_len y_len = absurd (omega arith)

pub diagonals_of_words : (x : List ℕ) (p : Part) → words p ≡ turned x → IsDiagonals x p
unfolding turned
diagonals_of_words x p e =
    let are = rows_of_words p in
    record {
      a = are.a ∙ ap (λ w. at_places w 0 1 2 3) e;
      b = are.b ∙ ap (λ w. at_places w 4 5 6 7) e;
      c = are.c ∙ ap (λ w. at_places w 8 9 10 11) e;
      d = are.d ∙ ap (λ w. at_places w 12 13 14 15) e;
    }

pub words_of_diagonals : (x : List ℕ) (p : Part) → IsDiagonals x p → words p ≡ turned x
unfolding turned
words_of_diagonals x p h = rw (h.a, h.b, h.c, h.d) refl

pub length-part : (b : List ℕ) (i : ℕ) → length b ≡ 256 → i < 16 → length (part 16 b i) ≡ 16
unfolding part
length-part b i len below = omega (arith, length-take 16 (drop (16 * i) b), length-drop (16 * i) b)

length-salsa20_8 : (x : List ℕ) → length x ≡ 16 → length (salsa20_8 x) ≡ 16
unfolding salsa20_8
length-salsa20_8 x len = grind (arith, common_steps, length-double_rounds, length-zip2)

pub length-chained : (b : List ℕ) (i : ℕ) → length b ≡ 256 → i ≤ 16 → length (x_part b i) ≡ 16
unfolding x_part
length-chained b zero len below = length-part b 15 len (omega arith)
length-chained b (suc i) len below =
    let x = length-chained b i len (omega arith) in
    let y = length-part b i len (omega arith) in
    length-salsa20_8 _ (length-zip2 bit_xor (x_part b i) (part 16 b i) (x ∙ sym y) ∙ x)

-- pieces of sixteen, joined
part_after : (xs ys : List ℕ) (i : ℕ) → length xs ≡ 16 → part 16 (xs ++ ys) (suc i) ≡ part 16 ys i
unfolding part
part_after xs ys i len = grind (arith, common_steps, drop-append-add)

part-pieces : (f : ℕ → List ℕ) (xs : List ℕ) → ((m : ℕ) → m < length xs → length (f (get_or xs m 0)) ≡ 16) → (i : ℕ) → i < length xs
    → part 16 (flat_map f xs) i ≡ f (get_or xs i 0)
unfolding part
part-pieces f [] len i below = absurd (omega arith)
part-pieces f (x ∷ xs) len zero below = take_at (f x) (flat_map f xs) 16 (len 0 (omega arith))
part-pieces f (x ∷ xs) len (suc i) below =
    part_after (f x) (flat_map f xs) i (len 0 (omega arith)) ∙ part-pieces f xs (λ m h. len (suc m) (omega arith)) i (omega arith)

length-pieces : (f : ℕ → List ℕ) (xs : List ℕ) → ((m : ℕ) → m < length xs → length (f (get_or xs m 0)) ≡ 16) → length (flat_map f xs) ≡ 16 * length xs
length-pieces f [] len = refl
length-pieces f (x ∷ xs) len =
    omega (arith, length-append {A = ℕ}, len 0 (omega arith), length-pieces f xs (λ m h. len (suc m) (omega arith)))

-- the parts in the order of the outputs
abbrev order : List ℕ
order = 0 ∷ 2 ∷ 4 ∷ 6 ∷ 8 ∷ 10 ∷ 12 ∷ 14 ∷ 1 ∷ 3 ∷ 5 ∷ 7 ∷ 9 ∷ 11 ∷ 13 ∷ 15 ∷ []

-- which output stands at place i, and that its place is i
in_order : (i : ℕ) → i < 16 → (get_or order i 0 < 16) × (get_or order i 0 / 2 + get_or order i 0 % 2 * 8 ≡ i)
in_order i below = grind (arith, common_steps)

lengths_of_outputs : (b : List ℕ) → length b ≡ 256 → (m : ℕ) → m < 16 → length (x_part b (get_or order m 0 + 1)) ≡ 16
lengths_of_outputs b len m below = grind (arith, common_steps, in_order, length-chained)

-- outputs that are turned, each at its place, are the turned block
pub mixed_turned : (b to : List ℕ) → length b ≡ 256 → ((j : ℕ) → j < 16 → part 16 to (j / 2 + j % 2 * 8) ≡ turned (x_part b (j + 1)))
    → IsTurned (block_mix b) to
unfolding block_mix
mixed_turned b to len h =
    let f : ℕ → List ℕ = λ j. x_part b (j + 1) in
    record {
      len = length-pieces f order (lengths_of_outputs b len);
      at = λ i below.
          let placed = in_order i below in
          ap (part 16 to) (sym placed.1) ∙ h (get_or order i 0) placed.0 ∙ ap turned (sym (part-pieces f order (lengths_of_outputs b len) i below));
    }

pub xor_turned : (a b x y : List ℕ) → IsTurned a x → IsTurned b y → length x ≡ 256 → length y ≡ 256 → IsTurned (xor_words a b) (xor_words x y)
xor_turned a b x y s t x_len y_len = grind (arith, common_steps, length-part, length-zip2, part-xor, zip2-turned)

-- the first word of the last part stays in its place
pub word_240 : (b y : List ℕ) → IsTurned b y → get_or y 240 0 ≡ get_or b 240 0
unfolding turned
word_240 b y t = get_or-part y 240 ∙ ap (λ x. get_or x 0 0) (t.at 15 (omega arith)) ∙ sym (get_or-part b 240)

-- what a write to one part leaves
pub ruleset parts_put = (part-put_here, part-put_other)
