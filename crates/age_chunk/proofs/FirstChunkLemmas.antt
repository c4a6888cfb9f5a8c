-- The first chunks of a list, and of the list with more after it.
use Rattle.std.proofs.lemmas.Grind.{common_steps}
use Rattle.std.proofs.Common.{◌≡◌, ℕ, zero, suc, ◌<◌, ◌≤◌, ◌+◌, ◌*◌, refl, ap, ◌∙◌, List, [], ◌∷◌, ◌++◌, length, take, drop, get_or, arith}
use Rattle.std.specs.Simd.{first_chunks}
use Rattle.std.proofs.lemmas.List.{drop-drop, length-drop, drop-append-le, take-append-le}

pub length-first_chunks : (n c : ℕ) (xs : List ℕ) → length (first_chunks n c xs) ≡ c
length-first_chunks n zero xs = refl
length-first_chunks n (suc c) xs = ap (λ (k : ℕ). suc k) (length-first_chunks n c (drop n xs))

pub get_or-first_chunks : (n c : ℕ) (xs : List ℕ) (j : ℕ) (d : List ℕ) → j < c → get_or (first_chunks n c xs) j d ≡ take n (drop (j * n) xs)
get_or-first_chunks n zero xs j d h = absurd (omega arith)
get_or-first_chunks n (suc c) xs zero d h = let z : 0 ≡ 0 * n = omega arith in ap (λ (k : ℕ). take n (drop k xs)) z
get_or-first_chunks n (suc c) xs (suc j) d h =
    get_or-first_chunks n c (drop n xs) j d (omega arith) ∙ ap (take n) (drop-drop (j * n) n xs ∙ ap (λ (k : ℕ). drop k xs) (omega arith))

pub first_chunks_more : (n c : ℕ) (xs : List ℕ) → first_chunks n (suc c) xs ≡ first_chunks n c xs ++ take n (drop (c * n) xs) ∷ []
first_chunks_more n zero xs = grind (arith, common_steps, drop-drop)
first_chunks_more n (suc c) xs = grind (arith, common_steps, drop-drop, first_chunks_more n c (drop n xs))

pub first_chunks-append : (n c : ℕ) (xs ys : List ℕ) → c * n ≤ length xs → first_chunks n c (xs ++ ys) ≡ first_chunks n c xs
first_chunks-append n zero xs ys h = refl
first_chunks-append n (suc c) xs ys h =
    let e : suc c * n ≡ c * n + n = omega arith in
    let one : n ≤ length xs = omega (arith, h, e) in
    let rest : c * n ≤ length (drop n xs) = omega (arith, h, e, length-drop n xs) in
    ap (λ (x : List ℕ). x ∷ first_chunks n c (drop n (xs ++ ys))) (take-append-le n xs ys one)
    ∙ ap (λ (cs : List (List ℕ)). take n xs ∷ cs) (ap (first_chunks n c) (drop-append-le n xs ys one) ∙ first_chunks-append n c (drop n xs) ys rest)
