-- Bytes that were cut in two.
use Rattle.std.proofs.Common.{◌≡◌, ℕ, ◌≤◌, List, ◌++◌, length, take, drop, sym, ap, ap₂, ◌∙◌, take-append-drop, arith}
use Rattle.std.proofs.lemmas.List.{length-take}

pub cut_in_two : (n : ℕ) (xs front rest : List ℕ) → front ≡ take n xs → rest ≡ drop n xs → xs ≡ front ++ rest
cut_in_two n xs front rest a b = sym (take-append-drop n xs) ∙ ap₂ (λ (s t : List ℕ). s ++ t) (sym a) (sym b)

pub front_length : (n : ℕ) (xs front : List ℕ) → front ≡ take n xs → n ≤ length xs → length front ≡ n
front_length n xs front a h = omega (arith, ap length a, length-take n xs, h)
