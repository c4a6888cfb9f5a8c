-- The two loops of ROMix, and the words of its bytes.
use Rattle.std.proofs.lemmas.Grind.{common_steps}
use Rattle.std.proofs.Common.{◌≡◌, ◌++◌, ◌+◌, ◌-◌, ◌*◌, ◌/◌, ◌%◌, ◌^◌, ◌<◌, ◌≤◌, ℕ, List, length, take, drop, get_or, sym, ap, ◌∙◌, arith}
use Rattle.std.specs.Int.{w32, from_le_bytes}
use Rattle.std.proofs.Math.Nat.{add-mul-mod_self_left, mul_assoc, div-add-mod, mul-mod_left, pow-le-pow_right}
use Rattle.std.proofs.Math.Seq.{drop-cons}
use Rattle.std.proofs.lemmas.List.FromFn.{fill_by_all}
use Rattle.std.proofs.lemmas.Nat.{pow-add}
use Rattle.byteorder.specs.Endian.{little_number, IsRead}
use Rattle.age_scrypt.specs.{part, v_block, number, integerify, word_at, words_of}
use Rattle.age_scrypt.specs.inner.{IsTable, IsTurned}
use Rattle.age_scrypt.proofs.PartLemmas.{part-append_left, part-append_right}

-- ---- steps of ROMix's two loops

-- a number that 2 ^ 32 is a multiple of sees the lowest word alone
mod_of_low : (w rest n : ℕ) → 2 ^ 32 % n ≡ 0 → (w + 2 ^ 32 * rest) % n ≡ w % n
mod_of_low w rest n h =
    let q : ℕ = 2 ^ 32 / n in
    let whole : 2 ^ 32 ≡ n * q = omega (arith, div-add-mod (2 ^ 32) n) in
    let e : 2 ^ 32 * rest ≡ n * (q * rest) = ap (λ y. y * rest) whole ∙ mul_assoc n q rest in
    rw e (add-mul-mod_self_left w n (q * rest))

pub integerify_mod : (x : List ℕ) (n : ℕ) → length x ≡ 256 → 2 ^ 32 % n ≡ 0 → get_or x 240 0 % n ≡ integerify x % n
unfolding integerify number part
integerify_mod x n len h = rw (drop-cons x 240 0 (omega arith)) (sym (mod_of_low (get_or x 240 0) _ n h))

pub power_few : (log : ℕ) → log ≤ 22 → 2 ^ log ≤ 2 ^ 22
power_few log h = pow-le-pow_right {n = 2} (omega arith) {i = log} {j = 22} h

pub power_divides : (log : ℕ) → log ≤ 22 → 2 ^ 32 % 2 ^ log ≡ 0
power_divides log h =
    let split : 32 - log + log ≡ 32 = omega arith in
    let e : 2 ^ 32 ≡ 2 ^ (32 - log) * 2 ^ log = ap (λ k. 2 ^ k) (sym split) ∙ pow-add 2 (32 - log) log in
    ap (λ y. y % 2 ^ log) e ∙ mul-mod_left (2 ^ (32 - log)) (2 ^ log)

-- one more block of the table
pub table_more : (b : List ℕ) (i : ℕ) (table x : List ℕ) → length table ≡ 256 * i → length x ≡ 256 → IsTable b i table
    → IsTurned (v_block b i) x → IsTable b (i + 1) (table ++ x)
table_more b i table x len x_len t e = grind (arith, common_steps, part-append_left, part-append_right)

-- the block of the table that a turned block asks for
pub table_at : (n : ℕ) (b table x : List ℕ) (at : ℕ) → IsTable b n table → 0 < n → at ≡ integerify x % n
    → IsTurned (v_block b (integerify x % n)) (part 256 table at)
table_at n b table x at t some place = grind (arith, common_steps)

-- ---- words read from bytes

-- the number that the first four bytes spell
number_is : (xs : List ℕ) → little_number 4 xs ≡ from_le_bytes w32 (take 4 xs)
number_is xs = grind (arith, common_steps)

pub words_all : (bytes words : List ℕ) → length bytes ≡ 1024 → length words ≡ 256 → IsRead little_number 4 bytes words → words ≡ words_of bytes
unfolding word_at words_of part
words_all bytes words lb lw read =
    let count : length bytes / 4 ≡ 256 = omega arith in
    rw count (fill_by_all (λ k. word_at bytes k) words 256 0 lw (λ k below. read k (omega arith) ∙ number_is (drop (4 * k) bytes)))
