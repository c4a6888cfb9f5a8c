-- The characters of a work factor, and their number.
use Rattle.std.proofs.lemmas.Grind.{common_steps}
use Rattle.std.proofs.lemmas.Bool.Decides.{nat_tests}
use Rattle.std.proofs.Common.{◌≡◌, ℕ, ◌+◌, ◌-◌, ◌*◌, ◌<◌, ◌≤◌, true, List, [], ◌∷◌, length, get_or, take, min, ap, arith, rules}
use Rattle.std.specs.Char.{is_ascii_digit, digit_value}
use Rattle.std.specs.Int.{IsInRange}
use Rattle.std.specs.List.{list_all}
use Rattle.std.specs.Str.Parse.{AllDigits, digits_value, digits_value_after}
use Rattle.std.proofs.lemmas.Int.Digits.{digits_value_more}
use Rattle.std.proofs.lemmas.Str.Parse.{IsDigitsTest, IsNumeralModel, numerals_by_value, digit_at, digit_from_value}
use Rattle.age_keys.specs.{IsWorkFactor}

digits_test : IsDigitsTest (λ ds. list_all is_ascii_digit ds ≡ true)
digits_test = search rules

digits_model : IsNumeralModel (λ ds. list_all is_ascii_digit ds ≡ true) (digits_value 10)
digits_model = numerals_by_value _ digits_test

pub digits_from_test : (ds : List ℕ) → list_all is_ascii_digit ds ≡ true → AllDigits 10 ds
digits_from_test ds e = digits_model.to ds e

pub test_from_digits : (ds : List ℕ) → AllDigits 10 ds → list_all is_ascii_digit ds ≡ true
test_from_digits ds h = digits_model.from ds h

value_of_digit : (c : ℕ) → IsInRange 48 57 c → digit_value c ≡ c - 48
value_of_digit c h = grind (arith, nat_tests, h.0, h.1)

-- one digit more, if both numbers stop at a limit
pub next_number : (ds : List ℕ) (i m n : ℕ) → AllDigits 10 ds → i < length ds → n ≡ min (digits_value 10 (take i ds)) m
    → min (min (n * 10) m + (get_or ds i 0 - 48)) m ≡ min (digits_value 10 (take (i + 1) ds)) m
next_number ds i m n all lt so_far =
    omega (arith, so_far, digits_value_more 10 ds i lt, value_of_digit (get_or ds i 0) (digit_at ds i all lt))

not_less : (n : ℕ) (ds : List ℕ) → n ≤ digits_value_after 10 n ds
not_less n [] = omega arith
not_less n (c ∷ cs) = omega (arith, not_less (n * 10 + digit_value c) cs)

-- if the first character is a zero
pub zero_first : (ds : List ℕ) → take 1 ds ≡ 48 ∷ [] → get_or ds 0 0 ≡ 48
zero_first [] e = cc
zero_first (d ∷ ds) e = cc

-- a work factor is above zero
pub work_factor_some : (ds : List ℕ) → IsWorkFactor ds → 1 ≤ digits_value 10 ds
work_factor_some ds h0 = grind (arith, common_steps, digit_from_value, not_less, value_of_digit)

-- what is known of characters that are tested, and of those that are read as a number
pub ruleset digit_tests = (digits_from_test, test_from_digits, zero_first)

pub ruleset digit_numbers = (next_number, digit_at)
