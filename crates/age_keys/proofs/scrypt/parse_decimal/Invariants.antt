use Rattle.std.proofs.Common.{◌≡◌, min, take}
use Rattle.std.specs.Str.Parse.{digits_value}
use Rattle.age_keys.proofs.scrypt.parse_decimal.Given as goal

abbrev pub invariant-loop-c : goal.invariant-loop-c
invariant-loop-c l = l.number ≡ min (digits_value 10 (take l.c-index l.characters)) 4294967295
