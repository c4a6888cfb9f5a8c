use Rattle.std.proofs.Common.{◌≡◌, ℕ, List, length}
use Rattle.age_scrypt.specs.{double_rounds}
use Rattle.age_scrypt.specs.inner.{words, IsDiagonals, turned}
use Rattle.age_scrypt.proofs.salsa.salsa20_8.Given as goal

abbrev pub invariant-loop-round : goal.invariant-loop-round
invariant-loop-round l = (x : List ℕ) → length x ≡ 16 → words l.p ≡ turned x → IsDiagonals (double_rounds l._round x) l.mixed
