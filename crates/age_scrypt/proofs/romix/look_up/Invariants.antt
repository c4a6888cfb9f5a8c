use Rattle.std.proofs.Common.{◌≡◌, ◌+◌, ℕ, List}
use Rattle.age_scrypt.specs.{v_block, x_block}
use Rattle.age_scrypt.specs.inner.{IsTable, IsTurned}
use Rattle.age_scrypt.proofs.romix.look_up.Given as goal

abbrev pub invariant-loop-round : goal.invariant-loop-round
invariant-loop-round l = record {
  x : (b : List ℕ) → IsTable b l.n l.table → IsTurned (v_block b l.n) l.initial.x → IsTurned (x_block l.n b l._round) l.x;
  counted : l.steps ≡ l.initial.steps + l._round;
}
