use Rattle.std.proofs.Common.{◌≡◌, ◌+◌, ◌*◌, ◌≤◌, ℕ, List, vec_len, vec_capacity}
use Rattle.age_scrypt.specs.{v_block}
use Rattle.age_scrypt.specs.inner.{IsTable, IsTurned}
use Rattle.age_scrypt.proofs.romix.fill.Given as goal

abbrev pub invariant-loop-i : goal.invariant-loop-i
invariant-loop-i l = record {
  room : 256 * l.n ≤ vec_capacity l.table;
  len : vec_len l.table ≡ 256 * l.i;
  table : (b : List ℕ) → IsTurned b l.initial.x → IsTable b l.i l.table.items;
  x : (b : List ℕ) → IsTurned b l.initial.x → IsTurned (v_block b l.i) l.x;
  counted : l.steps ≡ l.initial.steps + l.i;
}
