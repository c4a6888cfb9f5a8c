use Rattle.std.proofs.Common.{◌≡◌, ◌+◌, ◌-◌, ◌*◌, ◌++◌, ℕ, List, length, take, drop, refl, ap, arith, add-one}
use Rattle.std.proofs.lemmas.List.{length-append}
use Rattle.std.proofs.lemmas.Slice.{pushed}
use Rattle.age_scrypt.specs.{part, v_block}
use Rattle.age_scrypt.proofs.{part-append_right, table_more}
use Rattle.age_scrypt.proofs.romix.fill.Goals as goal

pub loop-i-preserved : goal.loop-i-preserved
unfolding part v_block
loop-i-preserved c =
    let inv = c.loop-i.invariant in
    let i : ℕ = c.loop-i.i in
    let x : List ℕ = c.loop-i.x in
    let table : List ℕ = c.loop-i.table.items in
    let len : length table ≡ 256 * i = omega (arith, c.loop-i.table.ok.0, inv.len) in
    let items : c.extend_from_slice.new.self.items ≡ table ++ x = pushed x refl c.unwrap.ensures c.extend_from_slice.ensures.items in
    let width : 256 * i + 256 - 256 * i ≡ 256 = omega arith in
    let from : take (256 * i + 256 - 256 * i) (drop (256 * i) c.deref.result.now) ≡ x =
    rw (width, c.deref.ensures.value, items) (part-append_right 256 table x i len (omega arith)) in
    record {
      room = omega (arith, c.extend_from_slice.ensures.capacity);
      len = omega (arith, c.deref.ensures.len, ap length c.deref.ensures.value, ap length items, length-append table x);
      table = λ b t. rw items (table_more b i table x len (omega arith) (inv.table b t) (inv.x b t));
      x = λ b t. rw add-one (c.block_mix.ensures.mixed _ (rw (← from) at (inv.x b t)));
      counted = omega arith;
    }
