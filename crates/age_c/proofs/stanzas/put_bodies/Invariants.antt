use Rattle.std.proofs.Common.{◌≡◌, ◌≤◌, ◌++◌, length, take, drop}
use Rattle.age_c.specs.{bodies_of}
use Rattle.age_c.proofs.stanzas.put_bodies.Given as goal

abbrev pub invariant-loop-stanza : goal.invariant-loop-stanza
invariant-loop-stanza l = record {
  most : l.written ≤ length l.out;
  -- what was put, and what is left, are all of them
  told : take l.written l.out ++ bodies_of (drop l.stanza-index l.stanzas) ≡ bodies_of l.stanzas;
  after : drop l.written l.out ≡ drop l.written l.initial.out;
}
