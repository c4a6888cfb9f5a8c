use Rattle.std.proofs.Common.{◌≡◌, ◌+◌, ◌≤◌, ◌++◌, length, take, drop}
use Rattle.std.specs.List.{flat_map}
use Rattle.age_stanza.specs.{stanza_text, stanzas_text}
use Rattle.age_c.specs.inner.{places_from}
use Rattle.age_c.proofs.stanzas.put_places.Given as goal

abbrev pub invariant-loop-index : goal.invariant-loop-index
invariant-loop-index l = record {
  text : l.at + length (flat_map stanza_text (drop l.index l.stanzas)) ≡ length (stanzas_text l.stanzas);
  -- a body is shorter than its stanza
  bodies : l.body_at ≤ l.at;
  -- what was put, and what is left, are all of them
  told : take l.index l.places ++ places_from l.at l.body_at (drop l.index l.stanzas) ≡ places_from 22 0 l.stanzas;
  after : drop (length l.stanzas) l.places ≡ drop (length l.stanzas) l.initial.places;
}
