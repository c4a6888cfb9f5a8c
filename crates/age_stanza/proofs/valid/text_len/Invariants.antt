use Rattle.std.proofs.Common.{◌≡◌, ◌≤◌, ◌+◌, length, drop, take}
use Rattle.std.specs.List.{flat_map, AllByRecursion}
use Rattle.base64.specs.GeneralPurpose.{IsBytes}
use Rattle.age_stanza.specs.{stanza_text}
use Rattle.age_stanza.proofs.valid.text_len.Given as goal

-- what is left has room for what the rest leaves of the room for all
abbrev pub invariant-loop-stanza : goal.invariant-loop-stanza
invariant-loop-stanza l = record {
  within : l.left ≤ 1048506;
  room : l.left + length (flat_map stanza_text l.header.stanzas) ≡ 1048506 + length (flat_map stanza_text (drop l.stanza-index l.header.stanzas));
  bodies : AllByRecursion (λ s. IsBytes s.body) (take l.stanza-index l.header.stanzas);
}
