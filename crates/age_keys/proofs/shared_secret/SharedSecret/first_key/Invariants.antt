use Rattle.std.proofs.Common.{take}
use Rattle.std.specs.List.{AllByRecursion}
use Rattle.age_keys.specs.{StaysShut}
use Rattle.age_keys.proofs.shared_secret.SharedSecret.first_key.Given as goal

abbrev pub invariant-loop-stanza : goal.invariant-loop-stanza
invariant-loop-stanza l = AllByRecursion (StaysShut l.self) (take l.stanza-index l.stanzas)
