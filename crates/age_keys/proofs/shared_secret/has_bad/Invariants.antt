use Rattle.std.proofs.Common.{take}
use Rattle.std.specs.List.{AllByRecursion}
use Rattle.age_keys.specs.{IsBadStanza}
use Rattle.age_keys.proofs.shared_secret.has_bad.Given as goal

abbrev pub invariant-loop-stanza : goal.invariant-loop-stanza
invariant-loop-stanza l = AllByRecursion (λ s. ¬ IsBadStanza s) (take l.stanza-index l.stanzas)
