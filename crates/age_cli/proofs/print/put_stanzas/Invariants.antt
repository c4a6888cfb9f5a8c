use Rattle.std.proofs.Common.{◌≡◌, ◌++◌, drop}
use Rattle.std.specs.List.{flat_map}
use Rattle.age_cli.specs.{stanza_line}
use Rattle.age_cli.proofs.print.put_stanzas.Given as goal

abbrev pub invariant-loop-stanza : goal.invariant-loop-stanza
invariant-loop-stanza l = l.out.items ++ flat_map stanza_line (drop l.stanza-index l.stanzas) ≡ l.fn.out.items ++ flat_map stanza_line l.stanzas
