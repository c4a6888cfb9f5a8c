use Rattle.std.proofs.Common.{◌≡◌, ◌++◌, map, reverse, vec_len}
use Rattle.age_file_inspect.specs.Reports.{stanza_report}
use Rattle.age_file_inspect.proofs.inspection.report_stanzas.Given as goal

-- the reports so far, and those on the stanzas that are left, which stand last first
abbrev pub invariant-stanzas : goal.invariant-stanzas
invariant-stanzas l = map stanza_report (reverse l.initial.left.items) ≡ l.reports ++ map stanza_report (reverse l.left.items)

abbrev pub decreases-stanzas : goal.decreases-stanzas
decreases-stanzas l = vec_len l.left
