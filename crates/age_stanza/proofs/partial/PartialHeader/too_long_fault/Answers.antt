use Rattle.std.proofs.Common.{sym, arith}
use Rattle.std.proofs.lemmas.Bool.{eqb-true, eqb-false}
use Rattle.age_stanza.proofs.{begun_number_of_last, finished_number, too_long, under_way}
use Rattle.age_stanza.proofs.partial.PartialHeader.too_long_fault.Goals as goal

pub returns-then-is_empty : goal.returns-then-is_empty
returns-then-is_empty c =
    let known = c.self.invariant in
    let empty = eqb-true _ 0 (sym c.if-is_empty.ensures) in
    too_long _ _ (under_way _ _ _ _ _ known c.self.view_is) c.requires
    (finished_number _ _ 1048575 _ _ known.lead_to (omega arith) c.self.view_is c.requires)

pub returns-else-is_empty : goal.returns-else-is_empty
returns-else-is_empty c =
    let known = c.self.invariant in
    let some = eqb-false _ 0 (sym c.if-is_empty.ensures) in
    too_long _ _ (under_way _ _ _ _ _ known c.self.view_is) c.requires
    (begun_number_of_last _ _ 1048575 _ _ known.lead_to known.one_line (λ e. omega arith) c.self.view_is c.requires)
