use Rattle.std.proofs.Common.{◌∙◌, arith}
use Rattle.age_stanza.proofs.{ended, ended_faulty, ended_whole}
use Rattle.age_stanza.proofs.partial.PartialHeader.end_line.Goals as goal

pub invariant_of-more : goal.invariant_of-more
invariant_of-more c =
    rw c.clear.ensures.items (ended _ _ _ _ _ _ c.place.invariant (c.place.view_is ∙ c.replace.ensures.value) c.requires.one_line
    (λ i. omega (arith, c.type_inv.characters i)) c.requires.within _ (rw c.in-Ok-Go.field-0-is at c.in-Ok-Go.ensures)).0

pub returns-in-Ok-Go : goal.returns-in-Ok-Go
returns-in-Ok-Go c =
    rw (c.replace-in-Ok-Go.ensures.after, c.clear.ensures.items) (ended _ _ _ _ _ _ c.place.invariant (c.place.view_is ∙ c.replace.ensures.value)
    c.requires.one_line (λ i. omega (arith, c.type_inv.characters i)) c.requires.within _ (rw c.in-Ok-Go.field-0-is at c.in-Ok-Go.ensures)).1

pub returns-in-Ok-Done : goal.returns-in-Ok-Done
returns-in-Ok-Done c =
    ended_whole _ _ _ _ _ _ c.place.invariant (c.place.view_is ∙ c.replace.ensures.value) c.requires.one_line (λ i. omega (arith, c.type_inv.characters i))
    c.requires.within _ (rw c.in-Ok-Done.field-0-is at c.in-Ok-Done.ensures)

pub returns-in-Err : goal.returns-in-Err
returns-in-Err c =
    rw c.fault_at.ensures (ended_faulty _ _ _ _ _ _ c.place.invariant (c.place.view_is ∙ c.replace.ensures.value) c.requires.one_line
    (λ i. omega (arith, c.type_inv.characters i)) c.requires.within _ c.in-Err.ensures)
