use Rattle.age_stanza.proofs.{cut_here}
use Rattle.age_stanza.proofs.partial.PartialHeader.cut_fault.Goals as goal

pub returns : goal.returns
returns c = cut_here _ _ _ _ _ c.self.invariant c.self.view_is
