use Rattle.std.proofs.Common.{None}
use Rattle.age_file_decrypt.proofs.GivenLemmas.{done_gave, is_file, rest_is_file, stopped_gave}
use Rattle.age_file_decrypt.proofs.laws.done_gave_text.Goals as goal

pub returns-clause-gave : goal.returns-clause-gave
returns-clause-gave g c = λ keep who from old new result d. done_gave keep (g.U.Unlock.allows who) (g.U.Unlock.refuses who) old new from result
    d.run d.answers

pub returns-clause-shown : goal.returns-clause-shown
returns-clause-shown g c = λ keep who old new result coming held d. is_file keep (g.U.Unlock.allows who) (g.U.Unlock.refuses who) old new result
    coming held (done_gave keep (g.U.Unlock.allows who) (g.U.Unlock.refuses who) old new None result d.run d.answers)

pub returns-clause-front : goal.returns-clause-front
returns-clause-front g c = λ keep who old new result d. stopped_gave keep (g.U.Unlock.allows who) (g.U.Unlock.refuses who) old new result
    d.run d.answers

pub returns-clause-whole : goal.returns-clause-whole
returns-clause-whole g c = λ first next p was became old new before text front rest same skipped begins. rest_is_file (g.U.Unlock.allows first)
    (g.U.Unlock.allows next) p was became old new before text front rest same skipped begins
