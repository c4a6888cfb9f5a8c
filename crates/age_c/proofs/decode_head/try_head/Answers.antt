use Rattle.std.proofs.Common.{inl, inr, ◌+◌}
use Rattle.std.proofs.lemmas.Bool.{cases_lt}
use Rattle.age_c.proofs.DecoderLemmas.{none_later, none_of_more}
use Rattle.age_c.proofs.decode_head.try_head.Goals as goal

pub returns-then-may_open-ne0-clause-waits : goal.returns-then-may_open-ne0-clause-waits
returns-then-may_open-ne0-clause-waits g c =
    none_later c.args.seen c.args.front.now (λ h len has. elim (cases_lt c.args.seen (len + 16)) [
      | inl before ↦ absurd (c.if-may_open-ne0.true (c.may_open.ensures.begun h len has before))
      | inr after ↦ after
    ])

pub returns-else-ended-clause-waits : goal.returns-else-ended-clause-waits
returns-else-ended-clause-waits g c = λ none. none_of_more c.args.front.now (rw c.in-Err-More.field-0-is at c.in-Err-More.ensures.refused)
