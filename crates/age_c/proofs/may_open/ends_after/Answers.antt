use Rattle.std.proofs.Common.{inl, inr, ◌+◌, arith}
use Rattle.std.proofs.lemmas.Bool.{cases_lt}
use Rattle.age_c.proofs.{front_ends}
use Rattle.age_c.proofs.may_open.ends_after.Goals as goal

pub returns-clause-begun : goal.returns-clause-begun
returns-clause-begun c none header len has =
    let ends = front_ends c.args.front.now header len has in
    elim (cases_lt c.args.seen (len + 16)) [
      | inl before ↦
          absurd (c.ends_from.ensures.none none ends.0 (omega (arith, before, ends.1, c.saturating_sub.ensures)) ends.2)
      | inr after ↦ after
    ]
