use Rattle.std.proofs.Common.{inl, inr, refl}
use Rattle.age_cli.proofs.program.run_and_conclude.Goals as goal

pub returns-in-Some-clause-obeys : goal.returns-in-Some-clause-obeys
returns-in-Some-clause-obeys g c words made =
    rw c.refuse.ensures (inr (record { done = tt; cause = tt; untouched = refl; quiet = λ no. (refl, refl) }))

pub returns-in-Ok-clause-obeys : goal.returns-in-Ok-clause-obeys
returns-in-Ok-clause-obeys g c words made = inl (c.in-Ok.ensures words made).done

pub returns-in-Err-clause-obeys : goal.returns-in-Err-clause-obeys
returns-in-Err-clause-obeys g c words made = inl ((c.in-Err.ensures words made).unfinished _ _ c.conclude.ensures)
