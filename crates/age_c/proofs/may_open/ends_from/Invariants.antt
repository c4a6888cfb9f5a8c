use Rattle.std.specs.Prelude.{ℕ, ◌<◌, ◌≤◌}
use Rattle.age_c.specs.inner.Tries.{EndsAt}
use Rattle.age_c.proofs.may_open.ends_from.Given as goal

abbrev pub invariant-loop-at : goal.invariant-loop-at
invariant-loop-at l = (place : ℕ) → l.from ≤ place → place < l.at → ¬ EndsAt l.front place
