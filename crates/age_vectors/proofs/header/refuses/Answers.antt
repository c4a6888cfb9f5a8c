use Rattle.std.proofs.Common.{sym, ap, ◌∙◌, Some, ℕ}
use Rattle.std.proofs.lemmas.Bool.{eqb-true}
use Rattle.age_vectors.proofs.header.refuses.Goals.{then-number, else-number}
use Rattle.age_vectors.proofs.header.refuses.Goals as goal

pub returns : goal.returns
returns c = elim c.if-number.branch [
  | then-number w ↦ λ e. record {
    fault = c.in-Err.fault;
    reported = rw c.in-Err.is at c.parsed-parsed.ensures.err;
    number_is = sym c.number.ensures ∙ w.if-number.true;
    place_is = sym c.place.ensures ∙ c.in-Some.is ∙ ap (λ (n : ℕ). Some n) (eqb-true _ _ (rw w.result-is at e));
  }
  | else-number w ↦ λ e. absurd (w.if-number.false (eqb-true _ _ (rw w.result-is at e)))
]
