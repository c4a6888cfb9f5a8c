use Rattle.std.proofs.Common.{arith, sym, ◌∙◌}
use Rattle.std.proofs.lemmas.Bool.{eqb-false}
use Rattle.age_stanza.proofs.{visible_from_test, test_from_visible}
use Rattle.age_stanza.proofs.valid.is_argument.Goals as goal

pub returns-then-not-is_empty : goal.returns-then-not-is_empty
returns-then-not-is_empty c =
    let some = eqb-false _ 0 (sym c.if-not-is_empty.ensures) in (
      λ e. (omega arith, visible_from_test _ (sym c.are_visible.ensures ∙ e)),
      λ h. c.are_visible.ensures ∙ test_from_visible _ h.1,
    )
