use Rattle.std.proofs.Common.{[], ◌+◌, Some, ap, sym, ◌∙◌, arith}
use Rattle.std.proofs.lemmas.Result.{IfOk-weaker}
use Rattle.std.proofs.lemmas.List.{take_rest, length-drop}
use Rattle.age_stanza.specs.inner.{arguments_from, at_spaces}
use Rattle.age_stanza.proofs.{first_part, no_part, bad_argument, next_argument, none_left, words_last, words_next}
use Rattle.age_stanza.proofs.argument_line.push_all.Goals as goal

pub returns-then-not-branch-clause-refused : goal.returns-then-not-branch-clause-refused
returns-then-not-branch-clause-refused c = λ _.
    let first = first_part 32 c.loop-end.rest.now c.in-Some.end (sym c.in-Some.ensures) in
    sym c.loop-end.invariant.0 ∙ (ap (λ rest. arguments_from c.loop-end.args (at_spaces rest)) first.parts ∙ (ap (arguments_from c.loop-end.args)
    (words_next _ _ first.one_line) ∙ bad_argument c.loop-end.args _ _ (c.in_ok-push_valid.ensures.refused c.if-not-branch.true)))

pub loop-end-preserved : goal.loop-end-preserved
loop-end-preserved c =
    let first = first_part 32 c.loop-end.rest.now c.in-Some.end (sym c.in-Some.ensures) in
    let pushed = c.in_ok-push_valid.ensures.pushed c.if-not-branch.false in
    let within = c.loop-end.invariant.1 in
    rw (take_rest c.loop-end.rest.now (c.in-Some.end + 1), pushed.1) (
      sym (next_argument c.loop-end.args _ _ pushed.0) ∙ (ap (arguments_from c.loop-end.args) (sym (words_next _ _ first.one_line))
          ∙ (ap (λ rest. arguments_from c.loop-end.args (at_spaces rest)) (sym first.parts) ∙ c.loop-end.invariant.0)),
      omega (arith, length-drop (c.in-Some.end + 1) c.loop-end.rest.now),
    )

pub returns-clause-all : goal.returns-clause-all
returns-clause-all c = IfOk-weaker c.push_valid-2.result _ _ (λ r h yes.
    let pushed = h yes in
    sym c.loop-end.invariant.0 ∙ (ap (arguments_from c.loop-end.args) (words_last _ (no_part 32 _ (sym c.in_default.ensures)))
    ∙ (next_argument c.loop-end.args _ [] pushed.0 ∙ (none_left _ ∙ ap Some (sym pushed.1))))) c.push_valid-2.ensures.pushed

pub returns-clause-refused : goal.returns-clause-refused
returns-clause-refused c =
    IfOk-weaker c.push_valid-2.result _ _
    (λ r h no. sym c.loop-end.invariant.0 ∙ (ap (arguments_from c.loop-end.args) (words_last _ (no_part 32 _ (sym c.in_default.ensures)))
    ∙ bad_argument c.loop-end.args _ [] (h no)))
    c.push_valid-2.ensures.refused
