use Rattle.std.proofs.Common.{[], length, ap, sym, ◌∙◌, arith, rules, tests}
use Rattle.std.proofs.lemmas.Bool.{eqb-false, false≢true}
use Rattle.std.proofs.lemmas.Iterator.{cases_from_all, YieldsList-from_slice}
use Rattle.age_stanza.specs.inner.{HasArguments}
use Rattle.age_stanza.proofs.{all_is, has_text, text_within}
use Rattle.age_stanza.proofs.valid.is_header.Goals as goal
use Rattle.age_stanza.proofs.valid.is_header.Goals.{then-not-is_empty, else-not-is_empty}

pub returns-then-all : goal.returns-then-all
returns-then-all c =
    let h = c.args.header.now in
    let all = ap length c.as_slice-stanzas.ensures in
    elim c.if-not-is_empty.branch [
      | then-not-is_empty w ↦
          let each = all_is HasArguments (record { args = []; body = [] }) w.all.result h.stanzas (cases_from_all _ _ _ HasArguments (λ s. HasArguments s
          → ⊥) w.all.ensures.ran (YieldsList-from_slice h.stanzas (w.iter.ensures.rest ∙ c.as_slice-stanzas.ensures)) (λ x q k. search (rules, tests))
          (λ x q k. search (rules, tests))) in
          let some = eqb-false _ 0 (sym w.if-not-is_empty.ensures) in (
            λ e. has_text h _ c.text_len.ensures (sym c.is_some.ensures ∙ e) (omega arith) (each.0 (sym w.value-is ∙ c.if-all.true)),
            λ has. c.is_some.ensures ∙ text_within h _ c.text_len.ensures has,
          )
      | else-not-is_empty w ↦ absurd (false≢true (rw (w.if-not-is_empty.false) at (sym w.value-is ∙ c.if-all.true)))
    ]
