use Rattle.std.proofs.Common.{inl, inr, length, ap, refl, sym, ◌∙◌, arith}
use Rattle.age_c.proofs.{lines_read, no_lines, none_of_lines}
use Rattle.age_c.proofs.seal_key.parse_lines.Goals as goal

pub returns-in-Err-2-clause-refused : goal.returns-in-Err-2-clause-refused
returns-in-Err-2-clause-refused c =
    let none = no_lines c.args.lines.now _ c.in-Err.fault (c.as_slice.ensures.value ∙ c.in-Ok.ensures) c.in-Err.ensures.refused
    (λ memory. c.if-number-eq-MEMORY.false (c.number.ensures.number ∙ memory)) in
    inr (inr (refl, none))

pub returns-then-head-len-clause-refused : goal.returns-then-head-len-clause-refused
returns-then-head-len-clause-refused c =
    let none = none_of_lines c.one_header.ensures c.args.lines.now _ _ _ (c.as_slice.ensures.value ∙ c.in-Ok.ensures) c.in-Ok-parse_front.ensures.head
    (omega (arith, c.if-head-len.true, ap length c.in-Ok.ensures)) in
    inr (inr (refl, none))

pub returns-then-scrypt_not_alone-clause-refused : goal.returns-then-scrypt_not_alone-clause-refused
returns-then-scrypt_not_alone-clause-refused c =
    let read = lines_read c.args.lines.now _ _ _ (c.as_slice.ensures.value ∙ c.in-Ok.ensures) c.in-Ok-parse_front.ensures.head
    (omega (arith, c.if-head-len.false, ap length c.in-Ok.ensures)) in
    inr (inl (refl, c.in-Ok-parse_front.head.header, read, sym c.scrypt_not_alone.ensures ∙ c.if-scrypt_not_alone.true))

pub returns-clause-header : goal.returns-clause-header
returns-clause-header c =
    lines_read c.args.lines.now _ _ _ (c.as_slice.ensures.value ∙ c.in-Ok.ensures) c.in-Ok-parse_front.ensures.head
    (omega (arith, c.if-head-len.false, ap length c.in-Ok.ensures))
