use Rattle.std.proofs.lemmas.Grind.{common_steps}
use Rattle.std.proofs.Common.{arith}
use Rattle.std.proofs.lemmas.List.{length-take}
use Rattle.age_file_position.proofs.PositionTextLemmas.{first_field, second_field, third_field, fields_are}
use Rattle.age_file_position.proofs.position_text.parse_position.Goals as goal

pub returns-in_err-parse_digest-clause-none : goal.returns-in_err-parse_digest-clause-none
returns-in_err-parse_digest-clause-none c = rw c.from_residual.ensures (λ id links tag d1 d2 d3 e.
    c.in_err-parse_digest.ensures.none id d1 (first_field c.args.fields.now id links tag d1 d2 d3 e))

pub returns-in_err-parse_digest-2-clause-none : goal.returns-in_err-parse_digest-2-clause-none
returns-in_err-parse_digest-2-clause-none c =
    rw c.from_residual-in_err-parse_digest-2.ensures (λ id links tag d1 d2 d3 e. c.in_err-parse_digest-2.ensures.none links d2
    (second_field c.args.fields.now id links tag d1 d2 d3 e))

pub returns-in_err-parse_digest-3-clause-none : goal.returns-in_err-parse_digest-3-clause-none
returns-in_err-parse_digest-3-clause-none c =
    rw c.from_residual-in_err-parse_digest-3.ensures (λ id links tag d1 d2 d3 e. c.in_err-parse_digest-3.ensures.none tag d3
    (third_field c.args.fields.now id links tag d1 d2 d3 e))

pub returns-clause-fields : goal.returns-clause-fields
returns-clause-fields c = grind (arith, common_steps, fields_are)

pub slice_bounds-parse_digest-end : goal.slice_bounds-parse_digest-end
slice_bounds-parse_digest-end c = omega (arith, length-take 44 c.args.fields.now, c.requires.size)

pub parse_digest-requires : goal.parse_digest-requires
parse_digest-requires c = omega (arith, length-take 44 c.args.fields.now, c.requires.size)
