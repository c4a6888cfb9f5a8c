use Rattle.std.proofs.Common.{sym, arith, inl}
use Rattle.std.proofs.lemmas.Result.{err_from_is_err_and}
use Rattle.std.proofs.lemmas.List.{length-drop, take_rest}
use Rattle.age_stanza.proofs.{next_line, no_part, fails_in}
use Rattle.age_stanza.proofs.piece.read_lines.Goals as goal

pub end_line-requires-clause-one_line : goal.end_line-requires-clause-one_line
end_line-requires-clause-one_line c = (next_line _ _ _ _ _ c.loop-end.invariant.within c.loop-end.invariant.same (sym c.in-Some.ensures)).one_line

pub end_line-requires-clause-within : goal.end_line-requires-clause-within
end_line-requires-clause-within c =
    let next = next_line _ _ _ _ _ c.loop-end.invariant.within c.loop-end.invariant.same (sym c.in-Some.ensures) in
    omega (arith, next.room)

pub returns-in_err-header : goal.returns-in_err-header
returns-in_err-header c =
    let p = err_from_is_err_and c.from_residual.result c.from_residual.ensures.1 in
    let next = next_line _ _ _ _ _ c.loop-end.invariant.within c.loop-end.invariant.same (sym c.in-Some.ensures) in
    rw (p.1, p.2) (fails_in c.args.partial.now c.args.bytes.now _ _ (rw next.joined at c.in_err-header.ensures), omega (arith, next.within))

pub returns-in-Some-2 : goal.returns-in-Some-2
returns-in-Some-2 c =
    let next = next_line _ _ _ _ _ c.loop-end.invariant.within c.loop-end.invariant.same (sym c.in-Some.ensures) in
    (next.within, rw (c.in-Some-2.is, next.joined) at c.in_ok-header.ensures)

pub loop-end-preserved : goal.loop-end-preserved
loop-end-preserved c =
    let next = next_line _ _ _ _ _ c.loop-end.invariant.within c.loop-end.invariant.same (sym c.in-Some.ensures) in
    record { within = next.within; same = rw (c.in_default-2.is, next.joined) at c.in_ok-header.ensures }

pub extend-requires-clause-one_line : goal.extend-requires-clause-one_line
extend-requires-clause-one_line c = rw take_rest (no_part 10 _ (rw take_rest at (sym c.in_default.ensures)))

pub returns-in_err-extend : goal.returns-in_err-extend
returns-in_err-extend c =
    let p = err_from_is_err_and c.from_residual-in_err-extend.result c.from_residual-in_err-extend.ensures.1 in
    let some = rw take_rest at c.in_err-extend.ensures.some in
    rw (p.1, p.2) (record { why = inl c.in_err-extend.ensures.err }, omega (arith, some, length-drop c.loop-end.taken c.args.bytes.now))
