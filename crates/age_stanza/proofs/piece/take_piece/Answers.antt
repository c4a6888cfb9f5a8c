use Rattle.std.proofs.Common.{◌-◌, ℕ, ap, sym, ◌∙◌, length, ◌≡◌, ◌++◌, take, arith}
use Rattle.std.proofs.lemmas.List.{length-append, length-take}
use Rattle.std.proofs.lemmas.Result.{err_from_is_err_and}
use Rattle.age_stanza.proofs.{fails_in, found_in}
use Rattle.age_stanza.proofs.piece.take_piece.Goals as goal

pub returns-in_err-taken : goal.returns-in_err-taken
returns-in_err-taken c =
    let room : ℕ = 1048576 - c.len-room.result in
    let p = err_from_is_err_and c.from_residual.result c.from_residual.ensures.1 in
    let fails = rw c.first_bytes.ensures at c.in_err-taken.ensures in
    rw (p.1, p.2) (fails_in c.args.partial.now c.args.piece.now room _ fails.0, omega (arith, fails.1, length-take room c.args.piece.now))

pub returns-then-len-eq-HEAD_MAX : goal.returns-then-len-eq-HEAD_MAX
returns-then-len-eq-HEAD_MAX c =
    let room : ℕ = 1048576 - c.len-room.result in
    let goes = rw (c.in-More.is, c.first_bytes.ensures) at c.in_ok-taken.ensures in
    let long : length (c.args.partial.now ++ take room c.args.piece.now) ≡ 1048576 =
    ap length (sym goes) ∙ sym c.len.ensures.len ∙ c.if-len-eq-HEAD_MAX.true in (
      fails_in c.args.partial.now c.args.piece.now room _ (rw goes at c.too_long_fault.ensures),
      omega (arith, c.requires, long, length-append c.args.partial.now (take room c.args.piece.now), length-take room c.args.piece.now),
    )

pub returns-in-Ready : goal.returns-in-Ready
returns-in-Ready c =
    let finds = rw (c.in-Ready.is, c.first_bytes.ensures) at c.in_ok-taken.ensures in
    found_in c.args.partial.now c.args.piece.now _ _ _ (omega (arith, c.len-room.ensures.len)) c.requires finds.0 finds.1
