use Rattle.std.proofs.Common.{inl, inr}
use Rattle.std.proofs.lemmas.Result.{err_from_is_err_and}
use Rattle.age_vectors.proofs.header.parsed.Goals as goal

pub returns-in_err-feed-clause-err : goal.returns-in_err-feed-clause-err
returns-in_err-feed-clause-err c =
    let p = err_from_is_err_and c.from_residual.result c.from_residual.ensures.1 in
    let fed = rw c.new-parser.ensures at c.in_err-feed.ensures in
    rw (p.1, p.2) (elim fed.1 [ inl memory ↦ inl memory | inr e ↦ inr (e.0, inl e.1) ])

pub returns-clause-ok : goal.returns-clause-ok
returns-clause-ok c = (rw (c.new-parser.ensures, c.in-Ready.is) at c.in_ok-feed.ensures).2

pub returns-in-More-clause-err : goal.returns-in-More-clause-err
returns-in-More-clause-err c =
    let fed = rw (c.new-parser.ensures, c.in-More.is) at c.in_ok-feed.ensures in
    let cut = rw fed.0 at c.end.ensures in
    inr (cut.2, inr (cut.0, cut.3))
