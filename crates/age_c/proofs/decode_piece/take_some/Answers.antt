use Rattle.std.proofs.Common.{arith}
use Rattle.age_c.proofs.PieceLemmas.{one_of}
use Rattle.age_c.proofs.decode_piece.take_some.Goals as goal

pub returns-clause-one : goal.returns-clause-one
returns-clause-one c =
    let it = c.decode-answer in
    one_of c.args.decoder.now it.new.decoder c.args.piece.now c.args.out.now it.new.out it.result it.new.taken it.new.written it.ensures.decodes
    (λ is. (it.ensures.idle is, it.ensures.nothing (λ zero. omega (arith, is, zero))))
