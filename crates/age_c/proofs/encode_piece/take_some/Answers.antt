use Rattle.age_c.proofs.PieceLemmas.{text_one_of}
use Rattle.age_c.proofs.encode_piece.take_some.Goals as goal

pub returns-clause-one : goal.returns-clause-one
returns-clause-one c =
    let it = c.feed_text-answer in
    text_one_of c.args.stream.now it.new.stream c.args.piece.now c.args.out.now it.new.out it.result it.new.taken it.new.written it.ensures.answers
    it.ensures.none
