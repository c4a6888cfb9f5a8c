use Rattle.std.proofs.Common.{ap, arith, length, length-drop, ◌-◌}
use Rattle.std.proofs.lemmas.List.{take_rest}
use Rattle.age_c.proofs.PieceLemmas.{next_text_fits, room_more, text_piece_more}
use Rattle.age_c.proofs.encode_piece.age_c_encode_piece.Goals as goal

pub returns-then-answer-ne0-clause-more : goal.returns-then-answer-ne0-clause-more
returns-then-answer-ne0-clause-more c =
    let was = c.pieces.invariant in
    let took = c.take_some-answer in
    text_piece_more c.args.stream.now c.pieces.stream took.new.stream c.args.piece.now c.pieces.out took.new.out c.pieces.at took.result.1 c.pieces.done
    took.result.2 (length c.pieces.out - c.pieces.done) was.so_far took.ensures.one was.room took.ensures.room

pub pieces-preserved : goal.pieces-preserved
pieces-preserved c =
    let was = c.pieces.invariant in
    let took = c.take_some-answer in
    record {
      within = omega (
        arith,
        was.within,
        took.ensures.most,
        ap length (take_rest c.args.piece.now c.pieces.at),
        length-drop c.pieces.at c.args.piece.now,
      );
      room = room_more c.pieces.done took.result.2 (length c.pieces.out - c.pieces.done) c.pieces.out took.new.out was.room took.ensures.room;
      so_far = text_piece_more c.args.stream.now c.pieces.stream took.new.stream c.args.piece.now c.pieces.out took.new.out c.pieces.at took.result.1
          c.pieces.done took.result.2 (length c.pieces.out - c.pieces.done) was.so_far took.ensures.one was.room took.ensures.room;
      fits = next_text_fits c.pieces.stream took.new.stream c.args.piece.now c.pieces.out took.new.out c.pieces.at took.result.1 c.pieces.done took.result.2
          was.fits (took.ensures.keeps c.if-answer-ne0.false) was.room took.auto.out;
    }
