use Rattle.std.proofs.Common.{ap, arith, length, length-drop, ◌-◌}
use Rattle.std.proofs.lemmas.List.{take_rest}
use Rattle.age_c.proofs.PieceLemmas.{next_fits, piece_more, room_more, step_fits}
use Rattle.age_c.proofs.decode_piece.age_c_decode_piece.Goals as goal

pub returns-then-answer-ne0-clause-more : goal.returns-then-answer-ne0-clause-more
returns-then-answer-ne0-clause-more c =
    let was = c.pieces.invariant in
    let took = c.take_some-answer in
    piece_more c.args.decoder.now c.pieces.decoder took.new.decoder c.args.piece.now c.pieces.out took.new.out c.pieces.at took.result.1 c.pieces.done
    took.result.2 (length c.pieces.out - c.pieces.done) was.so_far took.ensures.one was.room took.ensures.room

pub pieces-preserved : goal.pieces-preserved
pieces-preserved c =
    let was = c.pieces.invariant in
    let took = c.take_some-answer in
    let fit = took.ensures.fits was.fits.is_open (step_fits c.pieces.decoder c.args.piece.now c.pieces.out c.pieces.at c.pieces.done was.fits was.room) in
    record {
      within = omega (
        arith,
        was.within,
        took.ensures.most,
        ap length (take_rest c.args.piece.now c.pieces.at),
        length-drop c.pieces.at c.args.piece.now,
      );
      room = room_more c.pieces.done took.result.2 (length c.pieces.out - c.pieces.done) c.pieces.out took.new.out was.room took.ensures.room;
      so_far = piece_more c.args.decoder.now c.pieces.decoder took.new.decoder c.args.piece.now c.pieces.out took.new.out c.pieces.at took.result.1
          c.pieces.done took.result.2 (length c.pieces.out - c.pieces.done) was.so_far took.ensures.one was.room took.ensures.room;
      fits = next_fits c.pieces.decoder took.new.decoder c.args.piece.now c.pieces.out took.new.out c.pieces.at took.result.1 c.pieces.done took.result.2
          was.fits fit.1 fit.2 was.room took.auto.out;
    }
