use Rattle.std.proofs.Common.{arith}
use Rattle.age_stream.proofs.replay.ReplayState.take_piece.Goals as goal

pub piece_room-room-requires : goal.piece_room-room-requires
piece_room-room-requires g c = grind arith

pub feed_all-requires : goal.feed_all-requires
feed_all-requires g c = grind arith
