use Rattle.std.proofs.Common.{arith}
use Rattle.age_stream.proofs.replay.ReplayState.deliver.Goals as goal

pub take_piece-requires : goal.take_piece-requires
take_piece-requires g c = grind arith

pub deliver_eof-requires : goal.deliver_eof-requires
deliver_eof-requires g c = grind arith

pub restart-requires : goal.restart-requires
restart-requires g c = grind arith
