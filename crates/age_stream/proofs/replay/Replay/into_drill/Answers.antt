use Rattle.std.proofs.Common.{arith}
use Rattle.age_stream.proofs.replay.Replay.into_drill.Goals as goal

pub status-status-requires : goal.status-status-requires
status-status-requires g c = grind arith

pub index-index-requires : goal.index-index-requires
index-index-requires g c = grind arith

pub refused-refused-requires : goal.refused-refused-requires
refused-refused-requires g c = grind arith
