use Rattle.std.proofs.Common.{rules, arith}
use Rattle.age_c.proofs.{goes_open, goes_usable}
use Rattle.age_c.proofs.open_at.open_there.Goals as goal

pub open_block-requires-clause-call : goal.open_block-requires-clause-call
open_block-requires-clause-call c = record {
  usable = goes_usable c.args.chunk c.args.reader.now c.go_to.new.reader c.go_to.ensures c.requires.within;
  whole = search rules;
  room = c.requires.room;
}

pub open_block-requires-clause-status : goal.open_block-requires-clause-status
open_block-requires-clause-status c = goes_open c.args.chunk c.args.reader.now c.go_to.new.reader c.go_to.ensures

pub open_last-requires-clause-call : goal.open_last-requires-clause-call
open_last-requires-clause-call c = record {
  usable = goes_usable c.args.chunk c.args.reader.now c.go_to.new.reader c.go_to.ensures c.requires.within;
  short = search rules;
  room = omega (arith, c.requires.room, c.requires.short);
}

pub open_last-requires-clause-status : goal.open_last-requires-clause-status
open_last-requires-clause-status c = goes_open c.args.chunk c.args.reader.now c.go_to.new.reader c.go_to.ensures
