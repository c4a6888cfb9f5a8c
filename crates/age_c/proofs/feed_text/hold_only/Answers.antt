use Rattle.age_c.proofs.WriterLemmas.{feeds_held}
use Rattle.age_c.proofs.feed_text.hold_only.Goals as goal

pub returns-clause-feeds : goal.returns-clause-feeds
returns-clause-feeds c = feeds_held c.args.piece.now c.hold_text.result c.args.stream.now c.hold_text.new.stream
    c.hold_text.ensures c.requires.short c.requires.room
