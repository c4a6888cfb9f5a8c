use Rattle.std.proofs.Common.{◌≡◌, length, refl, take}
use Rattle.age_chunk.specs.{chunk_length}
use Rattle.age_c.proofs.WriterLemmas.{feeds_full}
use Rattle.age_c.proofs.feed_text.seal_held.Goals as goal

pub returns-clause-feeds : goal.returns-clause-feeds
returns-clause-feeds c =
    let sealed = c.seal_next-written in
    let size : length c.args.stream.now.chunk ≡ chunk_length = search in
    feeds_full c.args.piece.now (take sealed.result sealed.new.out) c.hold_text.result c.args.stream.now _ c.hold_text.new.stream
    c.requires.full size sealed.ensures.sealed refl c.hold_text.ensures c.requires.more
