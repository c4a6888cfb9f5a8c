use Rattle.std.proofs.Common.{◌≡◌}
use Rattle.age_stream.specs.{with_piece}
use Rattle.age_c.proofs.{opener_of, takes_of, whole_piece}
use Rattle.age_c.proofs.blocks.open_block.Goals as goal

pub returns-clause-takes : goal.returns-clause-takes
returns-clause-takes c =
    let block = c.args.block.now in
    let view : c.between-opener.result ≡ opener_of c.args.reader.now c.args.status = cc (c.between-opener.ensures.view, c.load_reader_key-key.ensures) in
    takes_of (λ s. with_piece s block) _ _ c.args.status _ _ _ _ _ view c.requires.status c.feed_block-written.ensures.passes
    c.index.ensures.index c.status.ensures c.keep.ensures (λ s none _. whole_piece s block none c.requires.call.whole)
