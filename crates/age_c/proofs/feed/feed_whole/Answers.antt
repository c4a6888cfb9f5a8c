use Rattle.std.proofs.Common.{◌≡◌, ◌++◌, ap, arith, length, take, ℕ}
use Rattle.std.proofs.lemmas.List.{length-drop}
use Rattle.std.specs.Prelude.{◌-◌, min}
use Rattle.age_chunk.specs.{block_length}
use Rattle.age_c.specs.{held_block}
use Rattle.age_c.proofs.{block_call, feeds_whole}
use Rattle.age_c.proofs.feed.feed_whole.Goals as goal

pub returns-clause-feeds : goal.returns-clause-feeds
returns-clause-feeds c =
    let old = c.args.stream.now in
    let piece = c.args.piece.now in
    let is : held_block old ++ take block_length piece ≡ take block_length piece =
    ap (λ (n : ℕ). take n old.block ++ take block_length piece) c.requires.empty in
    let count : block_length ≡ min (length piece) (block_length - old.held) =
    omega (arith, c.requires.whole, c.requires.empty) in
    feeds_whole piece block_length _ (take block_length piece) _ old _ c.open_block-written.ensures.takes
    c.requires.empty is count c.requires.call.short

pub open_block-written-requires-clause-call : goal.open_block-written-requires-clause-call
open_block-written-requires-clause-call c = block_call c.args.stream.now c.args.piece.now c.args.out.now c.requires.call c.requires.whole

pub returns-clause-room : goal.returns-clause-room
returns-clause-room c =
    let opened = c.open_block-written.ensures in
    record {
      usable = opened.usable;
      short = c.requires.call.short;
      room = omega (arith, c.requires.empty, c.requires.whole, opened.len, length-drop 65552 c.args.piece.now);
    }
