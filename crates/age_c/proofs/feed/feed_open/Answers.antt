use Rattle.std.proofs.Common.{◌≡◌, ◌∙◌, ◌+◌, ap, sym, arith, refl, take, ℕ}
use Rattle.std.proofs.lemmas.List.{take_all}
use Rattle.age_chunk.specs.{block_length}
use Rattle.age_c.proofs.{feeds_part, feeds_whole}
use Rattle.age_c.proofs.feed.feed_open.Goals as goal

pub returns-then-held-lt-BLOCK_LEN-clause-feeds : goal.returns-then-held-lt-BLOCK_LEN-clause-feeds
returns-then-held-lt-BLOCK_LEN-clause-feeds c =
    let held = c.hold-taken in
    feeds_part c.args.piece.now held.result c.args.stream.now _ held.ensures.reader
    (ap (λ (n : ℕ). take (n + held.result) held.new.stream.block) held.ensures.held ∙ held.ensures.bytes)
    (ap (λ (n : ℕ). n + held.result) held.ensures.held) c.if-held-lt-BLOCK_LEN.true held.ensures.count_is c.requires.call.short c.requires.open

pub returns-clause-feeds : goal.returns-clause-feeds
returns-clause-feeds c =
    let held = c.hold-taken in
    let old = c.args.stream.now in
    let block = held.new.stream.block in
    let full : old.held + held.result ≡ block_length =
    omega (arith, c.if-held-lt-BLOCK_LEN.false, held.ensures.held, held.ensures.count_is, c.requires.call.short) in
    let is = sym held.ensures.bytes ∙ (ap (λ (n : ℕ). take n block) full ∙ take_all block_length block (omega (arith, held.ensures.size))) in
    let takes = rw held.ensures.reader at c.open_block-written.ensures.takes in
    feeds_whole c.args.piece.now held.result _ block _ old _ takes refl is held.ensures.count_is c.requires.call.short
