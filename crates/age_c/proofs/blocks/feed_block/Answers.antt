use Rattle.std.proofs.Common.{sym, ap, subst, ◌∙◌, arith, List, ℕ, take, length, ◌≡◌}
use Rattle.std.proofs.lemmas.List.{take_all}
use Rattle.age_stream.specs.{with_piece, outcome, Stands}
use Rattle.age_keys.specs.inner.{opens}
use Rattle.age_c.proofs.{block_text}
use Rattle.age_c.proofs.blocks.feed_block.Goals as goal
use Rattle.age_chunk.specs.{chunk_length}

pub returns-in-Ok-clause-passes : goal.returns-in-Ok-clause-passes
returns-in-Ok-clause-passes c =
    let after = rw c.in-Ok.is at c.feed.follows.holds-at-none in
    let new = c.feed.follows.lender-at-none in
    let ok = c.in-Ok.ensures.feeds in
    let step = c.in-Ok.step in
    let block = c.args.block.now in
    let op = opens c.args.opener.now.key in
    let all : take step.taken block ≡ block =
    take_all step.taken block (omega (arith, ok.taken, c.requires.block, ap length c.requires.held)) in
    record {
      key = after.key;
      stands = λ s h. subst (λ (t : List ℕ). Stands opens chunk_length new (with_piece s t)) all (after.stands s h);
      text_is = λ s h. block_text op s (with_piece s block) step.chunk (take c.put_chunk.result c.put_chunk.new.out)
          (ap (λ t. (outcome op chunk_length (with_piece s t)).texts) (sym all) ∙ ok.texts s h) c.put_chunk.ensures.text;
      nothing = λ failed. cc (after.unfailed, failed);
      was_open = λ _. ok.was_open (omega (arith, c.requires.block));
    }
