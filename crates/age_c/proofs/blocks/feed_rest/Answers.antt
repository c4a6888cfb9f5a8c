use Rattle.std.proofs.Common.{sym, ap, subst, refl, ◌∙◌, arith, append-nil, List, ℕ, take, length, ◌≡◌}
use Rattle.std.proofs.lemmas.List.{take_all}
use Rattle.age_stream.specs.{with_piece, outcome, released, Stands}
use Rattle.age_keys.specs.inner.{opens}
use Rattle.age_c.proofs.{rest_open, rest_text}
use Rattle.age_c.proofs.blocks.feed_rest.Goals as goal
use Rattle.age_chunk.specs.{chunk_length}

pub returns-in-Ok-clause-passes : goal.returns-in-Ok-clause-passes
returns-in-Ok-clause-passes c =
    let after = rw c.in-Ok.is at c.feed.follows.holds-at-none in
    let old = c.args.opener.now in
    let new = c.feed.follows.lender-at-none in
    let ok = c.in-Ok.ensures.feeds in
    let step = c.in-Ok.field-0 in
    let rest = c.args.rest.now in
    let op = opens old.key in
    let all : take step.taken rest ≡ rest =
    take_all step.taken rest (omega (arith, ok.taken, c.requires.rest, ap length c.requires.held)) in
    record {
      key = after.key;
      stands = λ s h. subst (λ (t : List ℕ). Stands opens chunk_length new (with_piece s t)) all (after.stands s h);
      text_is = λ s h. rest_text op s (with_piece s rest) step.chunk old.held new.held step.taken
          (ap (λ t. (outcome op chunk_length (with_piece s t)).texts) (sym all) ∙ ok.texts s h)
          after.lent c.requires.held (omega (arith, ok.taken, c.requires.rest)) ∙ sym (append-nil (released op chunk_length s));
      nothing = λ _. refl;
      was_open = rest_open rest old.status new.status ok.was_open (λ none. ap (λ o. o.status) (after.unchanged none));
    }
