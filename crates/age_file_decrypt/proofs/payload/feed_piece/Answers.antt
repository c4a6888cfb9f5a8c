use Rattle.std.proofs.lemmas.Grind.{common_steps}
use Rattle.std.proofs.Common.{[], ◌+◌, ◌≡◌, ◌-◌, ◌≤◌, length, take, drop, sym, ap, ◌∙◌, arith, List, ℕ, ◌++◌, append-nil, append_assoc, take-append-drop, refl}
use Rattle.std.proofs.Common.{inl, false}
use Rattle.std.proofs.lemmas.List.{length-append, length-take, length-drop, take_all}
use Rattle.age_stream.specs.{chunk_texts}
use Rattle.age_stream.proofs.{lent, lent_flat, rejoined, take_on}
use Rattle.age_file_decrypt.specs.inner.{segment}
use Rattle.age_keys.specs.inner.{box_valid, opens, seals}
use Rattle.age_file_input.proofs.ReadLemmas.{err_is}
use Rattle.age_file_decrypt.proofs.CountLemmas.{fed_none, fed_whole, fed_cut, chunk_few, holds_or_lends}
use Rattle.age_chunk.specs.{chunk_length}
use Rattle.age_file_decrypt.proofs.payload.feed_piece.Goals as goal

pub loop-at-init : goal.loop-at-init
loop-at-init g c = grind (arith, common_steps, append-nil)

-- the opener refused the rest
pub returns-in_err-step-clause-fed : goal.returns-in_err-step-clause-fed
returns-in_err-step-clause-fed g c = λ key k first fed h.
    let after = rw c.in_err-step.was at c.feed.follows.holds-at-none in
    let kept = c.loop-at.invariant.released key k first fed h in
    let piece = c.args.piece.now in
    let at = c.loop-at.at in
    let rest = take (length piece - at) (drop at piece) in
    let front = fed ++ take at piece in
    rw (err_is c.from_residual.result c.from_residual.ensures.1) (record {
      fed = front ++ rest;
      left = [];
      unwritten = [];
      parts = sym (append-nil (front ++ rest) ∙ rejoined fed piece at);
      released = fed_none seals opens box_valid chunk_length (omega arith) kept after.key rest (after.stands (segment k front false) kept.stands)
          (c.in_err-step.ensures.feeds.texts (segment k front false) kept.stands);
      why = (after.fault, refl, refl, c.loop-at.invariant.goes.1);
    })

pub write_all-requires : goal.write_all-requires
write_all-requires g c = grind (arith, common_steps, holds_or_lends, length-drop, length-take, lent)

-- the sink failed
pub returns-in_err-write_all-clause-fed : goal.returns-in_err-write_all-clause-fed
returns-in_err-write_all-clause-fed g c = λ key k first fed h.
    let after = rw c.in_ok-step.was at c.feed.follows.holds-at-none in
    let kept = c.loop-at.invariant.released key k first fed h in
    let piece = c.args.piece.now in
    let at = c.loop-at.at in
    let rest = take (length piece - at) (drop at piece) in
    let put = c.in_err-write_all.ensures.writes in
    let step = c.in_ok-step.step in
    let front = fed ++ take at piece in
    let more = take step.taken rest in
    let is = lent_flat step.chunk ∙ lent step.chunk _ refl ∙ ap (λ b. b.now) (sym c.unwrap_or-chunk.ensures) ∙ put.parts in
    rw (err_is c.from_residual-in_err-write_all.result c.from_residual-in_err-write_all.ensures.1) (record {
      fed = front ++ more;
      left = drop step.taken rest;
      unwritten = put.unwritten;
      parts = sym (append_assoc front more (drop step.taken rest) ∙ ap (λ (t : List ℕ). front ++ t) (take-append-drop step.taken rest)
          ∙ rejoined fed piece at);
      released = fed_cut seals opens box_valid chunk_length (omega arith) kept after.key more (chunk_texts step.chunk)
          (after.stands (segment k front false) kept.stands) (c.in_ok-step.ensures.feeds.texts (segment k front false) kept.stands) (chunk_few
          step.chunk) is
          (record { bytes = put.wrote; count = put.count }) put.stopped refl refl;
      why = (rw c.loop-at.invariant.goes.1 at put.answered, inl put.stopped);
    })

pub loop-at-preserved : goal.loop-at-preserved
loop-at-preserved g c =
    let after = rw c.in_ok-step.was at c.feed.follows.holds-at-none in
    let ok = c.in_ok-step.ensures.feeds in
    let kept = c.loop-at.invariant in
    let piece = c.args.piece.now in
    let at = c.loop-at.at in
    let rest = take (length piece - at) (drop at piece) in
    let put = c.in_ok-write_all.ensures.writes in
    let step = c.in_ok-step.step in
    let more = take step.taken rest in
    let is = lent step.chunk _ refl ∙ ap (λ b. b.now) (sym c.unwrap_or-chunk.ensures) in
    let whole = put.parts ∙ ap (λ (t : List ℕ). put.out ++ t) put.answered.0 ∙ append-nil put.out in
    let room = holds_or_lends chunk_length c.loop-at.opener c.feed.follows.lender-at-none step.taken step.chunk after.lent after.unlent in
    let within : step.taken ≤ length rest = omega (arith, ok.taken) in
    record {
      same = kept.same;
      within = omega (arith, within, length-take (length piece - at) (drop at piece), length-drop at piece, kept.within);
      released = λ key k first fed h.
          let before = kept.released key k first fed h in
          let front = fed ++ take at piece in
          let on : front ++ more ≡ fed ++ take (at + step.taken) piece = append_assoc fed (take at piece) more
          ∙ ap (λ (t : List ℕ). fed ++ t) (take_on at step.taken piece) in
          rw (← on) (fed_whole seals opens box_valid chunk_length (omega arith) before after.key more (chunk_texts step.chunk)
          (after.stands (segment k front false) before.stands) (ok.texts (segment k front false) before.stands) step.index after.index (chunk_few
          step.chunk)
          (lent_flat step.chunk ∙ is ∙ whole) (record {
            bytes = put.wrote;
            count = c.count.ensures.same ∙ put.count;
          }) (rw whole at c.count.ensures.counted));
      goes = (
        omega (
          arith,
          room,
          kept.goes.0,
          c.count.ensures.same,
          put.count,
          ap length (is ∙ whole),
          ap length (take_on at step.taken piece),
          within,
          length-take step.taken rest,
          length-append {A = ℕ},
        ),
        put.answered.1 ∙ kept.goes.1,
        after.unfailed,
      );
    }

pub returns : goal.returns
returns g c = grind (arith, common_steps, take_all)
