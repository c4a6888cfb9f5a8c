use Rattle.std.proofs.lemmas.Grind.{common_steps}
use Rattle.std.proofs.Common.{refl, ◌+◌, ◌≡◌, ◌-◌, ◌≤◌, length, take, drop, ap, sym, ◌∙◌, arith, ℕ, List, ◌++◌, append-nil, append_assoc}
use Rattle.std.proofs.Common.{take-append-drop}
use Rattle.std.proofs.lemmas.List.{length-take, length-drop, length-append, take_all}
use Rattle.age_stream.proofs.{lent, rejoined, step_len_le, take_on}
use Rattle.age_keys.specs.inner.{box_valid, opens, seals}
use Rattle.age_file_input.proofs.ReadLemmas.{err_is}
use Rattle.age_file_encrypt.proofs.SealLemmas.{lent_few, seal_refused, seal_on, seal_cut, room_left}
use Rattle.age_chunk.specs.{block_length, chunk_length}
use Rattle.age_file_encrypt.proofs.payload.seal_piece.Goals as goal

pub loop-at-init : goal.loop-at-init
loop-at-init g c = grind (arith, common_steps, append-nil)

pub feed-requires : goal.feed-requires
feed-requires g c = grind (arith, common_steps)

-- the sealer refused the rest
pub returns-in_err-step-clause-sealed : goal.returns-in_err-step-clause-sealed
returns-in_err-step-clause-sealed g c = λ key first text h.
    let p = err_is c.from_residual.result c.from_residual.ensures.1 in
    let kept = c.loop-at.invariant.sealed key first text h in
    let piece = c.args.piece.now in
    let at = c.loop-at.at in
    let refused = c.in_err-step.ensures.takes.refused in
    rw (p, ← rejoined text piece at) (seal_refused (omega arith) kept (take (length piece - at) (drop at piece)) c.in_err-step.field-0.0
    kept.feeding.sound refused.0 refused.1)

pub write_all-requires : goal.write_all-requires
write_all-requires g c =
    let room = c.requires in
    let kept = c.loop-at.invariant.sealed room.key room.first room.text room.sealed in
    let fed = take c.loop-at.at c.args.piece.now in
    let left = room_left seals opens {s = c.loop-at.sealer} {more = 0} box_valid (omega arith) (record {
      key = room.key;
      first = room.first;
      text = room.text ++ fed;
      sealed = kept;
      small = omega (arith, room.small, length-append room.text fed, length-take c.loop-at.at c.args.piece.now);
      count = room.count;
    }) in
    let few : length c.unwrap_or-block.result.now ≤ block_length =
    rw c.unwrap_or-block.ensures (lent_few c.in_ok-step.step.chunk _ block_length refl c.in_ok-step.ensures.takes.whole) in
    omega (arith, left, few)

-- the sink failed
pub returns-in_err-write_all-clause-sealed : goal.returns-in_err-write_all-clause-sealed
returns-in_err-write_all-clause-sealed g c = λ key first text h.
    let p = err_is c.from_residual-in_err-write_all.result c.from_residual-in_err-write_all.ensures.1 in
    let kept = c.loop-at.invariant.sealed key first text h in
    let piece = c.args.piece.now in
    let at = c.loop-at.at in
    let rest = take (length piece - at) (drop at piece) in
    let put = c.in_err-write_all.ensures.writes in
    let step = c.in_ok-step.step in
    let front = text ++ take at piece in
    let is = lent step.chunk _ refl ∙ ap (λ b. b.now) (sym c.unwrap_or-block.ensures) ∙ put.parts in
    let all : (front ++ take step.taken rest) ++ drop step.taken rest ≡ text ++ piece = append_assoc front (take step.taken rest) (drop step.taken
    rest)
    ∙ ap (λ (t : List ℕ). front ++ t) (take-append-drop step.taken rest) ∙ rejoined text piece at in
    rw (p, ← all) (seal_cut (omega arith) kept (take step.taken rest) put.out put.unwritten
    (record { bytes = put.wrote; count = put.count }) (rw is at (c.in_ok-step.ensures.takes.chunk front
    kept.holds))
    (drop step.taken rest) put.answered)

pub loop-at-preserved : goal.loop-at-preserved
loop-at-preserved g c =
    let piece = c.args.piece.now in
    let at = c.loop-at.at in
    let rest = take (length piece - at) (drop at piece) in
    let after = rw c.in_ok-step.was at c.feed.follows.holds-at-none in
    let ok = c.in_ok-step.ensures.takes in
    let put = c.in_ok-write_all.ensures.writes in
    let step = c.in_ok-step.step in
    let is = lent step.chunk _ refl ∙ ap (λ b. b.now) (sym c.unwrap_or-block.ensures) ∙ put.parts in
    record {
      same_writer = c.loop-at.invariant.same_writer;
      within = omega (
        arith,
        ok.taken,
        step_len_le chunk_length c.loop-at.sealer.held rest,
        length-take (length piece - at) (drop at piece),
        length-drop at piece,
        c.loop-at.invariant.within,
      );
      sealed = λ key first text h.
          let kept = c.loop-at.invariant.sealed key first text h in
          let front = text ++ take at piece in
          let on : front ++ take step.taken rest ≡ text ++ take (at + step.taken) piece = append_assoc text (take at piece) (take step.taken rest)
          ∙ ap (λ (t : List ℕ). text ++ t) (take_on at step.taken piece) in
          rw (← on) (seal_on (omega arith) kept (take step.taken rest) put.out put.unwritten
          (record { bytes = put.wrote; count = put.count }) (rw is at (ok.chunk front kept.holds)) after.key
          (record { unfinished = after.unfinished; sound = after.unfailed }) (after.holds front kept.holds) put.answered.0 put.answered.1);
    }

pub returns-clause-sealed : goal.returns-clause-sealed
returns-clause-sealed g c = λ key first text h.
    rw (take_all c.loop-at.at c.args.piece.now (omega arith)) at (c.loop-at.invariant.sealed key first text h)
