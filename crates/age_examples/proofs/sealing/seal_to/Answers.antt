use Rattle.std.proofs.Common.{◌≡◌, ◌-◌, ℕ, ◌+◌, length, take, drop, List, ◌++◌, ap, sym, subst, ◌∙◌, arith}
use Rattle.std.proofs.lemmas.List.{take_all, length-take, length-drop}
use Rattle.age_io.specs.Taken.{Appends}
use Rattle.age_stream.specs.{Holds}
use Rattle.age_chunk.specs.{sealed_before_last, block_bytes, payload, chunk_length}
use Rattle.age_stream.proofs.{step_len_le, take_on}
use Rattle.age_io.proofs.{Appends-trans}
use Rattle.age_examples.proofs.sealing.seal_to.Goals as goal

pub loop-at-preserved : goal.loop-at-preserved
loop-at-preserved g c =
    let after = rw c.in_ok-step.was at c.feed.follows.holds-at-none in
    let inv = c.loop-at.invariant in
    let text = c.args.text.now in
    let at = c.loop-at.at in
    let taken = c.in_ok-step.step.taken in
    let piece = take (length text - at) (drop at text) in
    let on : take at text ++ take taken piece ≡ take (at + taken) text = take_on at taken text in
    let blocks : List ℕ → List ℕ = λ t. block_bytes (sealed_before_last (g.B.ChunkBox.sealing c.args.key.now) chunk_length t) in
    let chunk = rw inv.key at (c.in_ok-step.ensures.takes.chunk (take at text) inv.holds) in
    let grown : blocks (take at text) ++ c.unwrap_chunk.result.now ≡ blocks (take (at + taken) text) =
    ap (λ (t : List ℕ). blocks (take at text) ++ t) c.unwrap_chunk.ensures ∙ sym chunk ∙ ap blocks on in
    record {
      within = omega (
        arith,
        c.in_ok-step.ensures.takes.taken,
        step_len_le chunk_length c.loop-at.sealer.held piece,
        length-take (length text - at) (drop at text),
        length-drop at text,
        c.loop-at-test.true,
      );
      unfinished = after.unfinished;
      unfailed = after.unfailed;
      key = after.key ∙ inv.key;
      holds = subst (λ (t : List ℕ). Holds chunk_length c.feed.follows.lender-at-none t) on (after.holds (take at text) inv.holds);
      wrote = subst (λ (t : List ℕ). Appends (g.O.Sink.view c.args.sink.now).taken (g.O.Sink.view c.put.new.sink).taken t) grown
          (Appends-trans _ _ _ _ _ inv.wrote c.in_ok-put.ensures);
    }

pub returns : goal.returns
returns g c =
    let inv = c.loop-at.invariant in
    let all = take_all c.loop-at.at c.args.text.now (omega (arith, c.loop-at-test.false)) in
    let last = rw inv.key at (c.in_ok-finish.ensures.finishes.chunk _ inv.holds) in
    let whole = sym last ∙ ap (payload (g.B.ChunkBox.sealing c.args.key.now) chunk_length) all in
    record {
      sealed = subst (λ (t : List ℕ). Appends (g.O.Sink.view c.args.sink.now).taken (g.O.Sink.view c.put-2.new.sink).taken t) whole
          (Appends-trans _ _ _ _ _ inv.wrote c.in_ok-put-2.ensures);
    }
