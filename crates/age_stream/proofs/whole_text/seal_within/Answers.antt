use Rattle.std.proofs.Common.{◌<◌, ◌≡◌, ◌-◌, ◌≤◌, ℕ, length, take, drop, List, ◌++◌, ap, sym, subst, ◌∙◌, arith}
use Rattle.std.proofs.lemmas.List.{take_all, length-take, length-drop, length-append, append_assoc}
use Rattle.age_chunk.specs.{text_length, last_index, payload}
use Rattle.age_stream.specs.{Holds, chunk_bytes}
use Rattle.age_stream.proofs.{step_len_le, take_on, front_of, fed_on, fed_fits, last_fits}
use Rattle.age_stream.proofs.whole_text.seal_within.Goals as goal

pub loop-at-preserved : goal.loop-at-preserved
loop-at-preserved g c =
    let text = c.args.text.now in
    let m = text_length g.row.SEALED in
    let at = c.loop-at.at in
    let inv = c.loop-at.invariant in
    let after = rw c.in_ok-step.was at c.feed.follows.holds-at-none in
    let step = c.in_ok-step.step in
    let takes = c.in_ok-step.ensures.takes in
    let piece = take (length text - at) (drop at text) in
    let short : step.taken ≤ length piece = omega (arith, takes.taken, step_len_le m c.loop-at.sealer.held piece) in
    let front = front_of (g.B.ChunkBox.sealing c.args.key.now) m in
    let chunk = rw inv.key at (takes.chunk (take at text) inv.holds) in
    let now = fed_on (g.B.ChunkBox.sealing c.args.key.now) m text at step.taken (chunk_bytes step.chunk) chunk in
    record {
      within = omega (arith, short, length-take (length text - at) (drop at text), length-drop at text, c.loop-at-test.true);
      open_ = after.unfinished;
      sound = after.unfailed;
      key = after.key ∙ inv.key;
      holds = subst (λ (t : List ℕ). Holds m c.feed.follows.lender-at-none t) (take_on at step.taken text) (after.holds (take at text) inv.holds);
      capacity = omega (arith, inv.capacity, c.push_lent.ensures.capacity);
      blocks = c.push_lent.ensures.items
          ∙ (ap (λ (t : List ℕ). t ++ chunk_bytes step.chunk) inv.blocks
          ∙ (append_assoc c.args.out.now.items (front (take at text)) (chunk_bytes step.chunk) ∙ ap (λ (t : List ℕ). c.args.out.now.items ++ t) (sym now)));
    }

pub push_lent-requires : goal.push_lent-requires
push_lent-requires g c =
    let text = c.args.text.now in
    let m = text_length g.row.SEALED in
    let at = c.loop-at.at in
    let inv = c.loop-at.invariant in
    let step = c.in_ok-step.step in
    let key = c.args.key.now in
    let sealing = g.B.ChunkBox.sealing key in
    let positive : 0 < m = omega (arith, c.requires.least) in
    let chunk = rw inv.key at (c.in_ok-step.ensures.takes.chunk (take at text) inv.holds) in
    let fits = fed_fits sealing m text (g.B.ChunkBox.opening key) (g.met.B.ChunkBox.valid key) positive at step.taken (chunk_bytes step.chunk)
    (fed_on sealing m text at step.taken (chunk_bytes step.chunk) chunk) in
    omega (arith, c.requires.room, inv.capacity, ap length inv.blocks, length-append c.args.out.now.items (front_of sealing m (take at text)), fits, c.loop-at.out.ok)

pub push_lent-requires-2 : goal.push_lent-requires-2
push_lent-requires-2 g c =
    let text = c.args.text.now in
    let m = text_length g.row.SEALED in
    let inv = c.loop-at.invariant in
    let key = c.args.key.now in
    let sealing = g.B.ChunkBox.sealing key in
    let positive : 0 < m = omega (arith, c.requires.least) in
    let here : List ℕ = take c.loop-at.at text in
    let all : here ≡ text = take_all c.loop-at.at text (omega (arith, c.loop-at-test.false)) in
    let last = rw inv.key at (c.in_ok-finish.ensures.finishes.chunk here inv.holds) in
    let fits = last_fits sealing m text (g.B.ChunkBox.opening key) (g.met.B.ChunkBox.valid key) positive here c.in_ok-finish.field-0.now
    (ap (payload sealing m) (sym all) ∙ last) in
    omega (arith, c.requires.room, inv.capacity, ap length inv.blocks, length-append c.args.out.now.items (front_of sealing m here), fits, c.loop-at.out.ok)

pub returns : goal.returns
returns g c =
    let text = c.args.text.now in
    let m = text_length g.row.SEALED in
    let inv = c.loop-at.invariant in
    let sealing = g.B.ChunkBox.sealing c.args.key.now in
    let here : List ℕ = take c.loop-at.at text in
    let all : here ≡ text = take_all c.loop-at.at text (omega (arith, c.loop-at-test.false)) in
    let last = rw inv.key at (c.in_ok-finish.ensures.finishes.chunk here inv.holds) in
    record {
      sealed = c.push_lent-2.ensures.items
          ∙ (ap (λ (t : List ℕ). t ++ c.in_ok-finish.field-0.now) inv.blocks
          ∙ (append_assoc c.args.out.now.items (front_of sealing m here) c.in_ok-finish.field-0.now
          ∙ ap (λ (t : List ℕ). c.args.out.now.items ++ t) (sym last ∙ ap (payload sealing m) all)));
      few = omega (arith, c.in_ok-finish.ensures.finishes.limit, inv.holds.index, ap (last_index m) all);
      refused = tt;
      begun = tt;
    }
