use Rattle.std.proofs.lemmas.Grind.{common_steps}
use Rattle.std.proofs.Common.{◌≡◌, ◌-◌, ◌+◌, ap, ◌∙◌, arith, length, take, drop, List, ℕ, ◌++◌, take-append-drop}
use Rattle.std.proofs.lemmas.List.{take_rest, length-take, length-drop}
use Rattle.age_chunk.specs.{text_length}
use Rattle.age_stream.specs.{whole_text}
use Rattle.age_stream.proofs.{with_bytes-nil, bytes_on, take_on}
use Rattle.age_stream.proofs.replay.ReplayState.feed_all.Goals as goal

pub loop-at-init : goal.loop-at-init
loop-at-init g c = grind (arith, common_steps, with_bytes-nil)

pub loop-at-preserved : goal.loop-at-preserved
loop-at-preserved g c =
    let piece = c.args.piece.now in
    let at = c.loop-at.at in
    let taken = c.in-Some.taken in
    let r = c.in-Some.ensures in
    let left = length-take (length piece - at) (drop at piece) in
    let left2 = length-drop at piece in
    let e : length (take (length piece - at) (drop at piece)) - taken ≡ length piece - (at + taken) = omega (arith, left, left2) in
    record {
      within = omega (arith, r.taken.1, left, left2, c.loop-at.invariant.within);
      room = λ _. omega (arith, r.room, ap (λ (k : ℕ). whole_text (text_length g.row.SEALED) (length c.feed_once.new.self.opener.held + k)) e);
      goes = bytes_on g.B.ChunkBox.opening c.args.self.now c.loop-at.self c.feed_once.new.self (take at piece) _ _ c.loop-at.invariant.goes r.fed
          (take_on at taken piece);
    }

pub returns-in-None : goal.returns-in-None
returns-in-None g c =
    let piece = c.args.piece.now in
    let at = c.loop-at.at in
    bytes_on g.B.ChunkBox.opening c.args.self.now c.loop-at.self c.feed_once.new.self (take at piece) _ piece c.loop-at.invariant.goes c.in-None.ensures.refused
    (ap (λ (ys : List ℕ). take at piece ++ ys) (take_rest piece at) ∙ take-append-drop at piece)

pub feed_once-requires : goal.feed_once-requires
feed_once-requires g c = grind arith
