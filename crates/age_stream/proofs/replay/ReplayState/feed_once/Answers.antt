use Rattle.std.proofs.Common.{refl, ap, sym, ◌∙◌, ◌≤◌, arith, length, List, ℕ, [], ◌++◌, append-nil}
use Rattle.std.proofs.lemmas.List.{length-append}
use Rattle.age_stream.specs.{replay_view, chunk_texts, chunk_bytes}
use Rattle.age_stream.proofs.{room_left, replay_step, lent_flat}
use Rattle.age_stream.proofs.replay.ReplayState.feed_once.Goals as goal
use Rattle.age_chunk.specs.{text_length}

pub returns-in-Ok : goal.returns-in-Ok
returns-in-Ok g c =
    let after = rw c.in-Ok.is at c.feed.follows.holds-at-none in
    let ok = c.in-Ok.ensures.feeds in
    let step = c.in-Ok.step in
    let len = ap length c.push_lent.ensures.items ∙ length-append c.args.self.now.text.items (chunk_bytes step.chunk) in
    let items = c.push_lent.ensures.items ∙ ap (λ (t : List ℕ). c.args.self.now.text.items ++ t) (sym (lent_flat step.chunk)) in
    let long = c.push_lent.new.text.ok.0 in
    let was = c.args.self.now.text.ok.0 in
    let fits : step.taken ≤ length c.args.piece.now = omega (arith, ok.taken) in
    let left = room_left (text_length g.row.SEALED) (length c.args.self.now.opener.held) step.taken (length c.args.piece.now) _ step.chunk after.lent after.unlent
    fits in
    let room = c.requires.room (ok.was_open c.requires.some) in
    record {
      taken = (ok.some c.requires.some, fits);
      fed = record {
        stands = λ s h. replay_step g.B.ChunkBox.opening (text_length g.row.SEALED) (replay_view c.args.self.now) _ s _ (chunk_texts step.chunk) h refl after.key refl
            (after.stands s.segment h.segment) (ok.texts s.segment h.segment) items;
        capacity = c.push_lent.ensures.capacity;
        key = refl;
      };
      room = omega (arith, len, long, was, room, left, c.push_lent.ensures.capacity);
      refused = tt;
    }

pub returns-in-Err : goal.returns-in-Err
returns-in-Err g c =
    let after = rw c.in-Err.is at c.feed.follows.holds-at-none in
    let err = c.in-Err.ensures.feeds in
    record {
      taken = tt;
      fed = tt;
      room = tt;
      refused = record {
        stands = λ s h. replay_step g.B.ChunkBox.opening (text_length g.row.SEALED) (replay_view c.args.self.now) _ s _ [] h refl after.key refl
            (after.stands s.segment h.segment) (err.texts s.segment h.segment) (sym (append-nil c.args.self.now.text.items));
        capacity = omega arith;
        key = refl;
      };
    }

pub push_lent-requires : goal.push_lent-requires
push_lent-requires g c =
    let after = rw c.in-Ok.is at c.feed.follows.holds-at-none in
    let ok = c.in-Ok.ensures.feeds in
    let step = c.in-Ok.step in
    let fits : step.taken ≤ length c.args.piece.now = omega (arith, ok.taken) in
    let left = room_left (text_length g.row.SEALED) (length c.args.self.now.opener.held) step.taken (length c.args.piece.now) _ step.chunk after.lent after.unlent
    fits in
    let room = c.requires.room (ok.was_open c.requires.some) in
    omega (arith, room, left)
