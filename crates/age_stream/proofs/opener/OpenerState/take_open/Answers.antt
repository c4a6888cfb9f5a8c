use Rattle.std.proofs.Common.{◌-◌, ap, ◌∙◌, List, ◌++◌, length, take, ℕ, arith}
use Rattle.std.proofs.lemmas.Result.{err_from_is_err_and}
use Rattle.age_stream.proofs.{takes_part, takes_whole, takes_refused}
use Rattle.age_stream.proofs.opener.OpenerState.take_open.Goals as goal

pub returns-then-piece-room : goal.returns-then-piece-room
returns-then-piece-room g c =
    let old = c.args.self.now in
    let same = c.reclaim.ensures.same in
    takes_part g.B.ChunkBox.sealing g.B.ChunkBox.opening old _ (g.met.B.ChunkBox.valid old.key.now) same.1 c.args.piece.now c.requires
    (omega (arith, ap length c.reclaim.ensures.buffer)) same.0 same.2 c.reclaim.ensures.lent
    (c.push_bytes.ensures ∙ ap (λ (front : List ℕ). front ++ c.args.piece.now) c.reclaim.ensures.buffer)

pub returns : goal.returns
returns g c =
    let old = c.args.self.now in
    let same = c.reclaim.ensures.same in
    let room = g.row.SEALED - c.len-room.result in
    let held = ap length c.reclaim.ensures.buffer in
    let tried = c.in_ok-try_block.ensures in
    takes_whole g.B.ChunkBox.sealing g.B.ChunkBox.opening old c.try_block.new.self (g.met.B.ChunkBox.valid old.key.now) (tried.key ∙ same.1) c.args.piece.now
    c.requires room (omega (arith, held, c.len-room.ensures.fits)) (omega arith) _ same.1 same.0
    (c.push_bytes-2.ensures ∙ ap (λ (front : List ℕ). front ++ take room c.args.piece.now) c.reclaim.ensures.buffer) tried

pub returns-in_err-try_block : goal.returns-in_err-try_block
returns-in_err-try_block g c =
    let old = c.args.self.now in
    let same = c.reclaim.ensures.same in
    let room = g.row.SEALED - c.len-room.result in
    let held = ap length c.reclaim.ensures.buffer in
    let tried = c.in_err-try_block.ensures in
    let told = err_from_is_err_and c.from_residual.result c.from_residual.ensures.1 in
    rw (told.1, told.2) (takes_refused g.B.ChunkBox.sealing g.B.ChunkBox.opening old c.try_block.new.self (g.met.B.ChunkBox.valid old.key.now)
    (tried.key ∙ same.1) c.args.piece.now c.requires room (omega (arith, held, c.len-room.ensures.fits)) (omega arith) _ same.1 same.0
    (c.push_bytes-2.ensures ∙ ap (λ (front : List ℕ). front ++ take room c.args.piece.now) c.reclaim.ensures.buffer) _ tried)
