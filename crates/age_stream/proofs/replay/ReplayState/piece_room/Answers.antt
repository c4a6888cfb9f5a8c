use Rattle.std.proofs.Common.{◌≡◌, ◌+◌, refl, sym, ◌∙◌, length, arith}
use Rattle.age_chunk.specs.{tag_length, text_length}
use Rattle.age_stream.proofs.{part_within}
use Rattle.age_stream.proofs.replay.ReplayState.piece_room.Goals as goal

pub status-requires : goal.status-requires
status-requires g c = grind arith

pub held_len-requires : goal.held_len-requires
held_len-requires g c = grind arith

pub overflow_add-result : goal.overflow_add-result
overflow_add-result g c = omega (arith, c.held_len.ensures.fits)

pub nonzero_div-result : goal.nonzero_div-result
nonzero_div-result g c = omega (arith, c.args.self.now.sizes)

pub overflow_mul-result : goal.overflow_mul-result
overflow_mul-result g c =
    omega (arith, c.held_len.ensures.fits, part_within (c.held_len.result + length c.args.piece.now) g.row.SEALED (text_length g.row.SEALED) (omega arith))

pub returns-in-Open : goal.returns-in-Open
returns-in-Open g c =
    let whole : text_length g.row.SEALED + tag_length ≡ g.row.SEALED = omega (arith, c.args.self.now.sizes) in
    rw (sym c.status.ensures ∙ c.in-Open.is, whole, c.held_len.ensures.len) refl
