use Rattle.std.proofs.Common.{refl, ap, sym, ◌∙◌, ℕ, [], ◌∷◌, take}
use Rattle.std.specs.Prelude.{Ok, Err}
use Rattle.age_chunk.specs.{text_length}
use Rattle.age_stream.proofs.{tried_last}
use Rattle.age_stream.proofs.opener.OpenerState.try_block.Goals as goal

pub returns-then-open_block-2 : goal.returns-then-open_block-2
returns-then-open_block-2 g c =
    let old = c.args.self.now in
    let first = c.if-open_block.ensures.closed in
    let len = c.open_block.ensures.len ∙ c.requires.full in
    let front = ap (λ (k : ℕ). take (text_length k) c.open_block-2.new.buffer.items ∷ []) len in
    tried_last (g.B.ChunkBox.opening old.key.now) old _ (Ok tt) old.index old.buffer.items c.open_block.new.buffer.items _ first.0 first.1
    c.if-open_block-2.ensures.opened
    (record { key = refl; index = refl; status = refl; answered = (c.requires.lent, c.open_block-2.ensures.len ∙ len, refl, front) })

pub returns : goal.returns
returns g c =
    let old = c.args.self.now in
    let first = c.if-open_block.ensures.closed in
    let fail = c.fail-2.ensures in
    tried_last (g.B.ChunkBox.opening old.key.now) old _ (Err c.fail-2.result) old.index old.buffer.items c.open_block.new.buffer.items _ first.0 first.1
    c.if-open_block-2.ensures.closed.0
    (record { key = fail.same.1; index = fail.same.0; status = fail.status; answered = (fail.status ∙ sym fail.fault, refl) })
