use Rattle.std.proofs.Common.{◌∙◌, sym, ap, length}
use Rattle.age_file_position.specs.Bindings.{chain}
use Rattle.age_file_position.proofs.MarkLemmas.{mark_all_of}
use Rattle.age_file_position.proofs.chunk_chain.ChunkChain.new.Goals as goal

pub invariant_of-result : goal.invariant_of-result
invariant_of-result c =
    let none = c.new.ensures in
    let first = mark_all_of c.new.result c.start.result (c.start.ensures.index ∙ ap length (sym none)) (c.start.ensures.chain ∙ ap chain (sym none)) in
    (first, c.start.ensures.index ∙ ap length (sym none), rw none c.start_pairs.ensures)
