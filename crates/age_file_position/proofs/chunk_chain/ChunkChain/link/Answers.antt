use Rattle.std.proofs.Common.{◌∙◌, ◌≡◌, ◌+◌, ◌++◌, ◌∷◌, [], sym, ap, arith, length, List, ℕ}
use Rattle.std.proofs.lemmas.List.{length-append}
use Rattle.age_file_position.specs.Bindings.{chain, link}
use Rattle.age_file_position.specs.declared.chunk_chain.Checkpoint.{Checkpoint}
use Rattle.age_file_position.proofs.MarkLemmas.{chain_on, mark_all_of}
use Rattle.age_file_position.proofs.chunk_chain.ChunkChain.link.Goals as goal

pub invariant_of-self : goal.invariant_of-self
invariant_of-self c =
    let chunks = c.self.inside.chunks in
    let chunk = c.args.chunk.now in
    let now = c.note.ensures in
    let mark : Checkpoint = record { index = c.self.inside.last.index + 1; chain = c.finalize.result } in
    let size : mark.index ≡ length (chunks ++ chunk ∷ []) = omega (arith, c.self.invariant.1, length-append chunks (chunk ∷ [])) in
    let last = mark_all_of (chunks ++ chunk ∷ []) mark size (c.finalize.ensures _ c.requires.fed
    ∙ ap (λ (cs : List (List ℕ)). link (chain cs) chunk) (sym c.self.view_is) ∙ sym (chain_on chunks chunk)) in
    rw now (last, size, c.pairs_after-self-inside.ensures chunks chunk c.self.invariant.2 last (omega (arith, c.self.invariant.1)))
