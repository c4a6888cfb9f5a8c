-- Chains and their marks, and what was written, one step after another.
use Rattle.std.proofs.Common.{◌≡◌, ℕ, List, [], ◌++◌, length, sym, ap, ◌∙◌, arith, ◌∷◌, replicate}
use Rattle.std.proofs.lemmas.List.{length-append, take_all}
use Rattle.age_io.proofs.{Appends-nil, Appends-trans}
use Rattle.age_file_position.specs.inner.{WriterView, Wrote}
use Rattle.age_file_position.specs.Bindings.{chain, link}
use Rattle.age_file_position.specs.declared.chunk_chain.Checkpoint.{Checkpoint}
use Rattle.age_file_position.specs.Checkpoints.{IsMark}
use Rattle.std.proofs.lemmas.Grind.{fold-append}

-- ---- What was written, one step after another.

pub wrote_none : (a : WriterView) → Wrote a a []
wrote_none a = record { bytes = Appends-nil a.sink.taken; count = omega arith }

pub wrote_then : {a b c : WriterView} {p q : List ℕ} → Wrote a b p → Wrote b c q → Wrote a c (p ++ q)
wrote_then {a} {b} {c} {p} {q} f g = record {
  bytes = Appends-trans a.sink.taken b.sink.taken c.sink.taken p q f.bytes g.bytes;
  count = omega (arith, f.count, g.count, length-append p q);
}

-- the mark of all chunks
pub mark_all_of : (chunks : List (List ℕ)) (m : Checkpoint) → m.index ≡ length chunks → m.chain ≡ chain chunks → IsMark chunks m
mark_all_of chunks m index is = record {
  few = omega (arith, index);
  chain_is = is ∙ ap chain (sym (take_all m.index chunks (omega (arith, index))));
}

-- ---- Counting the chunks that were written, one step after another. A chunk has n bytes.

-- one link more
pub chain_on : (chunks : List (List ℕ)) (chunk : List ℕ) → chain (chunks ++ chunk ∷ []) ≡ link (chain chunks) chunk
unfolding chain
chain_on chunks chunk = fold-append link (replicate 32 0) chunks (chunk ∷ [])
