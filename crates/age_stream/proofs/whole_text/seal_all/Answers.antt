use Rattle.std.proofs.Common.{◌<◌, ◌++◌, List, ℕ, ap, sym, subst, ◌∙◌, arith}
use Rattle.age_stream.specs.{GivesBack}
use Rattle.age_chunk.specs.{payload}
use Rattle.age_stream.proofs.{comes_back}
use Rattle.age_stream.proofs.whole_text.seal_all.Goals as goal
use Rattle.age_chunk.specs.{text_length}

pub returns : goal.returns
returns g c =
    let m = text_length g.row.SEALED in
    let key = c.args.key.now in
    let positive : 0 < m = omega (arith, c.requires.least) in
    let bytes = payload (g.B.ChunkBox.sealing key) m c.args.text.now in
    let after = c.in_ok-seal_into.ensures in
    let sealed = after.sealed ∙ ap (λ (front : List ℕ). front ++ bytes) c.new-out.ensures.items in
    record {
      sealed = sealed;
      few = after.few;
      gives_back = λ closed.
          subst (λ (bytes : List ℕ). GivesBack (g.B.ChunkBox.opening key) m bytes c.args.text.now) (sym sealed)
          (comes_back (g.B.ChunkBox.sealing key) (g.B.ChunkBox.opening key) m c.args.text.now
          (record { valid = g.met.B.ChunkBox.valid key; some = positive; few = after.few; closed = closed }));
      refused = tt;
    }
