use Rattle.std.proofs.Common.{ℕ, ◌≡◌, List, take, drop, sym, ap, ◌∙◌, take-append-drop, drop-drop, arith}
use Rattle.std.proofs.Math.Seq.{take-add}
use Rattle.std.proofs.lemmas.List.{take_rest}
use Rattle.std.proofs.lemmas.Grind.{common_steps}
use Rattle.age_memory.proofs.source.MemSourceSource.pull.Goals as goal

pub returns-clause-bytes : goal.returns-clause-bytes
returns-clause-bytes c =
    let at = c.self.inside.at in
    let n = c.min-n.result in
    let items = c.self.inside.bytes.items in
    let came : take n c.copy_front.new.into ≡ take n (drop at items) =
    c.copy_front.ensures.front ∙ ap (take n) (take_rest c.deref.result.now at) ∙ ap (λ (t : List ℕ). take n (drop at t)) c.deref.ensures.value in
    rw (c.note-2.ensures.result, ← c.self.view_is) (
      record {
        given = rw came (take-add at n items);
        left = rw (came, ← drop-drop n at items) (sym (take-append-drop n (drop at items)));
      },
      λ zero some. grind (arith, common_steps),
      λ some. grind (arith, common_steps),
    )
