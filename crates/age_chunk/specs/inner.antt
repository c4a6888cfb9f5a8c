-- The box that hides nothing is valid. The code cites this proof, so it can't stand in `proofs/`.
use Rattle.std.specs.Prelude.{◌≡◌, ◌≤◌, ℕ, ◌+◌, List, [], ◌∷◌, ◌++◌, length, take, drop}
use Rattle.std.specs.Prelude.{Some, nat_le, ◌&&◌, Bool, true}
use Rattle.std.specs.Str.{bytes_eq}
use Rattle.std.proofs.Common.{sym, ap, subst, ◌∙◌}
use Rattle.std.proofs.Math.Nat.{eq-sub_of_add-eq, le-add_left}
use Rattle.std.proofs.lemmas.Slice.Eq.{bytes_eq-Decides}
use Rattle.std.proofs.lemmas.List.{length-append, drop_at, take_at, take-append-drop}
use Rattle.std.proofs.lemmas.Bool.{le-leb, and_from, and_parts, cond-true}
use Rattle.std.proofs.lemmas.Option.{cond_some}
use Rattle.age_chunk.specs.ChunkBoxes.{IsChunkBox, tag_length, text_length, clear_mark, clear_sealing}
use Rattle.age_chunk.specs.ChunkBoxes.{clear_opening}

longer : (nonce text : List ℕ) → length nonce ≡ 12
    → length (clear_sealing nonce text) ≡ length text + tag_length
longer nonce text h =
    length-append text (clear_mark nonce)
    ∙ ap (λ (k : ℕ). length text + k)
    (length-append nonce (0 ∷ 0 ∷ 0 ∷ 0 ∷ []) ∙ ap (λ (k : ℕ). k + 4) h)

pub clear_valid : IsChunkBox clear_sealing clear_opening
clear_valid =
    record {
      longer = longer;
      opens =
          λ nonce text h.
          let mark = clear_mark nonce in
          let block = text ++ mark in
          let here : length text ≡ text_length (length block) =
          eq-sub_of_add-eq (length text) tag_length (sym (longer nonce text h)) in
          let long : nat_le tag_length (length block) ≡ true =
          le-leb tag_length (length block)
          (subst (λ (k : ℕ). tag_length ≤ k) (sym (longer nonce text h))
          (le-add_left tag_length (length text))) in
          let same : bytes_eq (drop (text_length (length block)) block) mark ≡ true =
          (bytes_eq-Decides (drop (text_length (length block)) block) mark).1
          (drop_at text mark (text_length (length block)) here) in
          cond-true _ _ _ (and_from _ _ long same)
          ∙ ap (λ (t : List ℕ). Some t) (take_at text mark (text_length (length block)) here);
      only =
          λ nonce text block h e.
          let long : Bool = nat_le tag_length (length block) in
          let mark : Bool = bytes_eq (drop (text_length (length block)) block) (clear_mark nonce) in
          let t = cond_some (long && mark) (take (text_length (length block)) block) text e in
          let tail : drop (text_length (length block)) block ≡ clear_mark nonce =
          (bytes_eq-Decides (drop (text_length (length block)) block) (clear_mark nonce)).0
          (and_parts long mark t.0).1 in
          ap (λ (x : List ℕ). x ++ clear_mark nonce) (sym t.1)
          ∙ (ap (λ (x : List ℕ). take (text_length (length block)) block ++ x) (sym tail)
          ∙ take-append-drop (text_length (length block)) block);
    }
