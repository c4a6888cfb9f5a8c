-- A box that is valid on bytes is valid once it is continued to all lists.
use Rattle.std.proofs.lemmas.Grind.{common_steps}
use Rattle.std.specs.Prelude.{◌≡◌, ℕ, ◌+◌, List, ◌++◌, length, take, Option, Some, None, nat_lt, ◌&&◌, true, false, not, if◌then◌else◌}
use Rattle.std.specs.Str.{bytes_eq}
use Rattle.std.proofs.Common.{refl, sym, ap, ◌∙◌, arith}
use Rattle.std.proofs.lemmas.Slice.Eq.{bytes_eq-Decides}
use Rattle.std.proofs.lemmas.List.{length-append, length-replicate, take_at}
use Rattle.std.proofs.lemmas.List.Folds.{list_all-append}
use Rattle.std.proofs.lemmas.Bool.{and_parts, and_right, cond_both, cond-true, cond-false, not-true}
use Rattle.std.proofs.lemmas.Option.{cond_some}
use Rattle.age_chunk.specs.{Seals, OpensBlock, tag_length, text_length, BytesSuffice, are_bytes, is_text, is_block, IsChunkBoxOnBytes, no_tag, sealing_beyond}
use Rattle.age_chunk.specs.{opening_beyond}

no_bytes : (text : List ℕ) → are_bytes (text ++ no_tag) ≡ false
no_bytes text = list_all-append (λ (b : ℕ). nat_lt b 256) text no_tag ∙ and_right (are_bytes text) false refl

longer_by_mark : (text : List ℕ) → length (text ++ no_tag) ≡ length text + tag_length
longer_by_mark text = length-append text no_tag ∙ ap (λ (k : ℕ). length text + k) (length-replicate {A = ℕ} tag_length 256)

-- what a list that is no block opens to
abbrev marked : List ℕ → List ℕ → Option (List ℕ)
marked nonce block =
    let front = take (text_length (length block)) block in
    if not (is_text nonce front) && bytes_eq (front ++ no_tag) block then Some front else None

-- a list with the mark is no block
none_is : (nonce text : List ℕ) → is_block nonce (text ++ no_tag) ≡ false
none_is nonce text = grind (arith, common_steps)

unmarks : (nonce text : List ℕ) → is_text nonce text ≡ false → marked nonce (text ++ no_tag) ≡ Some text
unmarks nonce text f = grind (arith, common_steps, bytes_eq-Decides, cond-true, longer_by_mark, take_at)

module _ (sealing : Seals) (opening : OpensBlock) (valid : IsChunkBoxOnBytes sealing opening) where
  -- the block of a text is a block
  block_is : (nonce text : List ℕ) → length nonce ≡ 12 → is_text nonce text ≡ true → is_block nonce (sealing nonce text) ≡ true
  block_is nonce text h t = grind (arith, common_steps)

pub valid_beyond : BytesSuffice
valid_beyond sealing opening valid =
    record {
      longer =
          λ nonce text h. cond_both (is_text nonce text) _ _ (λ (block : List ℕ). length block ≡ length text + tag_length)
          (valid.longer nonce text h) (λ _. longer_by_mark text);
      opens =
          λ nonce text h. cond_both (is_text nonce text) _ _ (λ (block : List ℕ). opening_beyond opening nonce block ≡ Some text)
          (λ t. cond-true (is_block nonce (sealing nonce text)) _ _ (block_is sealing opening valid nonce text h t) ∙ valid.opens nonce text h t)
          (λ f. cond-false (is_block nonce (text ++ no_tag)) _ _ (none_is nonce text) ∙ unmarks nonce text f);
      only =
          λ nonce text block h e. cond_both (is_block nonce block) _ _ (λ (o : Option (List ℕ)). o ≡ Some text → sealing_beyond sealing nonce text ≡ block)
          (λ t e. let o = valid.only nonce text block h t e in cond-true (is_text nonce text) _ _ o.0 ∙ o.1)
          (λ _ e.
          let front = take (text_length (length block)) block in
          let m = cond_some (not (is_text nonce front) && bytes_eq (front ++ no_tag) block) front text e in
          let p = and_parts (not (is_text nonce front)) (bytes_eq (front ++ no_tag) block) m.0 in
          let no : is_text nonce text ≡ false = ap (is_text nonce) (sym m.1) ∙ not-true (is_text nonce front) p.0 in
          cond-false (is_text nonce text) _ _ no
          ∙ (ap (λ (x : List ℕ). x ++ no_tag) (sym m.1) ∙ (bytes_eq-Decides (front ++ no_tag) block).0 p.1)) e;
    }
