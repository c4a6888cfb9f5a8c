-- A step of a sealer, for each text that it was given; and how much of a whole text's payload its blocks before the last are.
use Rattle.std.proofs.lemmas.Grind.{common_steps, flat_map-append}
use Rattle.std.proofs.Common.{◌≡◌, ℕ, ◌<◌, ◌≤◌, ◌+◌, ◌*◌, ◌-◌, refl, ap, sym, subst, ◌∙◌, List, [], ◌∷◌, ◌++◌, length, take, drop, Bool, true, false, take-add}
use Rattle.std.proofs.Common.{take-append-drop, arith}
use Rattle.std.specs.Prelude.{Option, Some, None, Result, Ok, IfSome}
use Rattle.std.specs.Borrow.{Bor}
use Rattle.std.proofs.lemmas.List.{append_assoc, append-nil, length-append, length-take, take_rest}
use Rattle.std.specs.List.{refill}
use Rattle.age_chunk.specs.{IsChunkBox, OpensBlock, Seals, tag_length, text_length, nonce_bytes, chunk_count, last_index, last_chunk, sealed_before_last}
use Rattle.age_chunk.specs.{block_bytes, pair, payload}
use Rattle.age_chunk.specs.declared.fault.StreamFault.{StreamFault}
use Rattle.age_stream.specs.{chunk_bytes, SealerView, Holds, step_len, sealer_view, IsTaken, Takes}
use Rattle.age_stream.specs.inner.{block_or_none, block_lent, IsStep, Grows, SealerCloses, Steps}
use Rattle.age_stream.specs.declared.sealer.SealerState.{SealerState}
use Rattle.age_stream.specs.declared.step.Step.{Step}
use Rattle.age_stream.proofs.ChunkLemmas.{sealed_grows, grown_index, grown_blocks, closed_index, closed_chunk, closed_blocks, last_index_le}
use Rattle.age_stream.proofs.LawLemmas.{payload_is_longer}

-- no more is taken than came
pub step_len_le : (m : ℕ) (held piece : List ℕ) → step_len m held piece ≤ length piece
step_len_le m held piece = grind arith

module _ {B : Type 0} (sealing : B → Seals) (n : ℕ) (old new : SealerView B) (positive : 0 < n) (piece : List ℕ) (taken : ℕ) where
  -- what a step leaves, for a text that the sealer was given
  pub record Follows (text : List ℕ) (block : Option (List ℕ)) : Type 0 where
    pub holds : Holds n new (text ++ take taken piece)
    pub blocks : block_bytes (sealed_before_last (sealing old.key) n (text ++ take taken piece))
        ≡ block_bytes (sealed_before_last (sealing old.key) n text) ++ block_or_none block

  grows : (text : List ℕ) → Holds n old text → Grows sealing n old piece taken new → Follows text None
  grows text h s = grind (arith, common_steps, append-nil, grown_blocks, grown_index, length-take)

  closes : (text : List ℕ) (block : List ℕ) (x : ℕ) → take taken piece ≡ x ∷ [] → Holds n old text → SealerCloses sealing n old piece taken block new
      → Follows text (Some block)
  closes text block x is h s =
      let m = n in
      let full : length (last_chunk m text) ≡ m = ap length (sym h.held) ∙ s.full in
      let key = sealing old.key in
      let e : block ≡ (pair key false (last_index m text, last_chunk m text)).1 =
      s.sealed ∙ (ap (λ (i : ℕ). key (nonce_bytes i false) old.held) h.index ∙ ap (key (nonce_bytes (last_index m text) false)) h.held) in
      let P : List ℕ → Type 0 = λ more. Holds n new (text ++ more) in
      let Q : List ℕ → Type 0 = λ more. block_bytes (sealed_before_last key m (text ++ more)) ≡ block_bytes (sealed_before_last key m text) ++ block in
      record {
        holds = subst P (sym is) (record {
          index = s.index ∙ (ap (λ (i : ℕ). i + 1) h.index ∙ sym (closed_index m positive text x full));
          held = s.held ∙ (is ∙ sym (closed_chunk m positive text x full));
        });
        blocks = subst Q (sym is)
            (ap block_bytes (closed_blocks m positive text x full key)
            ∙ (flat_map-append (λ (p : List ℕ × List ℕ). p.1) (sealed_before_last key m text) (pair key false (last_index m text, last_chunk m text) ∷ [])
            ∙ ap (λ (t : List ℕ). block_bytes (sealed_before_last key m text) ++ t) (append-nil (pair key false (last_index m text, last_chunk m text)).1
            ∙ sym e)));
      }

  front_byte : (p : List ℕ) (k : ℕ) → k ≡ 1 → 0 < length p → (x : ℕ) × (take k p ≡ x ∷ [])
  front_byte [] k e h = absurd (omega arith)
  front_byte (x ∷ xs) k e h = (x, ap (λ (i : ℕ). take i (x ∷ xs)) e)

  pub follows : (text : List ℕ) (block : Option (List ℕ)) → Holds n old text → IsStep sealing n old piece taken block new → Follows text block
  follows text None h s = grows text h s.cases
  follows text (Some block) h s = let f = front_byte piece taken s.cases.one s.cases.more in closes text block f.0 f.1 h s.cases

module _ {B : Type 0} (sealing : B → Seals) (n : ℕ) (old : SealerView B) where
  pub payload_is : (text block : List ℕ) → Holds n old text → block ≡ sealing old.key (nonce_bytes old.index true) old.held
      → payload (sealing old.key) n text ≡ block_bytes (sealed_before_last (sealing old.key) n text) ++ block
  payload_is text block h e =
      let m = n in
      let key = sealing old.key in
      let is : block ≡ (pair key true (last_index m text, last_chunk m text)).1 =
      e ∙ (ap (λ (i : ℕ). key (nonce_bytes i true) old.held) h.index ∙ ap (key (nonce_bytes (last_index m text) true)) h.held) in
      flat_map-append (λ (p : List ℕ × List ℕ). p.1) (sealed_before_last key m text) (pair key true (last_index m text, last_chunk m text) ∷ [])
      ∙ ap (λ (t : List ℕ). block_bytes (sealed_before_last key m text) ++ t) (append-nil (pair key true (last_index m text, last_chunk m text)).1 ∙ sym is)

-- ---- What `feed` answers, by what a step on the state does.

module _ {B : Type 0} {n : ℕ} {g : _} (sealing : B → Seals) (old new : SealerState B n g) (unfinished : old.finished ≡ false) (piece : List ℕ) where
  abbrev Fed : Result Step StreamFault → Type 0
  Fed answer = IsTaken (text_length n) (sealer_view old) piece answer (sealer_view new) × Takes sealing n (sealer_view old) piece answer

  -- the block that is lent, if any, is the buffer's
  pub fed_ok : (taken : ℕ) (full : Bool) (chunk : Option (Bor (List ℕ))) → chunk_bytes chunk ≡ block_or_none (block_lent new.buffer.items (taken, full))
      → IfSome chunk (λ block. length block.now ≡ n) → Steps sealing old piece (Ok (taken, full)) new
      → Fed (Ok (record { taken = taken; index = new.index; chunk = chunk }))
  fed_ok taken full chunk is whole s =
      let positive : 0 < text_length n = omega (arith, old.sizes) in
      let after = λ (text : List ℕ) (held : Holds (text_length n) (sealer_view old) text).
      follows sealing (text_length n) (sealer_view old) (sealer_view new) positive piece taken text (block_lent new.buffer.items (taken, full)) held s.ok in (
        record {
          key = s.ok.key;
          unfinished = s.ok.finished ∙ unfinished;
          index = refl;
          unfailed = s.ok.failed;
          holds = λ text held. (after text held).holds;
          refused = tt;
          unchanged = s.still;
        },
        record {
          taken = s.ok.count;
          chunk = λ text held. (after text held).blocks
              ∙ ap (λ (bytes : List ℕ). block_bytes (sealed_before_last (sealing old.key.now) (text_length n) text) ++ bytes) (sym is);
          whole = whole;
          fits = s.fits;
          refused = tt;
        },
      )

-- ---- A block that is sealed in place.

pub sealed_in : (sealing : Seals) (given nonce lent block text tag new : List ℕ) → given ≡ nonce → lent ≡ block → block ≡ text ++ tag
    → length tag ≡ tag_length → length new ≡ length block → new ≡ sealing given (take (text_length (length lent)) lent) → refill (length block) block new ≡ sealing nonce text
sealed_in sealing given nonce lent block text tag new same is parts tag_len len h = grind (arith, common_steps)

-- ---- A whole text.

pub take_on : (k t : ℕ) (xs : List ℕ) → take k xs ++ take t (take (length xs - k) (drop k xs)) ≡ take (k + t) xs
take_on k t xs = ap (λ (ys : List ℕ). take k xs ++ take t ys) (take_rest xs k) ∙ sym (take-add k t xs)

-- the front of a piece and its rest, after a text
pub rejoined : (text piece : List ℕ) (at : ℕ) → (text ++ take at piece) ++ take (length piece - at) (drop at piece) ≡ text ++ piece
rejoined text piece at = append_assoc text (take at piece) (take (length piece - at) (drop at piece))
    ∙ ap (λ (t : List ℕ). text ++ t) (ap (λ (t : List ℕ). take at piece ++ t) (take_rest piece at) ∙ take-append-drop at piece)

abbrev pub front_of : Seals → ℕ → List ℕ → List ℕ
front_of sealing n text = block_bytes (sealed_before_last sealing n text)

module _ (sealing : Seals) (n : ℕ) (text : List ℕ) where
  abbrev front : List ℕ → List ℕ
  front = front_of sealing n

  -- what was taken at a place of the text adds a block there
  pub fed_on : (at taken : ℕ) (block : List ℕ)
      → front (take at text ++ take taken (take (length text - at) (drop at text))) ≡ front (take at text) ++ block
      → front (take (at + taken) text) ≡ front (take at text) ++ block
  fed_on at taken block is = sym (ap front (take_on at taken text)) ∙ is

  module _ (opening : OpensBlock) (valid : IsChunkBox sealing opening) (positive : 0 < n) where
    -- the blocks of a part of the text have room if the whole payload has
    pub front_fits : (k : ℕ) → length (front (take k text)) ≤ length text + chunk_count n text * tag_length
    front_fits k =
        let q = last_index n text in
        let p = sealed_grows sealing n (take k text) (drop k text) positive in
        let whole : front (take k text) ++ p.0 ≡ front text = p.1 ∙ ap front (take-append-drop k text) in
        let size = (payload_is_longer sealing opening valid n text).1 in
        let e : q * (n + tag_length) ≡ q * n + q * tag_length = omega arith in
        let f : (q + 1) * tag_length ≡ q * tag_length + tag_length = omega arith in
        omega (arith, ap length whole, length-append (front (take k text)) p.0, size, last_index_le n text, e, f)

    pub fed_fits : (at taken : ℕ) (block : List ℕ) → front (take (at + taken) text) ≡ front (take at text) ++ block
        → length (front (take at text)) + length block ≤ length text + chunk_count n text * tag_length
    fed_fits at taken block is = omega (arith, ap length is, length-append (front (take at text)) block, front_fits (at + taken))

    pub last_fits : (here block : List ℕ) → payload sealing n text ≡ front here ++ block
        → length (front here) + length block ≡ length text + chunk_count n text * tag_length
    last_fits here block is = omega (arith, ap length is, length-append (front here) block, (payload_is_longer sealing opening valid n text).0)
