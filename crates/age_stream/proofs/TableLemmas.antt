-- The table of an outcome, and where a segment stands: at a whole block, or at what is left after all of them.
use Rattle.std.proofs.lemmas.Grind.{common_steps}
use Rattle.std.proofs.Common.{inl, inr, ◌≡◌, ◌≢◌, ℕ, zero, suc, ◌<◌, ◌≤◌, ◌+◌, ◌*◌, ◌/◌, refl, ap, sym, subst, ◌∙◌, List, [], ◌∷◌, ◌++◌, length, get_or, Bool}
use Rattle.std.proofs.Common.{true, false, arith}
use Rattle.std.specs.Prelude.{Option, Some, None, nat_lt, not, ◌||◌, ◌&&◌, ◌==◌}
use Rattle.std.proofs.lemmas.Bool.{cond-true, both_ways, ne_eqb}
use Rattle.age_chunk.specs.{OpensBlock, tag_length, nonce_bytes, chunk_limit}
use Rattle.age_chunk.specs.declared.fault.StreamFault.{StreamFault}
use Rattle.age_chunk.specs.declared.fault.StreamKind.{StreamKind}
use Rattle.age_chunk.specs.declared.fault.StreamKind.TheVariants.{ChunkDamaged, Trailing, TooManyChunks}
use Rattle.age_chunk.proofs.{length-first_chunks, get_or-first_chunks}
use Rattle.age_stream.specs.Segment.{Segment}
use Rattle.age_stream.specs.{Outcome, Frontier, outcome, stop, verdict, stays, first_line, block_at, failed, leading_plaintexts, text_then, text_before_last}
use Rattle.age_stream.specs.{whole_blocks, rest_bytes, is_waiting, is_empty_last, is_tried, Status, Open, LastSeen, Done, Failed, unless_greatest}
use Rattle.age_stream.specs.inner.{status_after, at_block}

-- ---- The lines of the table.

-- the status of the last block once it opened
abbrev pub last_status : Bool → Bool → ℕ → Status
last_status followed ended i = first_line ((followed, failed Trailing i) ∷ (ended, Done) ∷ []) LastSeen

-- a block was tried as the last, and opened to this text, if any
abbrev pub last_of : Frontier → Option (List ℕ) → Outcome
last_of b None = stays b (failed ChunkDamaged b.index)
last_of b (Some text) = record { texts = b.texts ++ text ∷ []; index = b.index; status = last_status b.followed b.ended b.index }

module _ (opening : OpensBlock) where
  pub line_waiting : (b : Frontier) → is_waiting b ≡ true → verdict opening b ≡ stays b Open
  line_waiting b e = cond-true (is_waiting b) _ _ e

  pub line_last : (b : Frontier) (o : Option (List ℕ)) → is_waiting b ≡ false → tag_length ≤ length b.block → is_empty_last b ≡ false
      → (b.whole ≡ true → opening (nonce_bytes b.index false) b.block ≡ None) → opening (nonce_bytes b.index true) b.block ≡ o
      → verdict opening b ≡ last_of b o
  line_last b o unwaiting long later before is = grind (arith, common_steps)

-- ---- Two frontiers at the same block.

module _ (opening other : OpensBlock) (b : Frontier) (texts : List (List ℕ)) (followed ended : Bool) where
  abbrev there : Option (List ℕ)
  there = opening (nonce_bytes b.index true) b.block

  -- the same block, after other texts, or once more came
  abbrev pub beside : Frontier
  beside = record { texts = texts; index = b.index; block = b.block; whole = b.whole; followed = followed; ended = ended }

  -- a relation that holds between their lines holds between their outcomes
  pub by_both : (R : Outcome → Outcome → Type 0) → is_waiting b ≡ is_waiting beside → (is_waiting b ≡ true → R (stays b Open) (stays beside Open))
      → ((kind : StreamKind) → kind ≢ ChunkDamaged → kind ≢ TooManyChunks → R (stays b (failed kind b.index)) (stays beside (failed kind b.index)))
      → ((text : List ℕ) → b.whole ≡ true → opening (nonce_bytes b.index false) b.block ≡ Some text
      → R (stays b (failed TooManyChunks b.index)) (stays beside (failed TooManyChunks b.index)))
      → (b.whole ≡ true → opening (nonce_bytes b.index false) b.block ≡ other (nonce_bytes b.index false) b.block)
      → (is_tried b ≡ true → opening (nonce_bytes b.index true) b.block ≡ other (nonce_bytes b.index true) b.block)
      → (is_tried b ≡ true → (b.whole ≡ true → opening (nonce_bytes b.index false) b.block ≡ None) → there ≡ None → R (last_of b None) (last_of beside None))
      → ((text : List ℕ) → is_tried b ≡ true → there ≡ Some text → R (last_of b (Some text)) (last_of beside (Some text))) → R (verdict opening b) (verdict other beside)
  by_both R waits waiting fault many before last shut opened = grind (arith, common_steps)

-- what holds at each line holds of the outcome
pub by_lines : (opening : OpensBlock) (P : Outcome → Type 0) (b : Frontier) → (is_waiting b ≡ true → P (stays b Open))
    → ((kind : StreamKind) → kind ≢ ChunkDamaged → kind ≢ TooManyChunks → P (stays b (failed kind b.index)))
    → ((text : List ℕ) → b.whole ≡ true → opening (nonce_bytes b.index false) b.block ≡ Some text → P (stays b (failed TooManyChunks b.index)))
    → (is_tried b ≡ true → (b.whole ≡ true → opening (nonce_bytes b.index false) b.block ≡ None) → opening (nonce_bytes b.index true) b.block ≡ None
    → P (last_of b None))
    → ((text : List ℕ) → is_tried b ≡ true → opening (nonce_bytes b.index true) b.block ≡ Some text → P (last_of b (Some text)))
    → P (verdict opening b)
by_lines opening P b waiting fault many shut opened = grind (arith, common_steps)

-- the texts before, and then an outcome's
abbrev pub prepend : List (List ℕ) → Outcome → Outcome
prepend texts o = record { texts = texts ++ o.texts; index = o.index; status = o.status }

-- an outcome with another status
abbrev pub after : (ℕ → Status → Status) → Outcome → Outcome
after f o = record o { status = f o.index o.status }

pub bytes_status : (followed some ended : Bool) (i : ℕ) → last_status (followed || some) ended i ≡ status_after some i (last_status followed ended i)
bytes_status followed some ended i = grind (arith, common_steps)

pub fault_after : (some : Bool) (i : ℕ) (fault : StreamFault) → status_after some i (Failed fault) ≡ Failed fault
fault_after some i fault = grind (arith, common_steps)

pub ended_waits : (whole : Bool) → (not whole && not true) ≡ false
ended_waits whole = grind (arith, common_steps)

module _ (opening : OpensBlock) (b : Frontier) where
  -- after texts
  pub verdict-prepend : (texts : List (List ℕ)) → b.texts ≡ [] → verdict opening (beside opening opening b texts b.followed b.ended) ≡ prepend texts (verdict opening b)
  verdict-prepend texts none = grind (arith, common_steps)

  -- once more came
  pub verdict-after : (f : ℕ → Status → Status) (followed ended : Bool) → is_waiting b ≡ false → (not b.whole && not ended) ≡ false
      → ((i : ℕ) (fault : StreamFault) → f i (Failed fault) ≡ Failed fault)
      → ((i : ℕ) → last_status followed ended i ≡ f i (last_status b.followed b.ended i))
      → verdict opening (beside opening opening b b.texts followed ended) ≡ after f (verdict opening b)
  verdict-after f followed ended unwaiting still fault last =
      let kept = λ (kind : StreamKind). ap (stays b) (sym (fault b.index (record { kind = kind; chunk = b.index }))) in
      by_both opening opening b b.texts followed ended (λ x y. y ≡ after f x) (unwaiting ∙ sym still) (λ waiting. absurd (both_ways (is_waiting b) unwaiting waiting))
      (λ kind _ _. kept kind) (λ _ _ _. kept TooManyChunks) (λ _. refl) (λ _. refl) (λ _ _ _. kept ChunkDamaged)
      (λ text _ _. ap (λ (s : Status). record { texts = b.texts ++ text ∷ []; index = b.index; status = s }) (last b.index))

-- ---- Where a segment stands.

pub rest_short : (n : ℕ) (bytes : List ℕ) → length (rest_bytes n bytes) < n + tag_length
rest_short n bytes = grind (arith, common_steps)

-- no more texts than blocks
pub length-leading_plaintexts : (opening : OpensBlock) (blocks : List (List ℕ)) (i : ℕ) → length (leading_plaintexts opening i blocks) ≤ length blocks
length-leading_plaintexts opening [] i = grind (arith, common_steps)
length-leading_plaintexts opening (block ∷ blocks) i = grind (arith, common_steps, length-leading_plaintexts opening blocks (i + 1))

-- a block opens as one before the last only where its number isn't the greatest
pub opens_before : (i : ℕ) (o : Option (List ℕ)) (x : List ℕ) → unless_greatest i o ≡ Some x → (nat_lt (i + 1) chunk_limit ≡ true) × (o ≡ Some x)
opens_before i o x h = grind (arith, common_steps)

module _ (opening : OpensBlock) where
  -- the blocks in front open as not last, each to its text, and the next one doesn't
  pub record IsFront (i : ℕ) (blocks texts : List (List ℕ)) : Type 0 where
    pub opens : (j : ℕ) → j < length texts → text_before_last opening (i + j) (get_or blocks j []) ≡ Some (get_or texts j [])
    pub stops : length texts < length blocks → text_before_last opening (i + length texts) (get_or blocks (length texts) []) ≡ None

  front_step : (i : ℕ) (block : List ℕ) (blocks : List (List ℕ)) (o : Option (List ℕ)) → text_before_last opening i block ≡ o
      → IsFront (i + 1) blocks (leading_plaintexts opening (i + 1) blocks) → IsFront i (block ∷ blocks) (text_then opening o (leading_plaintexts opening (i + 1) blocks))
  front_step i block blocks None e more = record {
    opens = λ j lt. absurd (omega arith);
    stops = λ lt. let z : i ≡ i + 0 = omega arith in subst (λ (k : ℕ). text_before_last opening k block ≡ None) z e;
  }
  front_step i block blocks (Some x) e more =
      let texts = leading_plaintexts opening (i + 1) blocks in
      let next : i + 1 + length texts ≡ i + suc (length texts) = omega arith in
      record {
        opens = λ j lt. by_number j lt;
        stops = λ lt. subst (λ (k : ℕ). text_before_last opening k (get_or blocks (length texts) []) ≡ None) next (more.stops (omega (arith, lt)));
      }
    where
      by_number : (j : ℕ) → j < suc (length (leading_plaintexts opening (i + 1) blocks))
          → text_before_last opening (i + j) (get_or (block ∷ blocks) j []) ≡ Some (get_or (x ∷ leading_plaintexts opening (i + 1) blocks) j [])
      by_number zero lt = let z : i ≡ i + 0 = omega arith in subst (λ (k : ℕ). text_before_last opening k block ≡ Some x) z e
      by_number (suc j) lt =
          let z : i + 1 + j ≡ i + suc j = omega arith in
          subst (λ (k : ℕ). text_before_last opening k (get_or blocks j []) ≡ Some (get_or (leading_plaintexts opening (i + 1) blocks) j [])) z (more.opens j (omega (arith, lt)))

  pub front_is : (blocks : List (List ℕ)) (i : ℕ) → IsFront i blocks (leading_plaintexts opening i blocks)
  front_is [] i = record { opens = λ j lt. absurd (omega arith); stops = λ lt. absurd (omega arith) }
  front_is (block ∷ blocks) i = front_step i block blocks (text_before_last opening i block) refl (front_is blocks (i + 1))

-- where a segment stands after these texts
abbrev pub frontier : ℕ → Segment → List (List ℕ) → Frontier
frontier n s texts = record {
  texts = texts;
  index = s.start + length texts;
  block = block_at n s.bytes (length texts);
  whole = length (block_at n s.bytes (length texts)) == n + tag_length;
  followed = nat_lt ((length texts + 1) * (n + tag_length)) (length s.bytes) || s.late;
  ended = s.ended;
}

module _ (n : ℕ) (s : Segment) where
  abbrev q : ℕ
  q = length s.bytes / (n + tag_length)

  pub length-whole_blocks : length (whole_blocks n s.bytes) ≡ q
  length-whole_blocks = length-first_chunks (n + tag_length) q s.bytes

  pub block_is : (j : ℕ) → j < q → block_at n s.bytes j ≡ get_or (whole_blocks n s.bytes) j []
  block_is j lt = sym (get_or-first_chunks (n + tag_length) q s.bytes j [] lt)

  pub block_full : (j : ℕ) → j < q → length (block_at n s.bytes j) ≡ n + tag_length
  block_full j lt = grind (arith, common_steps)

  pub rest_is : (j : ℕ) → j ≡ q → block_at n s.bytes j ≡ rest_bytes n s.bytes
  rest_is j eq = grind (arith, common_steps)

  pub not_whole : (j : ℕ) → j ≡ q → (length (block_at n s.bytes j) == n + tag_length) ≡ false
  not_whole j eq = ne_eqb (length (block_at n s.bytes j)) (n + tag_length) (λ e. omega (arith, e, ap length (rest_is j eq), rest_short n s.bytes))

  -- a whole block is one of the whole blocks
  pub whole_within : (j : ℕ) → j ≤ q → (length (block_at n s.bytes j) == n + tag_length) ≡ true → j < q
  whole_within j le whole = grind (arith, common_steps)

module _ (opening : OpensBlock) (n : ℕ) (s : Segment) where
  abbrev pub texts_of : List (List ℕ)
  texts_of = leading_plaintexts opening s.start (whole_blocks n s.bytes)

  pub texts_fit : length texts_of ≤ length s.bytes / (n + tag_length)
  texts_fit = omega (arith, length-whole_blocks n s, length-leading_plaintexts opening (whole_blocks n s.bytes) s.start)

  pub outcome_is : outcome opening n s ≡ verdict opening (stop opening n s)
  unfolding outcome
  outcome_is = refl

-- ---- What a whole block comes to.

module _ (opening : OpensBlock) where
  pub whole_verdict : (b : Frontier) (o : Option (List ℕ)) → b.whole ≡ true → tag_length ≤ length b.block → opening (nonce_bytes b.index false) b.block ≡ o
      → verdict opening b ≡ at_block opening b.texts b.index b.block b.followed b.ended o
  whole_verdict b o whole long is = grind (arith, common_steps)
