-- How an outcome goes on when more bytes come.
use Rattle.std.proofs.lemmas.Grind.{common_steps, flat_map-append}
use Rattle.std.proofs.Common.{◌≡◌, ℕ, suc, ◌<◌, ◌≤◌, ◌+◌, ◌*◌, ◌/◌, refl, ap, sym, ◌∙◌, List, [], ◌∷◌, ◌++◌, length, take, drop, Bool, true, false, arith}
use Rattle.std.proofs.Common.{subst, ◌-◌}
use Rattle.std.specs.Prelude.{Option, Some, None, nat_lt, not, ◌||◌, ◌&&◌, ◌==◌}
use Rattle.std.specs.Simd.{first_chunks}
use Rattle.std.proofs.lemmas.List.{length-append, length-drop, drop-append-le, take-append-le, drop-drop, drop_all, take_all, append-nil, append_assoc, take_at}
use Rattle.std.proofs.lemmas.List.{drop_at}
use Rattle.std.proofs.lemmas.Bool.{cases_lt, cond-true, cond-false, le-ltb, eq-eqb, and_parts, not-true, both_ways, false_from_ne_true}
use Rattle.std.proofs.lemmas.Nat.{div-mul-add}
use Rattle.std.proofs.Math.Bool.{or_assoc}
use Rattle.std.proofs.Math.Nat.{add-mul-div_left, div-mul-le_self, le-div_iff_mul-le}
use Rattle.std.specs.List.{flat_map, AllByRecursion}
use Rattle.age_chunk.specs.{OpensBlock, tag_length, nonce_bytes, IsChunkBox, Seals}
use Rattle.age_chunk.specs.declared.fault.StreamKind.TheVariants.{ChunkDamaged, TooManyChunks}
use Rattle.age_chunk.proofs.{first_chunks-append, nonce_bytes-length}
use Rattle.age_stream.specs.Segment.{Segment}
use Rattle.age_stream.specs.{Outcome, Frontier, outcome, stop, verdict, is_waiting, block_at, leading_plaintexts, text_then, text_before_last, whole_blocks}
use Rattle.age_stream.specs.{rest_bytes, with_piece, with_end, Open, fresh, stays, failed, released, IsPrefixOf, PiecesJoin, Status, IsCounted, counted_chunks}
use Rattle.age_stream.specs.inner.{after_front, one_block, final_block, status_after, status_ended}
use Rattle.age_stream.proofs.TableLemmas.{after, beside, block_full, by_lines, bytes_status, fault_after, frontier, length-whole_blocks, line_waiting}
use Rattle.age_stream.proofs.TableLemmas.{not_whole, outcome_is, prepend, rest_is, rest_short, texts_fit, verdict-after, verdict-prepend, whole_verdict}
use Rattle.age_stream.proofs.TableLemmas.{whole_within, opens_before}
use Rattle.age_stream.proofs.ChunkLemmas.{all_full, first_chunks-add, first_chunks-full, first_chunks-take, flat_full}

-- more bytes: the whole blocks stay, and those of what is left come after them
module _ (n : ℕ) (bytes more : List ℕ) where
  abbrev z : ℕ
  z = n + tag_length

  abbrev q : ℕ
  q = length bytes / z

  abbrev tail : List ℕ
  tail = rest_bytes n bytes ++ more

  fits : q * z ≤ length bytes
  fits = div-mul-le_self (length bytes) z

  count : length (bytes ++ more) / z ≡ q + length tail / z
  count =
      let pos : 0 < z = omega arith in
      let e : length (bytes ++ more) ≡ length tail + z * q =
      omega (arith, length-append bytes more, length-append (rest_bytes n bytes) more, length-drop (q * z) bytes, fits) in
      let f : length tail / z + q ≡ q + length tail / z = omega arith in
      ap (λ (k : ℕ). k / z) e ∙ (add-mul-div_left (length tail) q pos ∙ f)

  pub blocks_on : whole_blocks n (bytes ++ more) ≡ whole_blocks n bytes ++ whole_blocks n tail
  blocks_on =
      let r = length tail / z in
      ap (λ (k : ℕ). first_chunks z k (bytes ++ more)) count
      ∙ (first_chunks-add z q r (bytes ++ more)
      ∙ (ap (λ (cs : List (List ℕ)). cs ++ first_chunks z r (drop (q * z) (bytes ++ more))) (first_chunks-append z q bytes more fits)
      ∙ ap (λ (xs : List ℕ). whole_blocks n bytes ++ first_chunks z r xs) (drop-append-le (q * z) bytes more fits)))

  pub rest_on : rest_bytes n (bytes ++ more) ≡ rest_bytes n tail
  rest_on =
      let r = length tail / z in
      let e : (q + r) * z ≡ q * z + r * z = omega arith in
      ap (λ (k : ℕ). drop (k * z) (bytes ++ more)) count
      ∙ (ap (λ (k : ℕ). drop k (bytes ++ more)) e
      ∙ (sym (drop-drop (r * z) (q * z) (bytes ++ more)) ∙ ap (drop (r * z)) (drop-append-le (q * z) bytes more fits)))

module _ (n : ℕ) (bytes : List ℕ) where
  count_is : (k r : ℕ) → length bytes ≡ k * (n + tag_length) + r → r < n + tag_length → length bytes / (n + tag_length) ≡ k
  count_is k r e lt = ap (λ (x : ℕ). x / (n + tag_length)) e ∙ div-mul-add k (n + tag_length) r lt

  -- too few bytes for a block
  pub short_bytes : length bytes < n + tag_length → (whole_blocks n bytes ≡ []) × (rest_bytes n bytes ≡ bytes)
  short_bytes short =
      let none = count_is 0 (length bytes) (omega arith) short in
      let z : 0 * (n + tag_length) ≡ 0 = omega arith in (
        ap (λ (k : ℕ). first_chunks (n + tag_length) k bytes) none,
        ap (λ (k : ℕ). drop (k * (n + tag_length)) bytes) none ∙ ap (λ (k : ℕ). drop k bytes) z,
      )

  -- just one block
  pub full_bytes : length bytes ≡ n + tag_length → (whole_blocks n bytes ≡ bytes ∷ []) × (rest_bytes n bytes ≡ [])
  full_bytes full =
      let one = count_is 1 0 (omega (arith, full)) (omega arith) in (
        ap (λ (k : ℕ). first_chunks (n + tag_length) k bytes) one
            ∙ ap (λ (x : List ℕ). x ∷ []) (take_all (n + tag_length) bytes (omega (arith, full))),
        ap (λ (k : ℕ). drop (k * (n + tag_length)) bytes) one ∙ drop_all (1 * (n + tag_length)) bytes (omega (arith, full)),
      )

-- a block before other bytes
pub block_on : (n : ℕ) (block more : List ℕ) → length block ≡ n + tag_length → whole_blocks n (block ++ more) ≡ block ∷ whole_blocks n more
block_on n block more full = grind (arith, common_steps, blocks_on, full_bytes)

module _ (opening : OpensBlock) where
  -- if all these blocks open as before the last, the next ones go on from there
  on_step : (o : Option (List ℕ)) (xs ys : List (List ℕ)) (i : ℕ) → (length (leading_plaintexts opening (i + 1) xs) ≡ length xs
      → leading_plaintexts opening (i + 1) (xs ++ ys) ≡ leading_plaintexts opening (i + 1) xs ++ leading_plaintexts opening (i + 1 + length xs) ys)
      → length (text_then opening o (leading_plaintexts opening (i + 1) xs)) ≡ suc (length xs)
      → text_then opening o (leading_plaintexts opening (i + 1) (xs ++ ys)) ≡ text_then opening o (leading_plaintexts opening (i + 1) xs) ++ leading_plaintexts opening
      (i + suc (length xs)) ys
  on_step o xs ys i h1 h2 = grind (arith, common_steps)

  pub front_on : (xs ys : List (List ℕ)) (i : ℕ) → length (leading_plaintexts opening i xs) ≡ length xs → leading_plaintexts opening i (xs ++ ys)
      ≡ leading_plaintexts opening i xs ++ leading_plaintexts opening (i + length xs) ys
  front_on [] ys i h = let e : i ≡ i + 0 = omega arith in ap (λ (k : ℕ). leading_plaintexts opening k ys) e
  front_on (x ∷ xs) ys i h = on_step (text_before_last opening i x) xs ys i (λ g. front_on xs ys (i + 1) g) h

  -- if some block doesn't, more blocks change nothing
  stays_step : (o : Option (List ℕ)) (xs ys : List (List ℕ)) (i : ℕ) → (length (leading_plaintexts opening (i + 1) xs) < length xs
      → leading_plaintexts opening (i + 1) (xs ++ ys) ≡ leading_plaintexts opening (i + 1) xs)
      → length (text_then opening o (leading_plaintexts opening (i + 1) xs)) < suc (length xs)
      → text_then opening o (leading_plaintexts opening (i + 1) (xs ++ ys)) ≡ text_then opening o (leading_plaintexts opening (i + 1) xs)
  stays_step o xs ys i h1 h2 = grind (arith, common_steps)

  pub front_stays : (xs ys : List (List ℕ)) (i : ℕ) → length (leading_plaintexts opening i xs) < length xs → leading_plaintexts opening i (xs ++ ys)
      ≡ leading_plaintexts opening i xs
  front_stays [] ys i h = absurd (omega arith)
  front_stays (x ∷ xs) ys i h = stays_step (text_before_last opening i x) xs ys i (λ g. front_stays xs ys (i + 1) g) h

pub unended_piece : (s : Segment) (p : List ℕ) → s.ended ≡ false → with_piece s p ≡ record s { bytes = s.bytes ++ p; ended = false }
unended_piece s p is = cond-false s.ended (record s { ended = true; late = s.late || nat_lt 0 (length p) }) (record s { bytes = s.bytes ++ p; ended = false }) is

ended_piece : (s : Segment) (p : List ℕ) → s.ended ≡ true → with_piece s p ≡ record s { ended = true; late = s.late || nat_lt 0 (length p) }
ended_piece s p is = cond-true s.ended (record s { ended = true; late = s.late || nat_lt 0 (length p) }) (record s { bytes = s.bytes ++ p; ended = false }) is

joined : (start : ℕ) (bytes : List ℕ) (ended late : Bool) (p r : List ℕ)
    → with_piece (with_piece (record { start = start; bytes = bytes; ended = ended; late = late }) p) r
    ≡ with_piece (record { start = start; bytes = bytes; ended = ended; late = late }) (p ++ r)
joined start bytes ended late p r = grind (arith, common_steps)

pub pieces_join : PiecesJoin
pieces_join s p r = joined s.start s.bytes s.ended s.late p r

nothing : (start : ℕ) (bytes : List ℕ) (ended late : Bool) → with_piece (record { start = start; bytes = bytes; ended = ended; late = late }) []
    ≡ record { start = start; bytes = bytes; ended = ended; late = late }
nothing start bytes ended late = grind (arith, common_steps)

-- no bytes change nothing
pub piece_nil : (s : Segment) → with_piece s [] ≡ s
piece_nil s = nothing s.start s.bytes s.ended s.late

whole_if : (whole ended : Bool) → (not whole && not ended) ≡ false → ended ≡ false → whole ≡ true
whole_if whole ended h1 h2 = grind (arith, common_steps)

after_on : (a len m : ℕ) (late : Bool) → a ≤ len → late ≡ false → (nat_lt a (len + m) || late) ≡ ((nat_lt a len || late) || nat_lt 0 m)
after_on a len m late h1 h2 = grind (arith, common_steps)

module _ (opening : OpensBlock) (n : ℕ) where
  -- the segment is open: it had no end, and each whole block opened as one before the last
  pub record IsGoing (s : Segment) : Type 0 where
    pub unended : s.ended ≡ false
    pub all : length (leading_plaintexts opening s.start (whole_blocks n s.bytes)) ≡ length (whole_blocks n s.bytes)

  pub going : (s : Segment) → (outcome opening n s).status ≡ Open → IsGoing s
  going s h =
      grind (arith, common_steps, and_parts, block_full, both_ways, by_lines, cases_lt, eq-eqb, length-whole_blocks, not-true, outcome_is, texts_fit)

  shut_waits : (s : Segment) → ((outcome opening n s).status ≡ Open → ⊥) → is_waiting (stop opening n s) ≡ false
  shut_waits s shut = grind (arith, common_steps, false_from_ne_true, line_waiting, outcome_is)

  -- where a segment that isn't open stands after a piece
  piece_stop : (s : Segment) (ended : Bool) (p : List ℕ) → s.ended ≡ ended → (s.ended ≡ false → s.late ≡ false) → is_waiting (stop opening n s) ≡ false
      → let b = stop opening n s in
      stop opening n (with_piece s p) ≡ beside opening opening b b.texts (b.followed || nat_lt 0 (length p)) b.ended
  piece_stop s true p is timely unwaiting =
      let b = stop opening n s in
      let some = nat_lt 0 (length p) in
      ap (stop opening n) (ended_piece s p is)
      ∙ (ap (λ (f : Bool). beside opening opening b b.texts f true) (sym (or_assoc (nat_lt ((length b.texts + 1) * (n + tag_length)) (length s.bytes)) s.late some))
      ∙ ap (beside opening opening b b.texts (b.followed || some)) (sym is))
  piece_stop s false p is timely unwaiting =
      let z = n + tag_length in
      let b = stop opening n s in
      let m = length b.texts in
      let some = nat_lt 0 (length p) in
      let lt : m < length s.bytes / z = whole_within n s m (texts_fit opening n s) (whole_if b.whole b.ended unwaiting is) in
      let pos : 0 < z = omega arith in
      let low : (m + 1) * z ≤ length s.bytes = (le-div_iff_mul-le pos).0 (omega (arith, lt)) in
      let step : (m + 1) * z ≡ m * z + z = omega arith in
      let next : Segment = record { start = s.start; bytes = s.bytes ++ p; ended = false; late = s.late } in
      let texts : leading_plaintexts opening s.start (whole_blocks n next.bytes) ≡ b.texts = ap (leading_plaintexts opening s.start) (blocks_on n s.bytes p)
      ∙ front_stays opening (whole_blocks n s.bytes) (whole_blocks n (rest_bytes n s.bytes ++ p)) s.start (omega (arith, lt, length-whole_blocks n s)) in
      let block : block_at n next.bytes m ≡ b.block = ap (take z) (drop-append-le (m * z) s.bytes p (omega (arith, low, step)))
      ∙ take-append-le z (drop (m * z) s.bytes) p (omega (arith, length-drop (m * z) s.bytes, low, step)) in
      let flag : (nat_lt ((m + 1) * z) (length next.bytes) || s.late) ≡ (b.followed || some) = ap (λ (k : ℕ). nat_lt ((m + 1) * z) k || s.late) (length-append s.bytes p)
      ∙ after_on ((m + 1) * z) (length s.bytes) (length p) s.late low (timely is) in
      let F : List ℕ → Bool → Bool → Frontier = λ c f e. record { texts = b.texts; index = b.index; block = c; whole = length c == z; followed = f; ended = e } in
      ap (stop opening n) (unended_piece s p is)
      ∙ (ap (frontier n next) texts
      ∙ (ap (λ (c : List ℕ). F c (nat_lt ((m + 1) * z) (length next.bytes) || s.late) false) block
      ∙ (ap (λ (f : Bool). F b.block f false) flag ∙ ap (F b.block (b.followed || some)) (sym is))))

  -- a piece, if the segment is open no more
  pub after_piece : (s : Segment) (p : List ℕ) → (s.ended ≡ false → s.late ≡ false) → ((outcome opening n s).status ≡ Open → ⊥)
      → outcome opening n (with_piece s p) ≡ after (status_after (nat_lt 0 (length p))) (outcome opening n s)
  after_piece s p timely shut =
      let b = stop opening n s in
      let some = nat_lt 0 (length p) in
      let unwaiting = shut_waits s shut in
      outcome_is opening n (with_piece s p)
      ∙ (ap (verdict opening) (piece_stop s s.ended p refl timely unwaiting)
      ∙ (verdict-after opening b (status_after some) (b.followed || some) b.ended unwaiting unwaiting (fault_after some) (bytes_status b.followed some b.ended)
      ∙ ap (after (status_after some)) (sym (outcome_is opening n s))))

  -- an end, likewise
  pub after_end : (s : Segment) → ((outcome opening n s).status ≡ Open → ⊥)
      → outcome opening n (with_end s) ≡ after (λ _. status_ended) (outcome opening n s)
  after_end s shut = grind (arith, common_steps, outcome_is, verdict-after)

  -- an open segment's outcome
  pub going_outcome : (s : Segment) → IsGoing s
      → outcome opening n s ≡ record {
        texts = leading_plaintexts opening s.start (whole_blocks n s.bytes);
        index = s.start + length (leading_plaintexts opening s.start (whole_blocks n s.bytes));
        status = Open;
      }
  going_outcome s g = grind (arith, common_steps, length-whole_blocks, line_waiting, not_whole, outcome_is)

  -- an end of it
  pub going_end : (s : Segment) → IsGoing s → s.late ≡ false
      → let texts = leading_plaintexts opening s.start (whole_blocks n s.bytes) in
      outcome opening n (with_end s) ≡ prepend texts (final_block opening [] (s.start + length texts) (rest_bytes n s.bytes) false true)
  going_end s g timely =
      grind (arith, common_steps, le-ltb, length-drop, length-whole_blocks, not_whole, outcome_is, rest_is, rest_short, verdict-prepend)

  -- bytes that make no whole block
  pub record IsPart (s : Segment) (p : List ℕ) : Type 0 where
    pub same : outcome opening n (with_piece s p) ≡ outcome opening n s
    pub rest : rest_bytes n (with_piece s p).bytes ≡ rest_bytes n s.bytes ++ p

  pub going_part : (s : Segment) (p : List ℕ) → IsGoing s → length (rest_bytes n s.bytes) + length p < n + tag_length → IsPart s p
  going_part s p g h =
      let next : Segment = record { start = s.start; bytes = s.bytes ++ p; ended = false; late = s.late } in
      let e = unended_piece s p g.unended in
      let part = short_bytes n (rest_bytes n s.bytes ++ p) (omega (arith, h, length-append (rest_bytes n s.bytes) p)) in
      let blocks : whole_blocks n (s.bytes ++ p) ≡ whole_blocks n s.bytes =
      blocks_on n s.bytes p ∙ (ap (λ (bs : List (List ℕ)). whole_blocks n s.bytes ++ bs) part.0 ∙ append-nil (whole_blocks n s.bytes)) in
      let F : List (List ℕ) → Outcome = λ bs. record {
        texts = leading_plaintexts opening s.start bs;
        index = s.start + length (leading_plaintexts opening s.start bs);
        status = Open;
      } in
      let on : IsGoing next = record {
        unended = refl;
        all = ap (λ (bs : List (List ℕ)). length (leading_plaintexts opening s.start bs)) blocks
            ∙ (g.all ∙ sym (ap length blocks));
      } in
      record {
        same = ap (outcome opening n) e ∙ (going_outcome next on ∙ (ap F blocks ∙ sym (going_outcome s g)));
        rest = ap (λ (t : Segment). rest_bytes n t.bytes) e ∙ (rest_on n s.bytes p ∙ part.1);
      }

  -- bytes that make just one whole block
  pub record IsWhole (s : Segment) (p : List ℕ) : Type 0 where
    pub is : outcome opening n (with_piece s p) ≡ prepend (outcome opening n s).texts (one_block opening (outcome opening n s).index (rest_bytes n s.bytes ++ p))
    pub rest : rest_bytes n (with_piece s p).bytes ≡ []

  pub going_whole : (s : Segment) (p : List ℕ) → IsGoing s → s.late ≡ false → length (rest_bytes n s.bytes) + length p ≡ n + tag_length → IsWhole s p
  going_whole s p g timely h =
      let texts = leading_plaintexts opening s.start (whole_blocks n s.bytes) in
      let i = s.start + length texts in
      let b = rest_bytes n s.bytes ++ p in
      let e = unended_piece s p g.unended in
      let one = full_bytes n b (length-append (rest_bytes n s.bytes) p ∙ h) in
      let here = going_outcome s g in
      record {
        is = ap (outcome opening n) e ∙ (by_text (text_before_last opening i b) front
            ∙ sym (ap (λ (o : Outcome). prepend o.texts (one_block opening o.index b)) here));
        rest = ap (λ (t : Segment). rest_bytes n t.bytes) e ∙ (rest_on n s.bytes p ∙ one.1);
      }
    where
      more : whole_blocks n (s.bytes ++ p) ≡ whole_blocks n s.bytes ++ (rest_bytes n s.bytes ++ p) ∷ []
      more =
          blocks_on n s.bytes p
          ∙ ap (λ (bs : List (List ℕ)). whole_blocks n s.bytes ++ bs) (full_bytes n (rest_bytes n s.bytes ++ p) (length-append (rest_bytes n s.bytes) p ∙ h)).0

      front : leading_plaintexts opening s.start (whole_blocks n (s.bytes ++ p))
          ≡ leading_plaintexts opening s.start (whole_blocks n s.bytes)
          ++ text_then opening (text_before_last opening (s.start + length (leading_plaintexts opening s.start (whole_blocks n s.bytes))) (rest_bytes n s.bytes ++ p)) []
      front =
          ap (leading_plaintexts opening s.start) more
          ∙ (front_on opening (whole_blocks n s.bytes) ((rest_bytes n s.bytes ++ p) ∷ []) s.start g.all
          ∙ ap (λ (k : ℕ). leading_plaintexts opening s.start (whole_blocks n s.bytes) ++ leading_plaintexts opening (s.start + k) ((rest_bytes n s.bytes ++ p) ∷ [])) (sym g.all))

      -- by the text of the block, if it opened as one before the last
      by_text : (o : Option (List ℕ))
          → leading_plaintexts opening s.start (whole_blocks n (s.bytes ++ p)) ≡ leading_plaintexts opening s.start (whole_blocks n s.bytes) ++ text_then opening o []
          → outcome opening n (record { start = s.start; bytes = s.bytes ++ p; ended = false; late = s.late })
          ≡ prepend (leading_plaintexts opening s.start (whole_blocks n s.bytes))
          (after_front opening o (s.start + length (leading_plaintexts opening s.start (whole_blocks n s.bytes))) (rest_bytes n s.bytes ++ p))
      by_text (Some t) front =
          let texts = leading_plaintexts opening s.start (whole_blocks n s.bytes) in
          let next : Segment = record { start = s.start; bytes = s.bytes ++ p; ended = false; late = s.late } in
          let count : length (texts ++ t ∷ []) ≡ length texts + 1 = length-append texts (t ∷ []) in
          let blocks = ap length more ∙ length-append (whole_blocks n s.bytes) ((rest_bytes n s.bytes ++ p) ∷ []) in
          let i : s.start + length (texts ++ t ∷ []) ≡ s.start + length texts + 1 = omega (arith, count) in
          going_outcome next (record { unended = refl; all = omega (arith, ap length front, count, blocks, g.all) })
          ∙ (ap (λ (ts : List (List ℕ)). record { texts = ts; index = s.start + length ts; status = Open }) front
          ∙ ap (λ (k : ℕ). record { texts = texts ++ t ∷ []; index = k; status = Open }) i)
      by_text None front =
          let z = n + tag_length in
          let texts = leading_plaintexts opening s.start (whole_blocks n s.bytes) in
          let m = length texts in
          let q = length s.bytes / z in
          let b = rest_bytes n s.bytes ++ p in
          let next : Segment = record { start = s.start; bytes = s.bytes ++ p; ended = false; late = s.late } in
          let at : m ≡ q = g.all ∙ length-whole_blocks n s in
          let len : length b ≡ z = length-append (rest_bytes n s.bytes) p ∙ h in
          let block : block_at n next.bytes m ≡ b = ap (block_at n next.bytes) at
          ∙ (ap (take z) (drop-append-le (q * z) s.bytes p (div-mul-le_self (length s.bytes) z)) ∙ take_all z b (omega (arith, len))) in
          let last : nat_lt ((m + 1) * z) (length next.bytes) ≡ false = le-ltb ((m + 1) * z) (length next.bytes)
          (omega (arith, length-append s.bytes p, length-drop (q * z) s.bytes, div-mul-le_self (length s.bytes) z, h, ap (λ (k : ℕ). (k + 1) * z) at)) in
          let alone : Frontier = record { texts = []; index = s.start + m; block = b; whole = true; followed = false; ended = false } in
          let F : List ℕ → Bool → Bool → Outcome = λ c w f.
          verdict opening (record { texts = texts; index = s.start + m; block = c; whole = w; followed = f; ended = false }) in
          outcome_is opening n next
          ∙ (ap (λ (ts : List (List ℕ)). verdict opening (frontier n next ts)) (front ∙ append-nil texts)
          ∙ (ap (λ (c : List ℕ). F c (length c == z) (nat_lt ((m + 1) * z) (length next.bytes) || s.late)) block
          ∙ (ap (λ (w : Bool). F b w (nat_lt ((m + 1) * z) (length next.bytes) || s.late)) (eq-eqb (length b) z len)
          ∙ (ap (λ (f : Bool). F b true (f || s.late)) last
          ∙ (ap (λ (f : Bool). F b true f) timely
          ∙ (verdict-prepend opening alone texts refl
          ∙ ap (prepend texts) (whole_verdict opening alone (opening (nonce_bytes (s.start + m) false) b) refl (omega (arith, len)) refl)))))))

-- ---- A segment of no bytes.

pub fresh_outcome : (opening : OpensBlock) (n k : ℕ) → outcome opening n (fresh k) ≡ record { texts = []; index = k; status = Open }
fresh_outcome opening n k = grind (arith, common_steps, going_outcome, short_bytes)

pub fresh_rest : (n k : ℕ) → rest_bytes n (fresh k).bytes ≡ []
fresh_rest n k = (short_bytes n [] (omega arith)).1

-- ---- More bytes never take back what was released.

module _ (opening : OpensBlock) (n : ℕ) where
  -- the texts of an outcome begin with these, and its index is the one at which it stopped, whatever stopped it
  pub record StopsAt (texts : List (List ℕ)) (i : ℕ) (o : Outcome) : Type 0 where
    pub more : List (List ℕ)
    pub texts_are : o.texts ≡ texts ++ more
    pub index : o.index ≡ i

  -- a segment stands at the block after those in front, with their texts
  pub stands_at : (s : Segment) → let texts = leading_plaintexts opening s.start (whole_blocks n s.bytes) in
      StopsAt texts (s.start + length texts) (outcome opening n s)
  stands_at s =
      let b = stop opening n s in
      let P : Outcome → Type 0 = StopsAt b.texts b.index in
      let still : (status : Status) → P (stays b status) = λ status. record { more = []; texts_are = sym (append-nil b.texts); index = refl } in
      subst P (sym (outcome_is opening n s)) (by_lines opening P b (λ _. still Open) (λ kind _ _. still (failed kind b.index)) (λ _ _ _. still (failed TooManyChunks b.index))
      (λ _ _ _. still (failed ChunkDamaged b.index)) (λ text _ _. record { more = text ∷ []; texts_are = refl; index = refl }))

  -- the texts go on, and the index doesn't fall
  record Grows (old new : Outcome) : Type 0 where
    more : List (List ℕ)
    texts_are : new.texts ≡ old.texts ++ more
    index : old.index ≤ new.index

  grows_going : (s : Segment) (p : List ℕ) → IsGoing opening n s → Grows (outcome opening n s) (outcome opening n (with_piece s p))
  grows_going s p g =
      let here = going_outcome opening n s g in
      let next : Segment = record { start = s.start; bytes = s.bytes ++ p; ended = false; late = s.late } in
      let there = ap (outcome opening n) (unended_piece s p g.unended) in
      let b = stands_at next in
      let texts = leading_plaintexts opening s.start (whole_blocks n s.bytes) in
      let rest = leading_plaintexts opening (s.start + length (whole_blocks n s.bytes)) (whole_blocks n (rest_bytes n s.bytes ++ p)) in
      let on : leading_plaintexts opening s.start (whole_blocks n next.bytes) ≡ texts ++ rest =
      ap (leading_plaintexts opening s.start) (blocks_on n s.bytes p)
      ∙ front_on opening (whole_blocks n s.bytes) (whole_blocks n (rest_bytes n s.bytes ++ p)) s.start g.all in
      record {
        more = rest ++ b.more;
        texts_are = ap (λ (o : Outcome). o.texts) there ∙ (b.texts_are ∙ (ap (λ (ts : List (List ℕ)). ts ++ b.more) on
            ∙ (append_assoc texts rest b.more ∙ ap (λ (ts : List (List ℕ)). ts ++ (rest ++ b.more)) (sym (ap (λ (o : Outcome). o.texts) here)))));
        index = omega (
          arith,
          ap (λ (o : Outcome). o.index) here,
          ap (λ (o : Outcome). o.index) there,
          b.index,
          ap length on ∙ length-append texts rest,
        );
      }

  grows_by : (s : Segment) (p : List ℕ) (status : Status) → (s.ended ≡ false → s.late ≡ false) → (outcome opening n s).status ≡ status
      → Grows (outcome opening n s) (outcome opening n (with_piece s p))
  grows_by s p Open timely e = grind (arith, common_steps, after_piece, append-nil, going, grows_going)
  grows_by s p other timely e = grind (arith, common_steps, after_piece, append-nil, going, grows_going)

  pub released_grows : (s : Segment) (p : List ℕ) → (s.ended ≡ false → s.late ≡ false)
      → IsPrefixOf (released opening n s) (released opening n (with_piece s p))
      × ((outcome opening n s).index ≤ (outcome opening n (with_piece s p)).index)
  released_grows s p timely =
      let b = grows_by s p (outcome opening n s).status timely refl in (
        (
          flat_map (λ (t : List ℕ). t) b.more,
          sym (ap (flat_map (λ (t : List ℕ). t)) b.texts_are ∙ flat_map-append (λ (t : List ℕ). t) (outcome opening n s).texts b.more),
        ),
        b.index,
      )

-- ---- How many chunks were released, by the length of the text.

-- the chunks that a segment counts are the texts of the blocks in front
pub counted_are : (opening : OpensBlock) (n : ℕ) (s : Segment) → counted_chunks opening n s ≡ leading_plaintexts opening s.start (whole_blocks n s.bytes)
counted_are opening n s =
    let b = stands_at opening n s in
    let texts = leading_plaintexts opening s.start (whole_blocks n s.bytes) in
    let count = (outcome opening n s).index - s.start in
    ap (take count) b.texts_are ∙ take_at texts b.more count (omega (arith, b.index))

module _ (sealing : Seals) (opening : OpensBlock) (valid : IsChunkBox sealing opening) (n : ℕ) where
  full_then : (o : Option (List ℕ)) (rest : List (List ℕ)) → ((t : List ℕ) → o ≡ Some t → length t ≡ n)
      → AllByRecursion (λ (t : List ℕ). length t ≡ n) rest → AllByRecursion (λ (t : List ℕ). length t ≡ n) (text_then opening o rest)
  full_then o rest h1 h2 = grind (arith, common_steps)

  front_full : (blocks : List (List ℕ)) (i : ℕ) → AllByRecursion (λ (b : List ℕ). length b ≡ n + tag_length) blocks
      → AllByRecursion (λ (t : List ℕ). length t ≡ n) (leading_plaintexts opening i blocks)
  front_full [] i h = tt
  front_full (b ∷ bs) i h =
      full_then (text_before_last opening i b) (leading_plaintexts opening (i + 1) bs)
      (λ t e. let is = (opens_before i (opening (nonce_bytes i false) b) t e).1 in omega (
        arith,
        h.0,
        valid.longer (nonce_bytes i false) t (nonce_bytes-length i false),
        ap length (valid.only (nonce_bytes i false) t b (nonce_bytes-length i false) is),
      ))
      (front_full bs (i + 1) h.1)

  pub is_counted : (base : List ℕ) (s : Segment) → length base ≡ s.start * n → IsCounted opening n base s
  is_counted base s len =
      let blocks = whole_blocks n s.bytes in
      let texts = leading_plaintexts opening s.start blocks in
      let m = length texts in
      let i = (outcome opening n s).index in
      let pos : 0 < n + tag_length = omega arith in
      let fits : length s.bytes / (n + tag_length) * (n + tag_length) ≤ length s.bytes = (le-div_iff_mul-le pos).0 (omega arith) in
      let full = front_full blocks s.start (all_full (n + tag_length) (length s.bytes / (n + tag_length)) s.bytes fits) in
      let b = stands_at opening n s in
      let at = b.index in
      let are = counted_are opening n s in
      let front = flat_map (λ (t : List ℕ). t) texts in
      let tail = flat_map (λ (t : List ℕ). t) b.more in
      let released_is : released opening n s ≡ front ++ tail =
      ap (flat_map (λ (t : List ℕ). t)) b.texts_are ∙ flat_map-append (λ (t : List ℕ). t) texts b.more in
      let text = base ++ released opening n s in
      let text_is : text ≡ (base ++ front) ++ tail = ap (λ (x : List ℕ). base ++ x) released_is ∙ sym (append_assoc base front tail) in
      let size : length (base ++ front) ≡ i * n =
      let e : (s.start + m) * n ≡ s.start * n + m * n = omega arith in
      omega (arith, length-append base front, len, flat_full n texts full, e, ap (λ (k : ℕ). k * n) at) in
      let first : first_chunks n i text ≡ first_chunks n s.start base ++ texts =
      ap (λ (k : ℕ). first_chunks n k text) at
      ∙ (first_chunks-add n s.start m text
      ∙ (ap (λ (cs : List (List ℕ)). cs ++ first_chunks n m (drop (s.start * n) text)) (first_chunks-append n s.start base (released opening n s)
      (omega (arith, len)))
      ∙ ap (λ (cs : List (List ℕ)). first_chunks n s.start base ++ cs)
      (ap (first_chunks n m) (drop_at base (released opening n s) (s.start * n) len ∙ released_is) ∙ first_chunks-full n texts tail full))) in
      record {
        count = ap (λ (ts : List (List ℕ)). s.start + length ts) are ∙ sym at;
        within = omega (arith, ap length text_is, length-append (base ++ front) tail, size);
        join = ap (λ (ts : List (List ℕ)). base ++ flat_map (λ (t : List ℕ). t) ts) are
            ∙ (sym (take_at (base ++ front) tail (i * n) size) ∙ ap (take (i * n)) (sym text_is));
        chunks = λ j le.
            let e : j + (i - j) ≡ i = omega (arith, le) in
            sym (first_chunks-take n j (i - j) text)
            ∙ (ap (λ (k : ℕ). take j (first_chunks n k text)) e
            ∙ ap (take j) (first ∙ ap (λ (ts : List (List ℕ)). first_chunks n s.start base ++ ts) (sym are)));
        all = λ e. are ∙ sym (ap (λ (o : Outcome). o.texts) (going_outcome opening n s (going opening n s e)));
      }
