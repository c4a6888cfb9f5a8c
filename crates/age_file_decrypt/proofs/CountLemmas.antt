-- Counting the chunks that were written, and writing what an opener releases, one step after another.
use Rattle.std.proofs.lemmas.Grind.{common_steps, flat_map-append}
use Rattle.std.proofs.Common.{suc, zero, inl, inr, ◌≡◌, ℕ, ◌+◌, ◌-◌, ◌*◌, ◌/◌, ◌<◌, ◌≤◌, min, List, [], ◌∷◌, ◌++◌, length, take, drop, Option, Some, refl, sym}
use Rattle.std.proofs.Common.{ap, ◌∙◌, arith, append-nil, append_assoc, false, None, true}
use Rattle.std.specs.Prelude.{◌⊎◌, IfSome, IfNone}
use Rattle.std.specs.Simd.{first_chunks}
use Rattle.std.specs.List.{flat_map}
use Rattle.std.proofs.lemmas.List.{length-append, length-take, take_all}
use Rattle.std.proofs.lemmas.Bool.{cases_lt}
use Rattle.std.proofs.Math.Nat.{le-div_iff_mul-le}
use Rattle.age_chunk.specs.{IsChunkBox, tag_length}
use Rattle.age_stream.specs.Segment.{Segment}
use Rattle.age_stream.specs.{Outcome, outcome, released, with_piece, with_end, fresh, counted_chunks, OpenerView, Stands, chunk_texts, chunk_bytes}
use Rattle.age_stream.specs.declared.step.Status.{Status}
use Rattle.age_stream.specs.declared.step.Status.TheVariants.{Open}
use Rattle.age_stream.proofs.LawLemmas.{closed_stays, end_closes}
use Rattle.age_stream.proofs.GoingLemmas.{is_counted as chunks_are_counted, fresh_outcome as fresh_is_open, released_grows}
use Rattle.age_stream.proofs.{piece_nil, piece_start}
use Rattle.age_chunk.proofs.{first_chunks-append, length-first_chunks}
use Rattle.age_file_position.specs.declared.position.PositionPolicy.{PositionPolicy}
use Rattle.age_file_position.specs.declared.position.PositionPolicy.TheVariants.{Kept, Dropped}
use Rattle.age_file_position.specs.declared.run_progress.RunProgress.{RunProgress}
use Rattle.age_file_position.specs.{link_if, chain_if, AdvancesTally}
use Rattle.age_file_decrypt.specs.inner.{CountsChunks, HasCounted, HasReleased, segment}
use Rattle.age_file_position.specs.inner.{WriterView, Wrote}
use Rattle.std.specs.Borrow.{Bor}
use Rattle.age_file_position.proofs.MarkLemmas.{wrote_none, wrote_then}

-- ---- Counting the chunks that were written, one step after another. A chunk has n bytes.

-- a quotient that is met from below, or is the lesser of the two
min_is : (x n i j : ℕ) → 0 < n → i * n ≤ x → i ≤ j → (x < (i + 1) * n) ⊎ (j ≡ i) → i ≡ min (x / n) j
min_is x n i j h0 h1 h2 h3 = grind (arith, common_steps, cases_lt, le-div_iff_mul-le)

-- the first chunks of the first ones
pub take-first_chunks : (n i k : ℕ) (text : List ℕ) → i ≤ k → take i (first_chunks n k text) ≡ first_chunks n i text
take-first_chunks n zero k text le = grind (arith, common_steps)
take-first_chunks n (suc i) zero text le = absurd (omega (arith, le))
take-first_chunks n (suc i) (suc k) text le =
    ap (λ (xs : List (List ℕ)). take n text ∷ xs) (take-first_chunks n i k (drop n text) (omega (arith, le)))

pub chain_if_on : (keep : PositionPolicy) (chunks : List (List ℕ)) (chunk : List ℕ)
    → chain_if keep (chunks ++ chunk ∷ []) ≡ link_if (chain_if keep chunks) chunk
chain_if_on Kept chunks chunk = refl
chain_if_on Dropped chunks chunk = refl

module _ (sealing : List ℕ → List ℕ → List ℕ) (opening : List ℕ → List ℕ → Option (List ℕ)) (valid : IsChunkBox sealing opening) (n : ℕ) (positive : 0
    < n) (keep : PositionPolicy) where
  abbrev at : Segment → ℕ
  at s = (outcome opening n s).index

  abbrev IsTimely : Segment → Type 0
  IsTimely s = s.ended ≡ false → s.late ≡ false

  -- with more bytes it never falls
  index_stays : (s : Segment) (piece : List ℕ) → IsTimely s → at s ≤ at (with_piece s piece)
  index_stays s piece timely = (released_grows opening n s piece timely).1

  -- open segments have released whole chunks alone
  open_text : (base : List ℕ) (s : Segment) → length base ≡ s.start * n → counted_chunks opening n s ≡ (outcome opening n s).texts
      → length (base ++ released opening n s) ≡ at s * n
  open_text base s len all = grind (arith, common_steps, chunks_are_counted, length-take)

  -- all chunks of their text: those of what was there before, and those that were released
  open_chunks : (base : List ℕ) (s : Segment) → length base ≡ s.start * n → counted_chunks opening n s ≡ (outcome opening n s).texts
      → first_chunks n (at s) (base ++ released opening n s) ≡ first_chunks n s.start base ++ (outcome opening n s).texts
  open_chunks base s len all = grind (arith, common_steps, chunks_are_counted, length-append, length-first_chunks, take_all)

  -- how many texts were released, by the index
  texts_len : (base : List ℕ) (s : Segment) → length base ≡ s.start * n → at s ≤ s.start + length (outcome opening n s).texts
  texts_len base s len =
      let c = chunks_are_counted sealing opening valid n base s len in
      omega (arith, c.count, length-take (at s - s.start) (outcome opening n s).texts)

  -- a segment is open, or more bytes leave its index
  stays : (s : Segment) → IsTimely s → ((outcome opening n s).status ≡ Open) ⊎ ((more : List ℕ) → (at (with_piece s more) ≡ at s)
      × ((outcome opening n (with_piece s more)).texts ≡ (outcome opening n s).texts))
  stays s timely = by_status (outcome opening n s).status refl where
    by_status : (status : Status) → (outcome opening n s).status ≡ status
        → ((outcome opening n s).status ≡ Open) ⊎ ((more : List ℕ) → (at (with_piece s more) ≡ at s)
        × ((outcome opening n (with_piece s more)).texts ≡ (outcome opening n s).texts))
    by_status Open e = inl e
    by_status other e = inr (λ more. let after = (closed_stays opening n s timely (λ o. cc)).0 more in (after.index, after.texts))

  -- by the length of its text, with any bytes after it
  pub index_is : (base : List ℕ) (s : Segment) (more : List ℕ) → length base ≡ s.start * n → IsTimely s
      → at s ≡ min (length (base ++ released opening n s) / n) (at (with_piece s more))
  index_is base s more len timely =
      let text = base ++ released opening n s in
      let c = chunks_are_counted sealing opening valid n base s len in
      let side : (length text < (at s + 1) * n) ⊎ (at (with_piece s more) ≡ at s) = elim (stays s timely) [
        | inl o ↦ (let e : (at s + 1) * n ≡ at s * n + n = omega arith in inl (omega (arith, open_text base s len (c.all o), e, positive)))
        | inr same ↦ inr (same more).0
      ] in
      min_is (length text) n (at s) (at (with_piece s more)) positive c.within (index_stays s more timely) side

  -- all was written
  mark_all : (base : List ℕ) (s : Segment) (p : RunProgress) → length base ≡ s.start * n → IsTimely s → p.index ≡ at s → p.chain
      ≡ chain_if keep (first_chunks n p.index (base ++ released opening n s)) → CountsChunks keep opening n base s [] p
  mark_all base s p len timely index chain_is =
      let x : length (base ++ released opening n s) - 0 ≡ length (base ++ released opening n s) = omega arith in
      record {
        index = λ more. index ∙ index_is base s more len timely ∙ ap (λ (k : ℕ). min (k / n) (at (with_piece s more))) (sym x);
        chain_is = chain_is;
      }

  -- the index is then the segment's
  pub mark_index : (base : List ℕ) (s : Segment) (p : RunProgress) → length base ≡ s.start * n → CountsChunks keep opening n base s [] p → p.index ≡ at s
  mark_index base s p len m =
      let text = base ++ released opening n s in
      let c = chunks_are_counted sealing opening valid n base s len in
      let x : length text - 0 ≡ length text = omega arith in
      let e : p.index ≡ min (length text / n) (at s) = m.index [] ∙ (ap (λ (t : Segment). min ((length text - 0) / n) (at t)) (piece_nil s)
      ∙ ap (λ (k : ℕ). min (k / n) (at s)) x) in
      let below : at s ≤ length text / n = (le-div_iff_mul-le positive).1 c.within in
      omega (arith, e, below)

  -- the chunks in front stay with more text
  front_stays : (base : List ℕ) (s next : Segment) (more : List ℕ) → length base ≡ s.start * n
      → released opening n next ≡ released opening n s ++ more → first_chunks n (at s) (base ++ released opening n next)
      ≡ first_chunks n (at s) (base ++ released opening n s)
  front_stays base s next more len e =
      let c = chunks_are_counted sealing opening valid n base s len in
      rw (e, ← append_assoc base (released opening n s) more) (first_chunks-append n (at s) (base ++ released opening n s) more c.within)

  -- texts of the piece that came
  record IsMore (s : Segment) (piece : List ℕ) (ts : List (List ℕ)) : Type 0 where
    texts : (outcome opening n (with_piece s piece)).texts ≡ (outcome opening n s).texts ++ ts
    few : length ts ≤ 1

  more_released : (s : Segment) (piece : List ℕ) (ts : List (List ℕ)) → IsMore s piece ts → released opening n (with_piece s piece)
      ≡ released opening n s ++ flat_map (λ (t : List ℕ). t) ts
  more_released s piece ts m = ap (flat_map (λ (t : List ℕ). t)) m.texts ∙ flat_map-append (λ (t : List ℕ). t) (outcome opening n s).texts ts

  -- the index rose: by one, and the text that came is one chunk more
  record IsRaised (base : List ℕ) (s : Segment) (piece : List ℕ) (ts : List (List ℕ)) : Type 0 where
    by_one : at (with_piece s piece) ≡ at s + 1
    one : length ts ≡ 1
    chunks : first_chunks n (at (with_piece s piece)) (base ++ released opening n (with_piece s piece))
        ≡ first_chunks n (at s) (base ++ released opening n s) ++ ts
    whole : length (base ++ released opening n (with_piece s piece)) ≡ at (with_piece s piece) * n

  raised : (base : List ℕ) (s : Segment) (piece : List ℕ) (ts : List (List ℕ)) → length base ≡ s.start * n → IsTimely s → IsMore s piece ts → at s
      < at (with_piece s piece) → IsRaised base s piece ts
  raised base s piece ts len timely m lt =
      let next = with_piece s piece in
      let start : next.start ≡ s.start = piece_start s piece in
      let len' : length base ≡ next.start * n = len ∙ ap (λ (k : ℕ). k * n) (sym start) in
      let c = chunks_are_counted sealing opening valid n base s len in
      let c' = chunks_are_counted sealing opening valid n base next len' in
      let texts = (outcome opening n s).texts in
      let o : (outcome opening n s).status ≡ Open = elim (stays s timely) [
        | inl o ↦ o
        | inr same ↦ absurd (omega (arith, lt, (same piece).0))
      ] in
      let count : s.start + length texts ≡ at s = ap (λ (xs : List (List ℕ)). s.start + length xs) (sym (c.all o)) ∙ c.count in
      let size : length (outcome opening n next).texts ≡ length texts + length ts = ap length m.texts ∙ length-append texts ts in
      let most = texts_len base next len' in
      let by_one : at next ≡ at s + 1 = omega (arith, lt, most, start, size, count, m.few) in
      let one : length ts ≡ 1 = omega (arith, lt, most, start, size, count, m.few) in
      let all : counted_chunks opening n next ≡ texts ++ ts = ap (take (at next - next.start)) m.texts ∙ take_all (at next - next.start) (texts ++ ts)
      (omega (arith, length-append texts ts, by_one, one, count, start)) in
      let base_chunks = first_chunks n s.start base in
      let here = open_chunks base s len (c.all o) in
      let there : first_chunks n (at next) (base ++ released opening n next) ≡ base_chunks ++ (texts ++ ts) =
      open_chunks base next len' (all ∙ sym m.texts) ∙ (ap (λ (k : ℕ). first_chunks n k base ++ (outcome opening n next).texts) start
      ∙ ap (λ (xs : List (List ℕ)). base_chunks ++ xs) m.texts) in
      record {
        by_one = by_one;
        one = one;
        chunks = there ∙ (sym (append_assoc base_chunks texts ts) ∙ ap (λ (xs : List (List ℕ)). xs ++ ts) (sym here));
        whole = open_text base next len' (all ∙ sym m.texts);
      }

  -- a tally that stays counts the same chunks of more text
  chain_stays : (base : List ℕ) (s next : Segment) (more : List ℕ) (was now : RunProgress) → length base ≡ s.start * n
      → released opening n next ≡ released opening n s ++ more → was.index ≡ at s → now.index ≡ was.index
      → now.chain ≡ was.chain → CountsChunks keep opening n base s [] was
      → now.chain ≡ chain_if keep (first_chunks n now.index (base ++ released opening n next))
  chain_stays base s next more was now len e old index chain_same m =
      rw (index, old, front_stays base s next more len e) (rw old at (chain_same ∙ m.chain_is))

  one_text : (ts : List (List ℕ)) → length ts ≡ 1 → ts ≡ flat_map (λ (t : List ℕ). t) ts ∷ []
  one_text [] e = absurd (omega (arith, e))
  one_text (t ∷ []) e = ap (λ (x : List ℕ). x ∷ []) (sym (append-nil t))
  one_text (t ∷ u ∷ us) e = absurd (omega (arith, e))

  -- a call that took bytes, and what it lent was written whole
  pub mark_step : (base : List ℕ) (s : Segment) (piece : List ℕ) (ts : List (List ℕ)) (index : ℕ) (was now : RunProgress) → length base ≡ s.start * n
      → IsTimely s → IsTimely (with_piece s piece) → (outcome opening n (with_piece s piece)).texts ≡ (outcome opening n s).texts ++ ts
      → length ts ≤ 1 → index ≡ at (with_piece s piece)
      → AdvancesTally was.index was.chain index (link_if was.chain (flat_map (λ (t : List ℕ). t) ts)) now → CountsChunks keep opening n base s [] was
      → CountsChunks keep opening n base (with_piece s piece) [] now
  mark_step base s piece ts index was now len timely timely' texts few is a m =
      let next = with_piece s piece in
      let len' : length base ≡ next.start * n = len ∙ ap (λ (k : ℕ). k * n) (sym (piece_start s piece)) in
      let more : IsMore s piece ts = record { texts = texts; few = few } in
      let old = mark_index base s was len m in
      let grown = index_stays s piece timely in
      elim (cases_lt (at s) (at next)) [
        | inl lt ↦
            (let r = raised base s piece ts len timely more lt in
            let f = a.further (omega (arith, old, is, lt)) in
            let chunk = flat_map (λ (t : List ℕ). t) ts in
            let e : first_chunks n (at next) (base ++ released opening n next)
            ≡ first_chunks n was.index (base ++ released opening n s) ++ chunk ∷ [] =
            r.chunks ∙ (ap (λ (k : ℕ). first_chunks n k (base ++ released opening n s) ++ ts) (sym old)
            ∙ ap (λ (xs : List (List ℕ)). first_chunks n was.index (base ++ released opening n s) ++ xs) (one_text ts r.one)) in
            mark_all base next now len' timely' (f.0 ∙ is) (rw (f.0, is, e, chain_if_on) (rw m.chain_is at f.1)))
        | inr le ↦
            (let same : at next ≡ at s = omega (arith, le, grown) in
            let f = a.still (omega (arith, old, is, same)) in
            mark_all base next now len' timely' (f.0 ∙ (old ∙ sym same))
            (chain_stays base s next (flat_map (λ (t : List ℕ). t) ts) was now len (more_released s piece ts more) old f.0 f.1 m))
      ]

  -- a call that lent nothing
  pub mark_none : (base : List ℕ) (s : Segment) (piece : List ℕ) (was : RunProgress)
      → length base ≡ s.start * n → IsTimely s → IsTimely (with_piece s piece)
      → (outcome opening n (with_piece s piece)).texts ≡ (outcome opening n s).texts ++ [] → CountsChunks keep opening n base s [] was
      → CountsChunks keep opening n base (with_piece s piece) [] was
  mark_none base s piece was len timely timely' texts m =
      let none : IsMore s piece [] = record { texts = texts; few = omega arith } in
      let old = mark_index base s was len m in
      mark_step base s piece [] (at (with_piece s piece)) was was len timely timely' texts (omega arith) refl (record {
        further = λ lt. absurd (omega (arith, (raised base s piece [] len timely none (omega (arith, lt, old))).one));
        still = λ le. (refl, refl);
      }) m

  -- what is known of the text if it was not written
  cut_len : (base : List ℕ) (s next : Segment) (out unwritten : List ℕ) → released opening n next ≡ released opening n s ++ (out ++ unwritten)
      → length (base ++ released opening n next) - length unwritten ≡ length (base ++ released opening n s) + length out
  cut_len base s next out unwritten e = omega (arith, length-append {A = ℕ}, ap length e)

  -- the same, and some of what it lent was not written
  pub mark_cut : (base : List ℕ) (s : Segment) (piece : List ℕ) (ts : List (List ℕ)) (out unwritten : List ℕ) (was now : RunProgress) → length base
      ≡ s.start * n → IsTimely s → IsTimely (with_piece s piece) → (outcome opening n (with_piece s piece)).texts ≡ (outcome opening n s).texts ++ ts
      → length ts ≤ 1 → flat_map (λ (t : List ℕ). t) ts ≡ out ++ unwritten → 0 < length unwritten → now.index ≡ was.index → now.chain ≡ was.chain
      → CountsChunks keep opening n base s [] was → CountsChunks keep opening n base (with_piece s piece) unwritten now
  mark_cut base s piece ts out unwritten was now len timely timely' texts few parts some index chain_same m =
      let next = with_piece s piece in
      let len' : length base ≡ next.start * n = len ∙ ap (λ (k : ℕ). k * n) (sym (piece_start s piece)) in
      let more_is : IsMore s piece ts = record { texts = texts; few = few } in
      let old = mark_index base s was len m in
      let c = chunks_are_counted sealing opening valid n base s len in
      let c' = chunks_are_counted sealing opening valid n base next len' in
      let text = base ++ released opening n s in
      let text' = base ++ released opening n next in
      let e = more_released s piece ts more_is ∙ ap (λ (t : List ℕ). released opening n s ++ t) parts in
      let left = cut_len base s next out unwritten e in
      -- it lent something, so it was open
      let o : (outcome opening n s).status ≡ Open =
      elim (stays s timely) [
        | inl o ↦ o
        | inr same ↦ (let none = ap (flat_map (λ (t : List ℕ). t)) (same piece).1 in
            absurd (omega (arith, some, ap length e, ap length none, length-append {A = ℕ})))
      ] in
      let whole = open_text base s len (c.all o) in
      let step : (at s + 1) * n ≡ at s * n + n = omega arith in
      record {
        index = λ more.
            let j = at (with_piece next more) in
            let grows : at s ≤ j = omega (arith, index_stays s piece timely, index_stays next more timely') in
            let side : (length text' - length unwritten < (at s + 1) * n) ⊎ (j ≡ at s) = elim (cases_lt (at s) (at next)) [
              | inl lt ↦
                  (let r = raised base s piece ts len timely more_is lt in
                  let all : length text' ≡ at s * n + n = r.whole ∙ (ap (λ (k : ℕ). k * n) r.by_one ∙ step) in
                  inl (omega (arith, all, some, step, left, ap length e, length-append {A = ℕ})))
              | inr le ↦
                  (let same : at next ≡ at s = omega (arith, le, index_stays s piece timely) in
                  elim (stays next timely') [
                    | inl o' ↦
                        (let k : at next * n ≡ at s * n = ap (λ (i : ℕ). i * n) same in
                        absurd (omega (arith, some, whole, open_text base next len' (c'.all o'), k, ap length e, length-append {A = ℕ})))
                    | inr still ↦ inr ((still more).0 ∙ same)
                  ])
            ] in
            index ∙ (old ∙ min_is (length text' - length unwritten) n (at s) j positive (omega (arith, left, whole)) grows side);
        chain_is = chain_stays base s next (out ++ unwritten) was now len e old index chain_same m;
      }

  -- the end, of whose text this much was written
  pub mark_end : (base : List ℕ) (s : Segment) (out unwritten : List ℕ) (was now : RunProgress)
      → length base ≡ s.start * n → released opening n (with_end s) ≡ released opening n s ++ (out ++ unwritten)
      → now.index ≡ was.index → now.chain ≡ was.chain → CountsChunks keep opening n base s [] was
      → CountsChunks keep opening n base (with_end s) unwritten now
  mark_end base s out unwritten was now len e index chain_same m =
      let next = with_end s in
      let old = mark_index base s was len m in
      let c = chunks_are_counted sealing opening valid n base s len in
      let text = base ++ released opening n s in
      let text' = base ++ released opening n next in
      let closes = end_closes opening n s in
      let same : at next ≡ at s = closes.1 in
      let left = cut_len base s next out unwritten e in
      record {
        index = λ more.
            let j = at (with_piece next more) in
            let still : j ≡ at s = ((closed_stays opening n next (λ u. cc) closes.0).0 more).index ∙ same in
            index ∙ (old ∙ min_is (length text' - length unwritten) n (at s) j positive
            (omega (arith, left, c.within)) (omega (arith, still)) (inr still));
        chain_is = chain_stays base s next (out ++ unwritten) was now len e old index chain_same m;
      }

  -- before any byte
  pub mark_fresh : (base : List ℕ) (k : ℕ) (p : RunProgress) → length base ≡ k * n → p.index ≡ k → p.chain ≡ chain_if keep (first_chunks n k base)
      → CountsChunks keep opening n base (fresh k) [] p
  mark_fresh base k p len index chain_is = grind (arith, common_steps, append-nil, fresh_is_open, mark_all)

  -- and at the end of a run, with bytes after it that were not fed
  pub marked : (base : List ℕ) (s last : Segment) (more out unwritten : List ℕ) (p : RunProgress) → with_piece s more ≡ last → released opening n s
      ≡ out ++ unwritten → CountsChunks keep opening n base s unwritten p → HasCounted keep opening n (base ++ out) last p
  marked base s last more out unwritten p is parts m =
      grind (arith, common_steps, append_assoc, first_chunks-append, le-div_iff_mul-le, length-append)

-- ---- Feeding an opener and writing what it releases, one call after another.

-- a chunk is one text at most
pub chunk_few : (chunk : Option (Bor (List ℕ))) → length (chunk_texts chunk) ≤ 1
chunk_few None = omega arith
chunk_few (Some chunk) = omega arith

module _ {B : Type 0} (sealing : B → List ℕ → List ℕ → List ℕ) (opening : B → List ℕ → List ℕ → Option (List ℕ))
    (valid : (key : B) → IsChunkBox (sealing key) (opening key)) (n : ℕ) (positive : 0 < n) where
  -- nothing was fed
  pub released_none : {o : OpenerView B} (first : WriterView) (k : ℕ) {key : B} → o.key ≡ key → Stands opening n o (fresh k)
      → HasReleased opening n key first o first (segment k [] false) []
  released_none {o} first k {key} is stands = record {
    out = [];
    key_is = is;
    stands = stands;
    wrote = wrote_none first;
    text = ap (λ (x : Outcome). flat_map (λ (t : List ℕ). t) x.texts) (fresh_is_open (opening key) n k);
    counts = λ keep base len index chain_is.
        mark_fresh (sealing key) (opening key) (valid key) n positive keep base k first.tally len index chain_is;
  }

  module _ {key : B} {first was : WriterView} {old new : OpenerView B} {k : ℕ} {before : List ℕ}
      (h : HasReleased opening n key first old was (segment k before false) []) (key_is : new.key ≡ old.key) where
    -- a call that took these bytes and lent these texts
    module _ (fed : List ℕ) (ts : List (List ℕ)) (stands : Stands opening n new (segment k (before ++ fed) false))
        (texts : (outcome (opening old.key) n (segment k (before ++ fed) false)).texts ≡ (outcome (opening old.key) n (segment k before false)).texts
        ++ ts)
      where
        more_texts : (outcome (opening key) n (segment k (before ++ fed) false)).texts ≡ (outcome (opening key) n (segment k before false)).texts ++
            ts
        more_texts = rw h.key_is at texts

        more : {text : List ℕ} → flat_map (λ (t : List ℕ). t) ts ≡ text → released (opening key) n (segment k (before ++ fed) false) ≡ h.out ++ text
        more {text} lent = ap (flat_map (λ (t : List ℕ). t)) more_texts
            ∙ flat_map-append (λ (t : List ℕ). t) (outcome (opening key) n (segment k before false)).texts ts
            ∙ ap (λ (t : List ℕ). t ++ flat_map (λ (x : List ℕ). x) ts) (h.text ∙ append-nil h.out) ∙ ap (λ (t : List ℕ). h.out ++ t) lent

        -- they were written whole, and counted
        pub fed_whole : {now : WriterView} {out : List ℕ} (index : ℕ) → index ≡ new.index → length ts ≤ 1 → flat_map (λ (t : List ℕ). t) ts ≡ out
            → Wrote was now out → AdvancesTally was.tally.index was.tally.chain index (link_if was.tally.chain out) now.tally
            → HasReleased opening n key first new now (segment k (before ++ fed) false) []
        fed_whole {now} {out} index is few lent wrote a = record {
          out = h.out ++ out;
          key_is = key_is ∙ h.key_is;
          stands = stands;
          wrote = wrote_then h.wrote wrote;
          text = more lent ∙ sym (append-nil (h.out ++ out));
          counts = λ keep base len here chain_is.
              let now_at : index ≡ (outcome (opening key) n (segment k (before ++ fed) false)).index = is ∙ (stands.index
              ∙ ap (λ x. (outcome (opening x) n (segment k (before ++ fed) false)).index) (key_is ∙ h.key_is)) in
              mark_step (sealing key) (opening key) (valid key) n positive keep base (segment k before false) fed ts index was.tally now.tally len
              (λ _. refl) (λ _. refl) more_texts few now_at (rw (← lent) at a) (h.counts keep base len here chain_is);
        }

        -- some of them was not
        pub fed_cut : {now : WriterView} {out unwritten : List ℕ} → length ts ≤ 1 → flat_map (λ (t : List ℕ). t) ts ≡ out ++ unwritten
            → Wrote was now out
            → 0 < length unwritten → now.tally.index ≡ was.tally.index → now.tally.chain ≡ was.tally.chain
            → HasReleased opening n key first new now (segment k (before ++ fed) false) unwritten
        fed_cut {now} {out} {unwritten} few lent wrote some index chain_same = record {
          out = h.out ++ out;
          key_is = key_is ∙ h.key_is;
          stands = stands;
          wrote = wrote_then h.wrote wrote;
          text = more lent ∙ sym (append_assoc h.out out unwritten);
          counts = λ keep base len here chain_is. mark_cut (sealing key) (opening key) (valid key) n positive keep base (segment k before false) fed
              ts out unwritten
              was.tally now.tally len (λ _. refl) (λ _. refl) more_texts few lent some index chain_same (h.counts keep base len here chain_is);
        }

    -- a call that refused a piece
    pub fed_none : (piece : List ℕ) → Stands opening n new (segment k (before ++ piece) false)
        → (outcome (opening old.key) n (segment k (before ++ piece) false)).texts ≡ (outcome (opening old.key) n (segment k before false)).texts ++ []
        → HasReleased opening n key first new was (segment k (before ++ piece) false) []
    fed_none piece stands texts = grind (arith, common_steps, mark_none, more)

    -- the end, of whose text this much was written
    pub end_released : {now : WriterView} {out unwritten : List ℕ} → Stands opening n new (segment k before true)
        → released (opening old.key) n (segment k before true) ≡ released (opening old.key) n (segment k before false) ++ (out ++ unwritten)
        → Wrote was now out → now.tally.index ≡ was.tally.index → now.tally.chain ≡ was.tally.chain
        → HasReleased opening n key first new now (segment k before true) unwritten
    end_released {now} {out} {unwritten} stands last wrote index chain_same = record {
      out = h.out ++ out;
      key_is = key_is ∙ h.key_is;
      stands = stands;
      wrote = wrote_then h.wrote wrote;
      text = rw h.key_is at last ∙ ap (λ (t : List ℕ). t ++ (out ++ unwritten)) (h.text ∙ append-nil h.out) ∙ sym (append_assoc h.out out unwritten);
      counts = λ keep base len here chain_is. mark_end (sealing key) (opening key) (valid key) n positive keep base (segment k before false) out
          unwritten
          was.tally now.tally len (rw h.key_is at last) index chain_same (h.counts keep base len here chain_is);
    }

-- the opener holds what was taken, or lent it without a tag
pub holds_or_lends : {B : Type 0} (n : ℕ) (old new : OpenerView B) (taken : ℕ) (chunk : Option (Bor (List ℕ)))
    → IfSome chunk (λ c. (length c.now ≡ n) × (length old.held + taken ≡ n + tag_length) × (new.held ≡ []))
    → IfNone chunk (length new.held ≡ length old.held + taken) → length new.held + length (chunk_bytes chunk) ≤ length old.held + taken
holds_or_lends n old new taken None lent unlent = omega (arith, unlent)
holds_or_lends n old new taken (Some c) lent unlent = omega (arith, lent.0, lent.1, ap length lent.2)
