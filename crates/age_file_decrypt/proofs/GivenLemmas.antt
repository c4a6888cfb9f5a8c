-- What the sources gave calls in a row, and what their sinks took.
use Rattle.std.proofs.lemmas.Grind.{common_steps, flat_map-append}
use Rattle.std.proofs.lemmas.Bool.Decides.{nat_tests}
use Rattle.std.proofs.Common.{refl, inl, inr, ◌≡◌, ℕ, ◌≤◌, ◌<◌, arith, List, [], ◌∷◌, ◌++◌, Option, None, Some, sym, ap, subst, ◌∙◌, append-nil, ◌⊎◌, ◌+◌, ◌*◌}
use Rattle.std.proofs.Common.{◌-◌, ◌/◌, length, take, drop, suc, append_assoc, Bool, true, false, take-append-drop}
use Rattle.std.specs.Prelude.{Result, Ok, Err, IfSome, IsSomeAnd, nat_lt, ◌==◌, is_none, not, ◌&&◌, map, IfOk, IfErr}
use Rattle.std.proofs.lemmas.List.{append_cancel_left, length-append, length-drop, length-take, length-take-le, take_all, take_at, drop_at}
use Rattle.age_io.specs.Taken.{Taken, Appends}
use Rattle.age_io.proofs.{Appends-nil}
use Rattle.age_io.specs.{Consumes, SinkView}
use Rattle.age_io.specs.Supply.{Supply}
use Rattle.age_stanza.specs.declared.header.Header.{Header}
use Rattle.age_stream.specs.{IsPrefixOf, IsRest, Outcome, Frontier, outcome, released, leading_plaintexts, text_then, text_before_last, whole_blocks, stop, verdict}
use Rattle.age_stream.specs.{is_empty_last, IsCounted}
use Rattle.age_stream.specs.declared.step.Status.TheVariants.{Done as AllDone}
use Rattle.age_chunk.specs.{chunk_count, chunk_length, chunk_limit, nonce_bytes, last_index, last_chunk, pair, block_bytes, payload, block_length, IsChunkBox}
use Rattle.age_chunk.specs.{tag_length}
use Rattle.age_fault.specs.declared.key.KeyFault.{KeyFault}
use Rattle.age_file_decrypt.specs.Runs.{run_outcome, Run, held, IsTexts, IsAuthenticRun, IsPositionOf, CarriesText, GivesPosition, WritesNone, OpenedFile, Reads}
use Rattle.age_file_decrypt.specs.Runs.{IsRun, IsDone, IsFromStart}
use Rattle.age_file_input.specs.{Ports}
use Rattle.age_file_decrypt.specs.Decrypts.{DecryptAnswers, DecryptEnds, WritesText, from_start}
use Rattle.age_file_decrypt.specs.Resumes.{Resumption, from_either}
use Rattle.age_file_decrypt.specs.InARow.{AnswersRight, DecryptCall, last_took, AreInARow, AreTexts, AllAnswerRight, GaveFile, GaveText, GaveRest, GaveFront}
use Rattle.age_file_decrypt.specs.declared.decryption.Done.{Done}
use Rattle.age_file_decrypt.specs.declared.decryption.Stopped.{Stopped}
use Rattle.age_file_position.specs.declared.position.Position.{Position}
use Rattle.age_file_position.specs.declared.position.PositionPolicy.{PositionPolicy}
use Rattle.age_file_position.specs.declared.position.PositionPolicy.TheVariants.{Kept, Dropped}
use Rattle.age_file_position.specs.{chain}
use Rattle.age_file_decrypt.specs.inner.{segment}
use Rattle.age_file_input.proofs.ReadLemmas.{left_of, none_left, same_front}
use Rattle.age_file_decrypt.proofs.RunLemmas.{authentic_start, position_carries, writes_of, writes_all, old_carries, Fits, given_fits}
use Rattle.std.specs.List.{flat_map, enumerate_from}
use Rattle.std.specs.Simd.{first_chunks}
use Rattle.std.proofs.lemmas.Bool.{cases_lt, ltb-true, ltb-false, cond_both}
use Rattle.std.proofs.Math.Bool.{or-false}
use Rattle.std.proofs.lemmas.Nat.{div-mul-add, mul-le}
use Rattle.std.proofs.Math.Nat.{div-mul-le_self, le-div_iff_mul-le}
use Rattle.age_chunk.proofs.{nonce_bytes-length, length-first_chunks, first_chunks-append}
use Rattle.age_stream.specs.Segment.{Segment}
use Rattle.age_stream.proofs.SegmentLemmas.{rest_payload as from_chunk, payload_is, length-bytes_of}
use Rattle.age_stream.proofs.ChunkLemmas.{all_full}
use Rattle.age_stream.proofs.{first_chunks-take, counted_are, stands_at, flat_first, opens_before, first_chunks-add, length-leading_plaintexts, prefix_trans}
use Rattle.age_stream.proofs.GoingLemmas.{is_counted as chunks_are_counted}
use Rattle.age_stream.proofs.LawLemmas.{payload_is_longer}
use Rattle.age_keys.specs.{box, unbox, payload_key, FileOf}
use Rattle.age_keys.specs.inner.{box_valid}
use Rattle.std.specs.Io.KnownBytes as known

-- ---- what sinks took

-- what a sink took is one list
one_taken : (old new : Taken) (x y : List ℕ) → Appends old new x → Appends old new y → x ≡ y
one_taken old new x y p q = append_cancel_left old.bytes x y (sym p.bytes ∙ q.bytes)

some_carries : (P Q : Position → Type 0) (o : Option Position) → IsSomeAnd o P → ((p : Position) → P p → Q p) → IfSome o Q
some_carries P Q None h f = absurd h
some_carries P Q (Some p) h f = f p h

pub none_carries : (Q : Position → Type 0) (o : Option Position) → o ≡ None → IfSome o Q
none_carries Q o e = subst (λ (x : Option Position). IfSome x Q) (sym e) tt

pub given_carries : (keep : PositionPolicy) (P Q : Position → Type 0) (o : Option Position)
    → GivesPosition keep P o → ((p : Position) → P p → Q p) → IfSome o Q
given_carries Kept P Q o h f = some_carries P Q o h f
given_carries Dropped P Q o h f = none_carries Q o h

-- ---- what a call wrote

module _ (Allows : Header → List ℕ → Type 0) (Refused : Header → KeyFault → Type 0) (text : List ℕ) (old new : Ports) where
  -- what its sink took is as it has to be
  abbrev TakesRight : Result Done Stopped → Type 0
  TakesRight result = (out : List ℕ) × Appends old.sink.taken new.sink.taken out × AnswersRight text out result

  none_right : (s : Stopped) → WritesNone old new s → TakesRight (Err s)
  none_right s none = (
    [],
    subst (λ (v : SinkView). Appends old.sink.taken v.taken []) (sym none.sink) (Appends-nil old.sink.taken),
    ((text, refl), none_carries (CarriesText text) s.position none.position),
  )

  early_right : (from : Option Resumption) → IfSome from (Fits text) → (s : Stopped) → (from_either Allows Refused from).early old new s → TakesRight (Err s)
  early_right None fits s f = none_right s f.0
  early_right (Some e) fits s (inl f) = none_right s f.0
  early_right (Some e) fits s (inr (inl f)) = (
    f.copied,
    f.writes.wrote,
    (fits.copied old new s.written f.copied f.writes, none_carries (CarriesText text) s.position f.nowhere),
  )
  early_right (Some e) fits s (inr (inr f)) =
      let begins = fits.copied old new s.written f.copied f.writes in
      let carries = old_carries e.position f.copied text f.old_text begins in
      (f.copied, f.writes.wrote, (begins, subst (λ (o : Option Position). IfSome o (CarriesText text)) (sym f.here) carries))

  -- a run of it is authentic, if its blocks are the text's
  abbrev IsWriters : Run → Type 0
  IsWriters r = (chunk_count chunk_length text ≤ chunk_limit) × IsTexts text r

  run_is : (from : Option Resumption) → IfSome from (Fits text) → (r : Run) → (from_either Allows Refused from).run r → IsWriters r
      → (r.first < chunk_limit) × IsAuthenticRun r text
  run_is None fits r begun auth = (omega (arith, begun.zero), authentic_start r begun text auth.0 auth.1)
  run_is (Some e) fits r begun auth =
      (omega (arith, begun.index, e.position.within), record { few = auth.0; old_text = fits.taken r begun; authentic = auth.1 })

  pub call_right : (keep : PositionPolicy) (from : Option Resumption) → IfSome from (Fits text) → (result : Result Done Stopped) (run : Option Run)
      → DecryptAnswers keep Allows (from_either Allows Refused from) old new run result → IfSome run IsWriters → TakesRight result
  call_right keep from fits (Ok done) (Some r) f auth =
      let at = run_is from fits r f.0 auth in
      (held r, f.1.is.wrote, writes_all r at.0 f.1.whole f.1.done text at.1)
  call_right keep from fits (Ok done) None f auth = absurd f
  call_right keep from fits (Err s) None f auth = early_right from fits s f
  call_right keep from fits (Err s) (Some r) f auth =
      let at = run_is from fits r f.0 auth in
      let prefix = f.1.is.prefix in (
        held r,
        f.1.is.wrote,
        (
          writes_of r at.0 prefix text at.1,
          given_carries keep (IsPositionOf r) (CarriesText text) s.position f.1.here (λ p h. position_carries r p at.0 prefix h text at.1),
        ),
      )

-- ---- the row

began : (text took : List ℕ) (result : Result Done Stopped) → AnswersRight text took result → IsPrefixOf took text
began text took (Ok done) a = ([], append-nil took ∙ a)
began text took (Err stopped) a = a.0

module _ (Who : Type 0) (Allows : Who → Header → List ℕ → Type 0) (Refused : Who → Header → KeyFault → Type 0) (text : List ℕ)
    (few : chunk_count chunk_length text ≤ chunk_limit) where
  last_began : (calls : List (DecryptCall Who Allows Refused)) → AllAnswerRight Who Allows Refused text calls → IsPrefixOf (last_took Who Allows Refused calls) text
  last_began [] a = (text, refl)
  last_began (c ∷ earlier) a = began text c.took c.result a.0

  fits_of : (taken : List ℕ) → IsPrefixOf taken text → (from : Option Resumption)
      → IfSome from (λ e. (given : List ℕ) → Consumes e.first.supply e.last.supply given → IsPrefixOf given taken) → IfSome from (Fits text)
  fits_of taken front None row = tt
  fits_of taken front (Some e) row = given_fits text e (λ given read. prefix_trans given taken text (row given read) front)

  writers_of : (run : Option Run) → IfSome run (IsTexts text) → IfSome run (λ r. (chunk_count chunk_length text ≤ chunk_limit) × IsTexts text r)
  writers_of None auth = tt
  writers_of (Some r) auth = (few, auth)

  pub in_a_row : (calls : List (DecryptCall Who Allows Refused)) → AreInARow Who Allows Refused calls → AreTexts Who Allows Refused text calls
      → AllAnswerRight Who Allows Refused text calls
  in_a_row [] row auth = tt
  in_a_row (c ∷ earlier) row auth =
      let rest = in_a_row earlier row.1 auth.1 in
      let fits = fits_of (last_took Who Allows Refused earlier) (last_began earlier rest) c.from row.0 in
      let right = call_right (Allows c.who) (Refused c.who) text c.old c.new c.keep c.from fits c.result c.run c.answers (writers_of c.run auth.0) in
      (subst (λ (t : List ℕ). AnswersRight text t c.result) (one_taken c.old.sink.taken c.new.sink.taken right.0 c.took right.1 c.wrote) right.2, rest)

-- ---- tests

-- a last block that is only a tag has number 0
tag_alone : (len z i : ℕ) → len < z → len ≡ tag_length → (not (len == z) && (len == tag_length && nat_lt 0 i)) ≡ false → i ≡ 0
tag_alone len z i lt is h = grind (arith, nat_tests)

some_of : (o : Option (List ℕ)) → is_none o ≡ false → (t : List ℕ) × (o ≡ Some t)
some_of None e = cc
some_of (Some t) e = (t, refl)

-- ---- the first blocks

joined_front : (z c m : ℕ) (xs : List ℕ) → m ≤ c → flat_map (λ (b : List ℕ). b) (take m (first_chunks z c xs)) ≡ take (m * z) xs
joined_front z c m xs h =
    let e : c ≡ m + (c - m) = omega (arith, h) in
    ap (flat_map (λ (b : List ℕ). b)) (ap (λ (k : ℕ). take m (first_chunks z k xs)) e ∙ first_chunks-take z m (c - m) xs) ∙ flat_first z m xs

module _ (sealing : List ℕ → List ℕ → List ℕ) (opening : List ℕ → List ℕ → Option (List ℕ)) (valid : IsChunkBox sealing opening) (n : ℕ) where
  abbrev seals : ℕ → List (List ℕ) → List ℕ
  seals i ts = block_bytes (map (pair sealing false) (enumerate_from i ts))

  sealed_then : (i : ℕ) (b : List ℕ) (bs ts : List (List ℕ)) (o : Option (List ℕ)) → ((t : List ℕ) → o ≡ Some t → sealing (nonce_bytes i false) t ≡ b)
      → seals (i + 1) ts ≡ flat_map (λ (x : List ℕ). x) (take (length ts) bs) → seals i (text_then opening o ts)
      ≡ flat_map (λ (x : List ℕ). x) (take (length (text_then opening o ts)) (b ∷ bs))
  sealed_then i b bs ts None f h = refl
  sealed_then i b bs ts (Some t) f h = ap (λ (x : List ℕ). x ++ seals (i + 1) ts) (f t refl) ∙ ap (λ (x : List ℕ). b ++ x) h

  -- the blocks in front are the sealings of their texts
  fronts : (i : ℕ) (blocks : List (List ℕ)) → seals i (leading_plaintexts opening i blocks)
      ≡ flat_map (λ (x : List ℕ). x) (take (length (leading_plaintexts opening i blocks)) blocks)
  fronts i [] = refl
  fronts i (b ∷ bs) =
      sealed_then i b bs (leading_plaintexts opening (i + 1) bs) (text_before_last opening i b)
      (λ t e. valid.only (nonce_bytes i false) t b (nonce_bytes-length i false) (opens_before i (opening (nonce_bytes i false) b) t e).1)
      (fronts (i + 1) bs)

  -- ---- the last block

  record Ends (b : Frontier) (o : Outcome) : Type 0 where
    text : List ℕ
    opens : opening (nonce_bytes b.index true) b.block ≡ Some text
    texts_are : o.texts ≡ b.texts ++ text ∷ []
    not_empty : is_empty_last b ≡ false
    alone : b.followed ≡ false

  ends : (b : Frontier) → (verdict opening b).status ≡ AllDone → Ends b (verdict opening b)
  ends b = grind (arith, common_steps, cond_both, some_of)

  seals-append : (i : ℕ) (xs ys : List (List ℕ)) → seals i (xs ++ ys) ≡ seals i xs ++ seals (i + length xs) ys
  seals-append i [] ys = let e : i ≡ i + 0 = omega arith in ap (λ (k : ℕ). seals k ys) e
  seals-append i (x ∷ xs) ys =
      let e : i + 1 + length xs ≡ i + suc (length xs) = omega arith in
      let b = sealing (nonce_bytes i false) x in
      ap (λ (t : List ℕ). b ++ t) (seals-append (i + 1) xs ys ∙ ap (λ (k : ℕ). seals (i + 1) xs ++ seals k ys) e)
      ∙ sym (append_assoc b (seals (i + 1) xs) (seals (i + suc (length xs)) ys))

  -- ---- the payload

  -- no more blocks are in front than have a number
  few_then : (b : List ℕ) (ts : List (List ℕ)) (i : ℕ) (o : Option (List ℕ)) → text_before_last opening i b ≡ o → i < chunk_limit
      → (i + 1 < chunk_limit → i + 1 + length ts < chunk_limit) → i + length (text_then opening o ts) < chunk_limit
  few_then b ts i None e h rest = omega (arith, h)
  few_then b ts i (Some t) e h rest = omega (arith, rest (ltb-true (i + 1) chunk_limit (opens_before i (opening (nonce_bytes i false) b) t e).0))

  few_front : (blocks : List (List ℕ)) (i : ℕ) → i < chunk_limit → i + length (leading_plaintexts opening i blocks) < chunk_limit
  few_front [] i h = omega (arith, h)
  few_front (b ∷ bs) i h = few_then b (leading_plaintexts opening (i + 1) bs) i (text_before_last opening i b) refl h (few_front bs (i + 1))

  module _ (k : ℕ) (bytes : List ℕ) (ended : Bool) where
    abbrev opened : List (List ℕ)
    opened = leading_plaintexts opening k (whole_blocks n bytes)

    abbrev m : ℕ
    m = length opened

    front_is : seals k opened ≡ take (m * (n + tag_length)) bytes
    front_is = grind (arith, common_steps, fronts, joined_front, length-first_chunks, length-leading_plaintexts)

  module _ (positive : 0 < n) (k : ℕ) (limit : k < chunk_limit) (copied bytes : List ℕ) (copied_size : length copied ≡ k * n) where
    abbrev z : ℕ
    z = n + tag_length

    abbrev s : Segment
    s = segment k bytes true

    abbrev ts : List (List ℕ)
    ts = opened k bytes true

    abbrev j : ℕ
    j = k + length ts

    abbrev b : Frontier
    b = stop opening n s

    abbrev joined : List ℕ
    joined = flat_map (λ (t : List ℕ). t) ts

    abbrev pub all_text : List ℕ
    all_text = copied ++ released opening n s

    counted : IsCounted opening n copied s
    counted = chunks_are_counted sealing opening valid n copied s copied_size

    before_size : length (copied ++ joined) ≡ j * n
    before_size =
        let flat : List (List ℕ) → List ℕ = flat_map (λ (t : List ℕ). t) in
        let join : copied ++ joined ≡ take ((outcome opening n s).index * n) all_text =
        ap (λ (cs : List (List ℕ)). copied ++ flat cs) (sym (counted_are opening n s)) ∙ counted.join in
        omega (
          arith,
          ap length join,
          length-take ((outcome opening n s).index * n) all_text,
          counted.within,
          ap (λ (i : ℕ). i * n) ((stands_at opening n s).index),
        )

    front_chunks : first_chunks n j all_text ≡ first_chunks n k copied ++ ts
    front_chunks =
        let at = (stands_at opening n s).index in
        let all : length (first_chunks n k copied ++ ts) ≤ (outcome opening n s).index =
        omega (arith, at, length-append (first_chunks n k copied) ts, length-first_chunks n k copied) in
        ap (λ (i : ℕ). first_chunks n i all_text) (sym at) ∙ (counted.chunks ((outcome opening n s).index) (omega arith)
        ∙ (ap (λ (cs : List (List ℕ)). take ((outcome opening n s).index) (first_chunks n k copied ++ cs)) (counted_are opening n s)
        ∙ take_all ((outcome opening n s).index) (first_chunks n k copied ++ ts) all))

    module _ (e : Ends b (verdict opening b)) (all_is : all_text ≡ (copied ++ joined) ++ e.text) where
      last_block : sealing (nonce_bytes b.index true) e.text ≡ b.block
      last_block = valid.only (nonce_bytes b.index true) e.text b.block (nonce_bytes-length b.index true) e.opens

      size : length e.text + tag_length ≡ length b.block
      size = omega (arith, valid.longer (nonce_bytes b.index true) e.text (nonce_bytes-length b.index true), ap length last_block)

      block_is : b.block ≡ drop (length ts * z) bytes
      block_is = grind (arith, common_steps, length-drop, ltb-false, or-false, take_all)

      short : length e.text ≤ n
      short = omega (arith, size, length-take z (drop (length ts * z) bytes))

      some : (0 < length e.text) ⊎ (j ≡ 0)
      some = grind (arith, common_steps, cases_lt, size, tag_alone)

      index_of : length all_text - 1 ≡ j * n + (length e.text - 1)
      index_of = grind (arith, common_steps, before_size, length-append, some)

      q_is : last_index n all_text ≡ j
      q_is = ap (λ (i : ℕ). i / n) index_of ∙ div-mul-add j n (length e.text - 1) (omega (arith, short, positive))

      few : chunk_count n all_text ≤ chunk_limit
      few = omega (arith, q_is, few_front (whole_blocks n bytes) k limit)

      below : k < chunk_count n all_text
      below = omega (arith, q_is)

      last_is : last_chunk n all_text ≡ e.text
      last_is = ap (λ (i : ℕ). drop (i * n) all_text) q_is ∙ (ap (drop (j * n)) all_is ∙ drop_at (copied ++ joined) e.text (j * n) before_size)

      -- its chunks from this one on are those that were opened
      chunks_are : drop k (first_chunks n (last_index n all_text) all_text) ≡ ts
      chunks_are = rw (q_is, front_chunks) (drop_at (first_chunks n k copied) ts k (length-first_chunks n k copied))

      is_rest : bytes ≡ drop (k * z) (payload sealing n all_text)
      is_rest =
          let q = last_index n all_text in
          let last = sealing (nonce_bytes q true) (last_chunk n all_text) in
          let last_same : last ≡ drop (length ts * z) bytes = rw (last_is, q_is) (last_block ∙ block_is) in
          rw (
            from_chunk sealing opening valid n positive all_text few k below,
            chunks_are,
            front_is k bytes true,
            last_same,
            take-append-drop (length ts * z) bytes,
          )

    pub is_rest_of : (outcome opening n s).status ≡ AllDone → (chunk_count n all_text ≤ chunk_limit) × IsRest sealing opening n all_text s
    unfolding outcome
    is_rest_of done =
        let e = ends b done in
        let flat : List (List ℕ) → List ℕ = flat_map (λ (t : List ℕ). t) in
        let all_is : all_text ≡ (copied ++ joined) ++ e.text = ap (λ (x : List ℕ). copied ++ x) (ap flat e.texts_are
        ∙ (flat_map-append (λ (t : List ℕ). t) ts (e.text ∷ []) ∙ ap (λ (x : List ℕ). joined ++ x) (append-nil e.text)))
        ∙ sym (append_assoc copied joined e.text) in
        (few e all_is, record { below = below e all_is; bytes = is_rest e all_is; ended = refl; timely = refl })

  -- ---- the front of a payload

  -- the blocks before chunk j of a text
  first_blocks : (j : ℕ) (text : List ℕ) → j < chunk_count n text
      → take (j * (n + tag_length)) (payload sealing n text) ≡ seals 0 (first_chunks n j text)
  first_blocks j text below =
      let q = last_index n text in
      let these = first_chunks n j text in
      let more = first_chunks n (q - j) (drop (j * n) text) in
      let last = sealing (nonce_bytes q true) (last_chunk n text) in
      let sum : q ≡ j + (q - j) = omega (arith, below) in
      let len = length-first_chunks n j text in
      let fits : j * n ≤ length text = omega (arith, mul-le j n q n (omega (arith, below)) (omega arith), div-mul-le_self (length text - 1) n) in
      let size : length (seals 0 these) ≡ j * (n + tag_length) = omega (
        arith,
        length-bytes_of sealing opening valid n 0 these (all_full n j text fits),
        ap (λ (k : ℕ). (n + tag_length) * k) len,
      ) in
      ap (take (j * (n + tag_length))) (payload_is sealing opening valid n text
      ∙ (ap (λ (cs : List (List ℕ)). seals 0 cs ++ last) (ap (λ (k : ℕ). first_chunks n k text) sum ∙ first_chunks-add n j (q - j) text)
      ∙ (ap (λ (x : List ℕ). x ++ last) (seals-append 0 these more) ∙ append_assoc (seals 0 these) (seals (0 + length these) more) last)))
      ∙ take_at (seals 0 these) (seals (0 + length these) more ++ last) (j * (n + tag_length)) size

  module _ (bytes : List ℕ) (ended : Bool) where
    -- the blocks before the chunk at which a segment stands begin the payload of each text that begins as it does
    pub begins_payload : (j : ℕ) (out text : List ℕ) → j ≤ (outcome opening n (segment 0 bytes ended)).index → j * n ≤ length out
        → IsPrefixOf out (released opening n (segment 0 bytes ended)) → IsPrefixOf (take (j * n) out) text → j < chunk_count n text
        → IsPrefixOf (take (j * (n + tag_length)) (payload sealing n text)) bytes
    begins_payload j out text at within front same below =
        let z = n + tag_length in
        let ts = opened 0 bytes ended in
        let m = length ts in
        let none : length {A = ℕ} [] ≡ 0 * n = omega arith in
        let counted = chunks_are_counted sealing opening valid n [] (segment 0 bytes ended) none in
        let first = take j ts in
        let behind = drop j ts in
        let start = take (j * n) out in
        let start_size : length start ≡ j * n = length-take-le (j * n) out within in
        let chunks_of : (x y : List ℕ) → j * n ≤ length x → first_chunks n j (x ++ y) ≡ first_chunks n j x = first_chunks-append n j in
        let texts : first_chunks n j text ≡ first = ap (first_chunks n j) (sym same.1) ∙ (chunks_of start same.0 (omega (arith, start_size))
        ∙ (sym (ap (first_chunks n j) (sym (take-append-drop (j * n) out)) ∙ chunks_of start (drop (j * n) out) (omega (arith, start_size)))
        ∙ (sym (ap (first_chunks n j) (sym front.1) ∙ chunks_of out front.0 within)
        ∙ (counted.chunks j at ∙ ap (take j) (counted_are opening n (segment 0 bytes ended)))))) in
        let parts : ts ≡ first ++ behind = sym (take-append-drop j ts) in
        let all : seals 0 ts ≡ take (m * z) bytes = front_is 0 bytes ended in
        let rest = seals (0 + length first) behind in (
          rest ++ drop (m * z) bytes,
          ap (λ (x : List ℕ). x ++ (rest ++ drop (m * z) bytes)) (first_blocks j text below ∙ ap (seals 0) texts)
              ∙ (sym (append_assoc (seals 0 first) rest (drop (m * z) bytes))
              ∙ (ap (λ (x : List ℕ). x ++ drop (m * z) bytes) (sym (ap (seals 0) parts ∙ seals-append 0 first behind) ∙ all)
              ∙ take-append-drop (m * z) bytes)),
        )

-- ---- What the sources gave a decryption that is done, and what its sink took.

-- a run that is done read the rest of the payload of all that it wrote, from its first chunk on
rest_read : (Allows : Header → List ℕ → Type 0) (old new : Ports) (written : ℕ) (r : Run) → IsDone Allows old new written r → r.first < chunk_limit
    → (chunk_count chunk_length (held r) ≤ chunk_limit)
    × IsRest (box r.file.key r.file.nonce) (unbox r.file.key r.file.nonce) chunk_length (held r) (segment r.first r.bytes true)
rest_read Allows old new written r d limit =
    rw (d.whole, d.ended) (is_rest_of (box r.file.key r.file.nonce) (unbox r.file.key r.file.nonce) (box_valid (payload_key r.file.key r.file.nonce))
    chunk_length (omega arith) r.first limit r.copied r.bytes d.is.copied_size (rw d.ended at d.done))

module _ (keep : PositionPolicy) (Allows : Header → List ℕ → Type 0) (Refused : Header → KeyFault → Type 0) (old new : Ports) where
  abbrev Gives : Option Resumption → Done → Type 0
  Gives from done = (text : List ℕ) × GaveText Allows from old.source.supply new.source.supply text
      × WritesText old.sink.taken new.sink.taken done.written text

  pub gave_text : (from : Option Resumption) (done : Done) (r : Run) → DecryptEnds keep Allows (from_either Allows Refused from) old new done r
      → Gives from done
  gave_text None done r d =
      let is = d.1.is in
      let front = r.file.header_bytes ++ r.file.nonce in
      let all = payload (box r.file.key r.file.nonce) chunk_length (held r) in
      let zero : r.first * block_length ≡ 0 = omega (arith, d.0.zero) in
      let payload_is : r.bytes ≡ all = rw zero at (rest_read Allows old new done.written r d.1 (omega (arith, d.0.zero))).1.bytes in (
        held r,
        record {
          header = r.file.header;
          key = r.file.key;
          nonce = r.file.nonce;
          bytes = front ++ r.bytes;
          read = subst (λ (t : List ℕ). Consumes old.source.supply new.source.supply (front ++ (t ++ r.bytes))) d.0.none_skipped is.reads.read;
          file = record {
            front = r.file.header_bytes;
            head = is.reads.text;
            mac = is.reads.opens.mac;
            size = is.reads.size;
            parts = ap (λ (t : List ℕ). front ++ t) payload_is;
          };
          opens = is.reads.opens;
          at_end = is.at_end.0 d.1.ended;
        },
        (is.wrote, is.count),
      )
  gave_text (Some e) done r d =
      let from = d.0 in
      let is = d.1.is in
      let p = e.position in
      let rest = rest_read Allows old new done.written r d.1 (omega (arith, from.index, p.within)) in
      let size = from.old_text.size in
      let bytes = rw from.index at rest.1.bytes in (
        held r,
        (
          record {
            more = from.more;
            read = rw (take_at r.copied r.out (p.index * chunk_length) size) from.old_read;
            few = from.few;
            carries = (
              omega (arith, size, length-append r.copied r.out),
              sym from.old_text.same ∙ sym (ap chain (first_chunks-append chunk_length p.index r.copied r.out (omega (arith, size)))),
            );
          },
          record {
            file = r.file;
            own = from.own;
            skipped = r.skipped;
            size = is.skipped_size ∙ ap (λ (k : ℕ). k * block_length) from.index;
            few = rest.0;
            below = subst (λ (k : ℕ). k < chunk_count chunk_length (held r)) from.index rest.1.below;
            read = rw bytes at is.reads;
            at_end = is.at_end.0 d.1.ended;
          },
        ),
        (is.wrote, is.count),
      )

  pub done_gave : (from : Option Resumption) (result : Result Done Stopped) (run : Option Run)
      → DecryptAnswers keep Allows (from_either Allows Refused from) old new run result → IfOk result (Gives from)
  done_gave from (Ok done) (Some r) d = gave_text from done r d
  done_gave from (Ok done) None d = absurd d
  done_gave from (Err stopped) run d = tt

  -- ---- over memory

  held_after : (a b : Option (List ℕ)) (held text : List ℕ) → a ≡ Some held → known.Appends a b text → b ≡ Some (held ++ text)
  held_after a b held text is wrote = after b (subst (λ (x : Option (List ℕ)). known.Appends x b text) is wrote) where
    after : (b : Option (List ℕ)) → known.Appends (Some held) b text → b ≡ Some (held ++ text)
    after None wrote = absurd wrote
    after (Some all) wrote = ap Some wrote

  pub is_file : (result : Result Done Stopped) (coming held : List ℕ) → IfOk result (Gives None) → old.source.supply.left ≡ Some coming
      → old.sink.taken.contents ≡ Some held
      → IfOk result (λ done. (text : List ℕ) × (header : Header) × (key : List ℕ) × (nonce : List ℕ)
      × FileOf header key nonce text coming × (new.sink.taken.contents ≡ Some (held ++ text)))
  is_file (Err stopped) coming held gave shown kept = tt
  is_file (Ok done) coming held gave shown kept =
      let f = gave.1 in
      let left = left_of old.source.supply new.source.supply coming f.bytes shown f.read in
      let all : coming ≡ f.bytes = left.1 ∙ ap (λ (t : List ℕ). f.bytes ++ t)
      (none_left new.source.supply left.0 left.2 f.at_end) ∙ append-nil f.bytes in (
        gave.0,
        f.header,
        f.key,
        f.nonce,
        subst (λ (b : List ℕ). FileOf f.header f.key f.nonce gave.0 b) (sym all) f.file,
        held_after old.sink.taken.contents new.sink.taken.contents held gave.0 kept gave.2.0.contents,
      )

  -- ---- a decryption that stopped

  abbrev GivesFront : Stopped → Position → Type 0
  GivesFront stopped p = (text : List ℕ) × GaveFront Allows p old.source.supply new.source.supply text
      × WritesText old.sink.taken new.sink.taken stopped.written text

  gave_front : (stopped : Stopped) (r : Run) (p : Position) → IsFromStart r → IsRun Allows old new stopped.written r → IsPositionOf r p
      → GivesFront stopped p
  gave_front stopped r p from is at =
      let f = r.file in
      let positive : 0 < chunk_length = omega arith in
      let le : p.index ≤ length (held r) / chunk_length = omega (arith, at.index) in
      let within : p.index * chunk_length ≤ length (held r) = (le-div_iff_mul-le positive).0 le in
      let here = segment 0 r.bytes r.ended in
      let below : p.index ≤ (run_outcome r).index = omega (arith, at.index) in
      let prefix : IsPrefixOf (held r) (released (unbox f.key f.nonce) chunk_length here) = rw from.none_copied (rw from.zero at is.prefix) in (
        held r,
        record {
          file = f;
          own = at.own;
          carries = (within, at.chain_is);
          rest = r.bytes;
          read = subst (λ (t : List ℕ). Reads Allows old.source.supply new.source.supply f (t ++ r.bytes)) from.none_skipped is.reads;
          blocks = λ whole begins has few. begins_payload (box f.key f.nonce) (unbox f.key f.nonce) (box_valid (payload_key f.key f.nonce))
              chunk_length r.bytes r.ended p.index (held r) whole (rw from.zero at below) within prefix begins has;
        },
        (is.wrote, is.count),
      )

  pub stopped_gave : (result : Result Done Stopped) (run : Option Run) → DecryptAnswers keep Allows (from_start Allows Refused) old new run result
      → IfErr result (λ stopped. IfSome stopped.position (GivesFront stopped))
  stopped_gave (Ok done) run d = tt
  stopped_gave (Err stopped) None d = none_carries (GivesFront stopped) stopped.position d.0.position
  stopped_gave (Err stopped) (Some r) d = given_carries keep (IsPositionOf r) (GivesFront stopped) stopped.position d.1.here
      (λ p at. gave_front stopped r p d.0 d.1.is at)

-- what was skipped and the rest are the whole payload
both_are_file : (Allows : Header → List ℕ → Type 0) (p : Position) (old new : Supply) (text : List ℕ) (gave : GaveRest Allows p old new text)
    → gave.skipped ≡ take (p.index * block_length) (payload (box gave.file.key gave.file.nonce) chunk_length text) → GaveFile Allows old new text
both_are_file Allows p old new text g same = grind (arith, common_steps, size, take-append-drop)

pub rest_is_file : (Mine Other : Header → List ℕ → Type 0) (p : Position) (was became old new : Supply)
    (before text : List ℕ) (front : GaveFront Mine p was became before) (rest : GaveRest Other p old new text) → rest.file ≡ front.file
    → IsPrefixOf rest.skipped front.rest → IsPrefixOf (take (p.index * chunk_length) before) text → GaveFile Other old new text
rest_is_file Mine Other p was became old new before text front rest same skipped begins =
    let all : OpenedFile → List ℕ = λ f. payload (box f.key f.nonce) chunk_length text in
    let f = rest.file in
    let at = p.index * block_length in
    let blocks : IsPrefixOf (take at (all f)) front.rest = subst (λ (g : OpenedFile). IsPrefixOf (take at (all g)) front.rest) (sym same)
    (front.blocks text begins rest.below rest.few) in
    let long : length (all f) ≡ length text + chunk_count chunk_length text * tag_length =
    (payload_is_longer (box f.key f.nonce) (unbox f.key f.nonce) (box_valid (payload_key f.key f.nonce)) chunk_length text).0 in
    let size : length (take at (all f)) ≡ at = length-take-le at (all f) (omega (arith, long, ap length begins.1, rest.below)) in
    both_are_file Other p old new text rest (same_front rest.skipped (take at (all f)) skipped.0 blocks.0 (rest.size ∙ sym size) (skipped.1 ∙ sym blocks.1)).0
