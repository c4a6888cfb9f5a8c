-- What a segment releases, if what opens is the writer's; and that the writer's own payload, from any chunk on, opens to the end.
use Rattle.std.proofs.lemmas.Grind.{common_steps}
use Rattle.std.proofs.Common.{take-add, inl, inr, ◌≡◌, ℕ, suc, ◌<◌, ◌≤◌, ◌+◌, ◌*◌, ◌-◌, ◌/◌, ◌^◌, refl, ap, sym, subst, ◌∙◌, List, [], ◌∷◌, ◌++◌, length, take}
use Rattle.std.proofs.Common.{drop, get_or, Bool, true, false, arith, rules, zero}
use Rattle.std.specs.Prelude.{Option, Some, None, IsSome, Contains, ◌==◌, nat_lt, cond, not, ◌&&◌, map}
use Rattle.std.specs.List.{flat_map, enumerate_from, AllByRecursion}
use Rattle.std.specs.Simd.{first_chunks}
use Rattle.std.proofs.lemmas.List.{append_assoc, append-nil, take_all, take-append-drop, length-append, length-drop, length-take, drop_at, drop-drop}
use Rattle.std.proofs.lemmas.List.{get_or_append_left, get_or-drop}
use Rattle.std.proofs.lemmas.Bool.{cond_both, ltb-true, cases_lt, eq-eqb, ne_eqb, lt-ltb, le-ltb, eqb-true, and_right, and_parts, both_ways, eqb-false}
use Rattle.std.proofs.Math.Nat.{le-div_iff_mul-le, mul-le-mul_right}
use Rattle.std.proofs.lemmas.Nat.{mul-le}
use Rattle.std.specs.Str.{bytes_eq}
use Rattle.std.proofs.lemmas.Slice.Eq.{bytes_eq-Decides}
use Rattle.std.proofs.lemmas.Map.Made.{Contains-tail}
use Rattle.age_chunk.specs.{IsChunkBox, tag_length, Seals, OpensBlock, nonce_bytes, chunk_limit, chunk_count, last_index, last_chunk, pair, sealed, block_bytes}
use Rattle.age_chunk.specs.{payload, chunks}
use Rattle.age_chunk.specs.declared.fault.StreamKind.TheVariants.{ChunkDamaged, TooManyChunks, Trailing}
use Rattle.age_chunk.specs.declared.fault.StreamKind.{StreamKind}
use Rattle.age_chunk.proofs.{nonce_bytes-length, nonce_bytes-number, nonce_bytes-flag, get_or-first_chunks, length-first_chunks}
use Rattle.age_stream.specs.Segment.{Segment}
use Rattle.age_stream.specs.{Outcome, outcome, unless_greatest, leading_plaintexts, whole_blocks, failed, with_piece, stop, Status, Open, Done, IsWriters, IsAuthentic}
use Rattle.age_stream.specs.{IsPrefixOf, Frontier, verdict, block_at, text_then, text_before_last, released, Failed, sealed_as, compared, IsFirstWrong}
use Rattle.age_stream.specs.{IsInPlace, IsRest, IsRight, ReleasesWritten, HasUnambiguousEnd}
use Rattle.age_stream.proofs.ChunkLemmas.{last_chunk_le, length-sealed, pair_before, pair_last, last_index_le, all_full}
use Rattle.age_stream.proofs.TableLemmas.{block_full, block_is, by_lines, front_is, outcome_is, texts_fit, ended_waits, frontier, length-whole_blocks}
use Rattle.age_stream.proofs.TableLemmas.{line_last, by_both, last_status, whole_within, opens_before}
use Rattle.age_stream.proofs.GoingLemmas.{block_on, front_on, full_bytes, short_bytes}

-- a beginning of a beginning
pub prefix_trans : (x y z : List ℕ) → IsPrefixOf x y → IsPrefixOf y z → IsPrefixOf x z
prefix_trans x y z p q = (p.0 ++ q.0, sym (append_assoc x p.0 q.0) ∙ (ap (λ (t : List ℕ). t ++ q.0) p.1 ∙ q.1))

-- a pair of the writer's, by its number
pub record IsPair (sealing : Seals) (n : ℕ) (text : List ℕ) (nonce block : List ℕ) : Type 0 where
  pub at : ℕ
  pub below : at < chunk_count n text
  pub nonce_is : nonce ≡ nonce_bytes at (at + 1 == chunk_count n text)
  pub block_is : block ≡ sealing nonce (take n (drop (at * n) text))

pair_at : (sealing : Seals) (n : ℕ) (text nonce block : List ℕ) (last : Bool) (i : ℕ) (x : List ℕ) → (nonce, block)
    ≡ pair sealing last (i, x)
    → i < chunk_count n text → last ≡ (i + 1 == chunk_count n text) → x ≡ take n (drop (i * n) text) → IsPair sealing n text nonce block
pair_at sealing n text nonce block last i x e below flag is = grind (arith, common_steps)

pub IsPair-from_Contains : (sealing : Seals) (n : ℕ) (text nonce block : List ℕ) → 0 < n → Contains (sealed sealing n text) (nonce, block)
    → IsPair sealing n text nonce block
IsPair-from_Contains sealing n text nonce block positive h =
    let q = last_index n text in
    let x = get_or (first_chunks n q text) h.0 [] in
    let total = length-sealed sealing n text in
    elim (cases_lt h.0 q) [
      | inl lt ↦ pair_at sealing n text nonce block false h.0 x (sym h.2 ∙ pair_before sealing n text h.0 (nonce, block) lt) (omega (arith, lt))
          (sym (ne_eqb (h.0 + 1) (q + 1) (λ e. omega (arith, lt, e)))) (get_or-first_chunks n q text h.0 [] lt)
      | inr le ↦ pair_at sealing n text nonce block true q (last_chunk n text)
          (sym h.2 ∙ pair_last sealing n text h.0 (nonce, block) (omega (arith, le, h.1, total))) (omega arith)
          (sym (eq-eqb (q + 1) (q + 1) refl)) (sym (take_all n (last_chunk n text) (last_chunk_le n text positive)))
    ]

-- x is the chunk at i, and last says whether no other follows
pub record IsChunk (n : ℕ) (text : List ℕ) (i : ℕ) (last : Bool) (x : List ℕ) : Type 0 where
  pub below : i < chunk_count n text
  pub flag : last ≡ (i + 1 == chunk_count n text)
  pub is : x ≡ take n (drop (i * n) text)

-- a piece leaves the start
pub piece_start : (s : Segment) (p : List ℕ) → (with_piece s p).start ≡ s.start
piece_start s p = cond_both s.ended _ _ (λ (t : Segment). t.start ≡ s.start) (λ _. refl) (λ _. refl)

-- each pair is the sealing of its chunk
abbrev AreSealed : (List ℕ → List ℕ → List ℕ) → List (List ℕ × List ℕ) → List (List ℕ) → Type 0
AreSealed sealing [] chunks = Unit {0}
AreSealed sealing (pair ∷ pairs) [] = ⊥
AreSealed sealing (pair ∷ pairs) (chunk ∷ chunks) =
    (pair.1 ≡ sealing pair.0 chunk) × ((length pair.0 ≡ 12) × AreSealed sealing pairs chunks)

seals_from : (sealing : Seals) (q i : ℕ) (last : List ℕ) (cs : List (List ℕ))
    → AreSealed sealing (map (pair sealing false) (enumerate_from i cs) ++ pair sealing true (q, last) ∷ []) (cs ++ last ∷ [])
seals_from sealing q i last [] = (refl, (nonce_bytes-length q true, tt))
seals_from sealing q i last (c ∷ cs) = (refl, (nonce_bytes-length i false, seals_from sealing q (i + 1) last cs))

none_if : (o : Option (List ℕ)) → (IsSome o → ⊥) → o ≡ None
none_if o h = grind (arith, common_steps)

differs : (p : List ℕ × List ℕ) (nonce block : List ℕ) → (bytes_eq p.0 nonce && bytes_eq p.1 block) ≡ false → p ≡ (nonce, block) → ⊥
differs p nonce block isnt e = grind (arith, common_steps, both_ways, bytes_eq-Decides)

-- if what opens is among the pairs, comparing with these gives the same
found : (sealing : Seals) (opening : OpensBlock) → IsChunkBox sealing opening → (pairs : List (List ℕ × List ℕ)) (chunks : List (List ℕ)) (nonce block : List ℕ)
    → AreSealed sealing pairs chunks → (IsSome (opening nonce block) → Contains pairs (nonce, block)) → opening nonce block ≡ sealed_as pairs chunks nonce block
found sealing opening valid [] chunks nonce block h some = none_if (opening nonce block) (λ o. let at = some o in absurd (omega (arith, at.1)))
found sealing opening valid (p ∷ pairs) [] nonce block h some = absurd h
found sealing opening valid (p ∷ pairs) (chunk ∷ chunks) nonce block h some =
    cond_both (bytes_eq p.0 nonce && bytes_eq p.1 block) _ _ (λ (o : Option (List ℕ)). opening nonce block ≡ o)
    (λ is.
    let t = and_parts (bytes_eq p.0 nonce) (bytes_eq p.1 block) is in
    let first : p.0 ≡ nonce = (bytes_eq-Decides p.0 nonce).0 t.0 in
    let second : p.1 ≡ block = (bytes_eq-Decides p.1 block).0 t.1 in
    sym (ap (λ (x : List ℕ). opening x p.1) first ∙ ap (opening nonce) second) ∙ (ap (opening p.0) h.0 ∙ valid.opens p.0 chunk h.1.0))
    (λ isnt. found sealing opening valid pairs chunks nonce block h.1.1 (λ o. Contains-tail p pairs (nonce, block) (differs p nonce block isnt) (some o)))

abbrev kind_of : Status → StreamKind → StreamKind
kind_of (Failed f) none = f.kind
kind_of other none = none

abbrev place_of : Status → ℕ
place_of (Failed f) = f.chunk
place_of other = 0

kinds : (a b : StreamKind) (i j : ℕ) → failed a i ≡ failed b j → a ≡ b
kinds a b i j e = ap (λ (s : Status). kind_of s a) e

places : (a b : StreamKind) (i j : ℕ) → failed a i ≡ failed b j → i ≡ j
places a b i j e = ap place_of e

last_fault : (followed ended : Bool) (kind : StreamKind) (i j : ℕ) → (kind ≡ Trailing → ⊥) → last_status followed ended i ≡ failed kind j → ⊥
last_fault followed ended kind i j h1 h2 = grind (arith, common_steps)

-- ---- What it releases.

module _ (sealing : Seals) (opening : OpensBlock) (valid : IsChunkBox sealing opening)
    (n : ℕ) (text : List ℕ) (few : chunk_count n text ≤ chunk_limit) (positive : 0 < n) where
  pub writer_text : (i : ℕ) (last : Bool) (block x : List ℕ) → i < chunk_limit → opening (nonce_bytes i last) block ≡ Some x
      → IsWriters sealing opening n text (nonce_bytes i last) block → IsChunk n text i last x
  writer_text i last block x small e w =
      let some : IsSome (opening (nonce_bytes i last) block) = rw e (search rules) in
      let p = IsPair-from_Contains sealing n text (nonce_bytes i last) block positive (w some) in
      let y = take n (drop (p.at * n) text) in
      let l1 : i < 2 ^ 64 = omega arith in
      let l2 : p.at < 2 ^ 64 = omega (arith, p.below) in
      let same : i ≡ p.at = nonce_bytes-number i p.at last (p.at + 1 == chunk_count n text) l1 l2 p.nonce_is in
      let flag : last ≡ (p.at + 1 == chunk_count n text) = nonce_bytes-flag i p.at last (p.at + 1 == chunk_count n text) p.nonce_is in
      let o : opening (nonce_bytes i last) (sealing (nonce_bytes i last) y) ≡ Some y = valid.opens (nonce_bytes i last) y (nonce_bytes-length i last) in
      let o2 : opening (nonce_bytes i last) block ≡ Some y = ap (opening (nonce_bytes i last)) p.block_is ∙ o in
      let o3 : Some x ≡ Some y = sym e ∙ o2 in
      let o4 : x ≡ y = cc in
      record {
        below = omega (arith, same, p.below);
        flag = flag ∙ ap (λ (k : ℕ). k + 1 == chunk_count n text) (sym same);
        is = o4 ∙ ap (λ (k : ℕ). take n (drop (k * n) text)) (sym same);
      }

  -- what the blocks in front release carries the text on
  pub record Carries (i : ℕ) (texts : List (List ℕ)) : Type 0 where
    pub joins : take (i * n) text ++ flat_map (λ (t : List ℕ). t) texts ≡ take ((i + length texts) * n) text
    pub small : i < chunk_limit → i + length texts < chunk_limit

  pub next_within : (i : ℕ) → i < chunk_count n text → false ≡ (i + 1 == chunk_count n text) → (i + 1) * n ≤ length text
  next_within i below flag = grind (arith, common_steps)

  take_chunk : (i : ℕ) → take (i * n) text ++ take n (drop (i * n) text) ≡ take ((i + 1) * n) text
  take_chunk i = grind (arith, common_steps, take-add)

  step : (i : ℕ) (x : List ℕ) (rest : List (List ℕ)) → IsChunk n text i false x → i + 1 < chunk_limit → Carries (i + 1) rest → Carries i (x ∷ rest)
  step i x rest c lt more =
      let e : i + suc (length rest) ≡ i + 1 + length rest = omega arith in
      record {
        joins = ap (λ (t : List ℕ). take (i * n) text ++ (t ++ flat_map (λ (t : List ℕ). t) rest)) c.is
            ∙ (sym (append_assoc (take (i * n) text) (take n (drop (i * n) text)) (flat_map (λ (t : List ℕ). t) rest))
            ∙ (ap (λ (t : List ℕ). t ++ flat_map (λ (t : List ℕ). t) rest) (take_chunk i)
            ∙ (more.joins ∙ ap (λ (k : ℕ). take (k * n) text) (sym e))));
        small = λ h. rw e (more.small lt);
      }

  none : (i : ℕ) → Carries i []
  none i = grind (arith, common_steps)

  carries : (texts : List (List ℕ)) (i : ℕ)
      → ((j : ℕ) → j < length texts → IsChunk n text (i + j) false (get_or texts j []) × (i + j + 1 < chunk_limit)) → Carries i texts
  carries [] i f = none i
  carries (x ∷ rest) i f =
      let z : i + 0 ≡ i = omega arith in
      let first = f 0 (omega arith) in
      let c = subst (λ (k : ℕ). IsChunk n text k false x) z first.0 in
      step i x rest c (omega (arith, first.1)) (carries rest (i + 1)
      (λ j lt. let s : i + suc j ≡ i + 1 + j = omega arith in
      subst (λ (k : ℕ). IsChunk n text k false (get_or rest j []) × (k + 1 < chunk_limit)) s (f (suc j) (omega (arith, lt)))))

  pub front_carries : (blocks : List (List ℕ)) (i : ℕ)
      → ((j : ℕ) → j < length (leading_plaintexts opening i blocks) → IsWriters sealing opening n text (nonce_bytes (i + j) false) (get_or blocks j []))
      → Carries i (leading_plaintexts opening i blocks)
  front_carries blocks i w =
      let texts = leading_plaintexts opening i blocks in
      carries texts i (λ j lt.
      let p = opens_before (i + j) _ _ ((front_is opening blocks i).opens j lt) in
      let low : i + j + 1 < chunk_limit = ltb-true (i + j + 1) chunk_limit p.0 in
      (writer_text (i + j) false (get_or blocks j []) (get_or texts j []) (omega (arith, low)) p.1 (w j lt), low))

  first_within : (i : ℕ) → i < chunk_count n text → i * n ≤ length text
  first_within i below = let m : i * n ≤ length text - 1 = (le-div_iff_mul-le positive).0 (omega (arith, below)) in omega (arith, m)

  -- o's text carries the text on, and Done says that all of it came, after a chunk that begins in it
  pub record IsReleased (i : ℕ) (start : List ℕ) (o : Outcome) : Type 0 where
    pub prefix : IsPrefixOf (start ++ flat_map (λ (t : List ℕ). t) o.texts) text
    pub done : o.status ≡ Done → start ++ flat_map (λ (t : List ℕ). t) o.texts ≡ text
    pub within : o.status ≡ Done → i * n ≤ length text

  at_carried : (i : ℕ) (start : List ℕ) (texts : List (List ℕ)) (status : Status) → start ++ flat_map (λ (t : List ℕ). t) texts ≡ take (i * n) text
      → (status ≡ Done → ⊥) → IsReleased i start (record { texts = texts; index = i; status = status })
  at_carried i start texts status e ne = record {
    prefix = (drop (i * n) text, ap (λ (t : List ℕ). t ++ drop (i * n) text) e ∙ take-append-drop (i * n) text);
    done = λ d. absurd (ne d);
    within = λ d. absurd (ne d);
  }

  whole : (i : ℕ) (start : List ℕ) (texts : List (List ℕ)) (x : List ℕ) → start ++ flat_map (λ (t : List ℕ). t) texts ≡ take (i * n) text
      → IsChunk n text i true x → start ++ flat_map (λ (t : List ℕ). t) (texts ++ x ∷ []) ≡ text
  whole i start texts x e c = grind (arith, common_steps)

  -- each block in front is the writer's
  pub front_written : (s : Segment) → IsAuthentic sealing opening n text s → (j : ℕ) → j < length (leading_plaintexts opening s.start (whole_blocks n s.bytes))
      → IsWriters sealing opening n text (nonce_bytes (s.start + j) false) (get_or (whole_blocks n s.bytes) j [])
  front_written s given j lt = grind (arith, common_steps, block_full, block_is, texts_fit)

  pub released_segment : (s : Segment) (base : List ℕ) → s.start < chunk_limit → base ≡ take (s.start * n) text
      → IsAuthentic sealing opening n text s → IsReleased (s.start + length (leading_plaintexts opening s.start (whole_blocks n s.bytes))) base (outcome opening n s)
  released_segment s base small e given =
      let b = stop opening n s in
      let i = b.index in
      let c : Carries s.start b.texts = front_carries (whole_blocks n s.bytes) s.start (front_written s given) in
      let here : base ++ flat_map (λ (t : List ℕ). t) b.texts ≡ take (i * n) text = ap (λ (t : List ℕ). t ++ flat_map (λ (t : List ℕ). t) b.texts) e ∙ c.joins in
      let P : Outcome → Type 0 = IsReleased i base in
      subst P (sym (outcome_is opening n s))
      (by_lines opening P b (λ _. at_carried i base b.texts Open here (λ d. cc)) (λ kind _ _. at_carried i base b.texts (failed kind i) here (λ d. cc))
      (λ _ _ _. at_carried i base b.texts (failed TooManyChunks i) here (λ d. cc)) (λ _ _ _. at_carried i base b.texts (failed ChunkDamaged i) here (λ d. cc))
      (λ x tried is.
      let chunk = writer_text i true b.block x (c.small small) is (given.last tried) in
      let all = whole i base b.texts x here chunk in
      record {
        prefix = ([], append-nil (base ++ flat_map (λ (t : List ℕ). t) (b.texts ++ x ∷ [])) ∙ all);
        done = λ d. all;
        within = λ d. first_within i chunk.below;
      }))

  -- ---- Each block in its place.

  abbrev other : List ℕ → List ℕ → Option (List ℕ)
  other = compared sealing n text

  abbrev Same : List ℕ → List ℕ → Type 0
  Same nonce block = opening nonce block ≡ other nonce block

  abbrev Sealed : ℕ → Bool → List ℕ → Type 0
  Sealed i last block = Contains (sealed sealing n text) (nonce_bytes i last, block)

  -- a block that the writer sealed opens to its chunk; others open to nothing
  same : (nonce block : List ℕ) → IsWriters sealing opening n text nonce block → Same nonce block
  same nonce block w = grind (arith, common_steps, found, seals_from)

  -- what doesn't open is none of the writer's
  unsealed : (i : ℕ) (last : Bool) (block : List ℕ) → opening (nonce_bytes i last) block ≡ None → Sealed i last block → ⊥
  unsealed i last block none found =
      let p = IsPair-from_Contains sealing n text (nonce_bytes i last) block positive found in
      let chunk = take n (drop (p.at * n) text) in
      let opens = ap (opening (nonce_bytes i last)) p.block_is ∙ valid.opens (nonce_bytes i last) chunk (nonce_bytes-length i last) in
      let no : None ≡ Some chunk = sym none ∙ opens in
      cc

  -- a block of fewer bytes is none before the last
  unsealed_short : (i : ℕ) (block : List ℕ) → length block < n + tag_length → Sealed i false block → ⊥
  unsealed_short i block short found =
      let p = IsPair-from_Contains sealing n text (nonce_bytes i false) block positive found in
      let flag : false ≡ (p.at + 1 == chunk_count n text) = nonce_bytes-flag i p.at false (p.at + 1 == chunk_count n text) p.nonce_is in
      let fits : (p.at + 1) * n ≤ length text = next_within p.at p.below flag in
      let x = take n (drop (p.at * n) text) in
      let m : (p.at + 1) * n ≡ p.at * n + n = omega arith in
      let len : length x ≡ n = omega (arith, length-take n (drop (p.at * n) text), length-drop (p.at * n) text, fits, m) in
      omega (arith, short, ap length p.block_is, valid.longer (nonce_bytes i false) x (nonce_bytes-length i false), len)

  -- the blocks in front are the same
  front_step : (block : List ℕ) (blocks : List (List ℕ)) (i : ℕ) (o : Option (List ℕ)) → text_before_last opening i block ≡ o
      → ((j : ℕ) → j < suc (length blocks) → j ≤ length (text_then opening o (leading_plaintexts opening (i + 1) blocks))
      → Same (nonce_bytes (i + j) false) (get_or (block ∷ blocks) j []))
      → (((j : ℕ) → j < length blocks → j ≤ length (leading_plaintexts opening (i + 1) blocks) → Same (nonce_bytes (i + 1 + j) false) (get_or blocks j []))
      → leading_plaintexts opening (i + 1) blocks ≡ leading_plaintexts other (i + 1) blocks)
      → text_then opening o (leading_plaintexts opening (i + 1) blocks) ≡ text_then other o (leading_plaintexts other (i + 1) blocks)
  front_step block blocks i None e f more = refl
  front_step block blocks i (Some x) e f more =
      ap (λ (ts : List (List ℕ)). x ∷ ts)
      (more (λ j l m. let s : i + suc j ≡ i + 1 + j = omega arith in subst (λ (k : ℕ). Same (nonce_bytes k false) (get_or blocks j [])) s
      (f (suc j) (omega arith) (omega arith))))

  front_same : (blocks : List (List ℕ)) (i : ℕ)
      → ((j : ℕ) → j < length blocks → j ≤ length (leading_plaintexts opening i blocks) → Same (nonce_bytes (i + j) false) (get_or blocks j []))
      → leading_plaintexts opening i blocks ≡ leading_plaintexts other i blocks
  front_same [] i f = refl
  front_same (block ∷ blocks) i f =
      let z : i + 0 ≡ i = omega arith in
      let here : Same (nonce_bytes i false) block = subst (λ (k : ℕ). Same (nonce_bytes k false) block) z (f 0 (omega arith) (omega arith)) in
      front_step block blocks i (text_before_last opening i block) refl f (λ f'. front_same blocks (i + 1) f')
      ∙ ap (λ (o : Option (List ℕ)). text_then other (unless_greatest i o) (leading_plaintexts other (i + 1) blocks)) here

  module _ (s : Segment) (given : IsAuthentic sealing opening n text s) where
    abbrev here : Frontier
    here = stop opening n s

    abbrev blocks : List (List ℕ)
    blocks = whole_blocks n s.bytes

    abbrev m : ℕ
    m = length here.texts

    not_last : here.whole ≡ true → IsWriters sealing opening n text (nonce_bytes here.index false) here.block
    not_last whole = given.not_last m (omega arith) (eqb-true (length here.block) (n + tag_length) whole)

    compares : outcome opening n s ≡ outcome other n s
    compares =
        let front : here.texts ≡ leading_plaintexts other s.start blocks = front_same blocks s.start
        (λ j l le. let lt : j < length s.bytes / (n + tag_length) = omega (arith, l, length-whole_blocks n s) in
        subst (Same (nonce_bytes (s.start + j) false)) (block_is n s j lt)
        (same (nonce_bytes (s.start + j) false) (block_at n s.bytes j) (given.not_last j le (block_full n s j lt)))) in
        outcome_is opening n s
        ∙ (by_both opening other here here.texts here.followed here.ended (λ x y. x ≡ y) refl (λ _. refl) (λ _ _ _. refl) (λ _ _ _. refl)
        (λ whole. same (nonce_bytes here.index false) here.block (not_last whole))
        (λ tried. same (nonce_bytes here.index true) here.block (given.last tried)) (λ _ _ _. refl) (λ _ _ _. refl)
        ∙ (ap (λ (ts : List (List ℕ)). verdict other (frontier n s ts)) front ∙ sym (outcome_is other n s)))

    first_wrong : ((last : Bool) → Sealed here.index last here.block → ⊥) → IsFirstWrong sealing n text s here.index
    first_wrong none =
        let at : m ≡ here.index - s.start = omega arith in
        record {
          before = λ j lt.
              let front : j < m = omega (arith, lt) in
              let is : block_at n s.bytes j ≡ get_or blocks j [] = block_is n s j (omega (arith, front, texts_fit opening n s)) in
              let opens = (opens_before (s.start + j) _ _ ((front_is opening blocks s.start).opens j front)).1 in
              let some : IsSome (opening (nonce_bytes (s.start + j) false) (get_or blocks j [])) = rw opens (search rules) in
              subst (λ (x : List ℕ). Contains (sealed sealing n text) (nonce_bytes (s.start + j) false, x)) (sym is)
              (front_written s given j front some);
          there = λ last found. none last (subst (λ (k : ℕ). Sealed here.index last (block_at n s.bytes k)) (sym at) found);
        }

    -- it stands at a chunk that a payload may have
    low : s.start < chunk_limit → here.index < chunk_limit
    low limit =
        (front_carries blocks s.start (front_written s given)).small limit

    -- the block at which it stands doesn't open as one before the last
    not_before : here.index < chunk_limit → (x : List ℕ) → here.whole ≡ true → opening (nonce_bytes here.index false) here.block ≡ Some x → ⊥
    not_before low x whole e =
        let lt : m < length s.bytes / (n + tag_length) = whole_within n s m (texts_fit opening n s) whole in
        let c = writer_text here.index false here.block x low e (not_last whole) in
        let below = c.below in
        let flag = c.flag in
        let more : here.index + 1 < chunk_count n text = grind arith in
        let t : nat_lt (here.index + 1) chunk_limit ≡ true = lt-ltb (here.index + 1) chunk_limit (omega (arith, more, few)) in
        let is : text_before_last opening here.index here.block ≡ Some x = ap (unless_greatest here.index) e ∙ ap (λ (y : Bool). cond y (Some x) None) t in
        let stops = (front_is opening blocks s.start).stops (omega (arith, lt, length-whole_blocks n s)) in
        let no : None ≡ Some x = sym stops ∙ (ap (text_before_last opening here.index) (sym (block_is n s m lt)) ∙ is) in
        cc

    -- one that opens neither as that nor as the last is none of the writer's
    unsealed_here : (whole : Bool) → here.whole ≡ whole → (here.whole ≡ true → opening (nonce_bytes here.index false) here.block ≡ None)
        → opening (nonce_bytes here.index true) here.block ≡ None → (last : Bool) → Sealed here.index last here.block → ⊥
    unsealed_here whole is before none true = unsealed here.index true here.block none
    unsealed_here true is before none false = unsealed here.index false here.block (before is)
    unsealed_here false is before none false =
        let size = n + tag_length in
        let most = length-take size (drop (m * size) s.bytes) in
        let part : length here.block ≡ size → ⊥ = eqb-false (length here.block) size is in
        unsealed_short here.index here.block (elim (cases_lt (length here.block) size) [
          | inl lt ↦ lt
          | inr ge ↦ absurd (part (omega (arith, ge, most)))
        ])

    -- what an outcome's status may say
    abbrev MaySay : Outcome → Type 0
    MaySay o = ((i : ℕ) → o.status ≡ failed ChunkDamaged i → IsFirstWrong sealing n text s i) × ((i : ℕ) → o.status ≡ failed TooManyChunks i → ⊥)

    in_place : s.start < chunk_limit → IsInPlace sealing opening n text s (outcome opening n s).status
    in_place limit =
        let right : MaySay (outcome opening n s) = subst MaySay (sym (outcome_is opening n s)) (by_lines opening MaySay here (λ _. (λ i e. cc, λ i e. cc))
        (λ kind a b. (λ i e. absurd (a (kinds kind ChunkDamaged here.index i e)), λ i e. b (kinds kind TooManyChunks here.index i e)))
        (λ x whole is. absurd (not_before (low limit) x whole is))
        (λ _ before none. (
          λ i e. subst (IsFirstWrong sealing n text s) (places ChunkDamaged ChunkDamaged here.index i e)
              (first_wrong (unsealed_here here.whole refl before none)),
          λ i e. let k = kinds ChunkDamaged TooManyChunks here.index i e in cc,
        ))
        (λ x _ _. (
          λ i e. absurd (last_fault here.followed here.ended ChunkDamaged here.index i (λ k. cc) e),
          λ i e. last_fault here.followed here.ended TooManyChunks here.index i (λ k. cc) e,
        ))) in
        record { compares = compares; damaged = right.0; few = right.1 }

    -- after the text before its start
    pub right_after : (Undamaged : Type 0) (base : List ℕ) → s.start < chunk_limit → base ≡ take (s.start * n) text
        → (Undamaged → (outcome opening n s).status ≡ Done)
        → IsRight sealing opening n text Undamaged s (base ++ released opening n s) (outcome opening n s).status
    right_after Undamaged base limit is done =
        let r = released_segment s base limit is given in
        record {
          prefix = r.prefix;
          done = r.done;
          within = λ d. let least : s.start * n ≤ here.index * n = mul-le-mul_right n (omega arith) in omega (arith, least, r.within d);
          whole = λ u. (r.done (done u), done u);
          place = in_place limit;
        }

-- ---- The payload from a chunk on.

all_drop : (n k : ℕ) (xs : List (List ℕ)) → AllByRecursion (λ (x : List ℕ). length x ≡ n) xs → AllByRecursion (λ (x : List ℕ). length x ≡ n) (drop k xs)
all_drop n k xs h = grind (arith, common_steps)

none_is : (o : Option (List ℕ)) → o ≡ None → IsSome o → ⊥
none_is o h1 h2 = grind (arith, common_steps)

module _ (sealing : Seals) (opening : OpensBlock) (valid : IsChunkBox sealing opening) (n : ℕ) where
  -- the blocks of these chunks, none of them the last
  abbrev blocks_of : ℕ → List (List ℕ) → List (List ℕ)
  blocks_of i [] = []
  blocks_of i (d ∷ ds) = sealing (nonce_bytes i false) d ∷ blocks_of (i + 1) ds

  abbrev pub bytes_of : ℕ → List (List ℕ) → List ℕ
  bytes_of i ds = block_bytes (map (pair sealing false) (enumerate_from i ds))

  abbrev Full : List (List ℕ) → Type 0
  Full ds = AllByRecursion (λ (x : List ℕ). length x ≡ n) ds

  block_len : (i : ℕ) (last : Bool) (d : List ℕ) → length (sealing (nonce_bytes i last) d) ≡ length d + tag_length
  block_len i last d = valid.longer (nonce_bytes i last) d (nonce_bytes-length i last)

  full_len : (i : ℕ) (d : List ℕ) → length d ≡ n → length (sealing (nonce_bytes i false) d) ≡ n + tag_length
  full_len i d h = block_len i false d ∙ ap (λ (k : ℕ). k + tag_length) h

  length-blocks_of : (i : ℕ) (ds : List (List ℕ)) → length (blocks_of i ds) ≡ length ds
  length-blocks_of i [] = refl
  length-blocks_of i (d ∷ ds) = ap (λ (k : ℕ). suc k) (length-blocks_of (i + 1) ds)

  get_or-blocks_of : (i : ℕ) (ds : List (List ℕ)) (j : ℕ) → j < length ds → get_or (blocks_of i ds) j [] ≡ sealing (nonce_bytes (i + j) false) (get_or ds j [])
  get_or-blocks_of i [] j h = grind (arith, common_steps)
  get_or-blocks_of i (d ∷ ds) zero h = grind (arith, common_steps)
  get_or-blocks_of i (d ∷ ds) (suc j) h = grind (arith, common_steps, get_or-blocks_of (i + 1) ds j (omega arith))

  pub length-bytes_of : (i : ℕ) (ds : List (List ℕ)) → Full ds → length (bytes_of i ds) ≡ (n + tag_length) * length ds
  length-bytes_of i [] h = grind (arith, common_steps, full_len, length-append)
  length-bytes_of i (d ∷ ds) h = grind (arith, common_steps, full_len, length-append, length-bytes_of (i + 1) ds h.1)

  -- the whole blocks of these chunks' blocks with more after them
  whole_of : (i : ℕ) (ds : List (List ℕ)) (l : List ℕ) → Full ds → whole_blocks n (bytes_of i ds ++ l) ≡ blocks_of i ds ++ whole_blocks n l
  whole_of i [] l h = refl
  whole_of i (d ∷ ds) l h = grind (arith, common_steps, append_assoc, block_on, full_len, whole_of (i + 1) ds l h.1)

  front_opens : (i : ℕ) (ds : List (List ℕ)) → i + length ds < chunk_limit → leading_plaintexts opening i (blocks_of i ds) ≡ ds
  front_opens i [] h = refl
  front_opens i (d ∷ ds) h = grind (arith, common_steps, lt-ltb, front_opens (i + 1) ds (omega (arith, h)))

  -- the payload from a block on
  drop_of : (i k : ℕ) (ds : List (List ℕ)) (l : List ℕ) → Full ds → k ≤ length ds → drop (k * (n + tag_length)) (bytes_of i ds ++ l) ≡ bytes_of (i + k) (drop k ds) ++ l
  drop_of i zero ds l h le =
      let z : 0 * (n + tag_length) ≡ 0 = omega arith in
      let e : i ≡ i + 0 = omega arith in
      ap (λ (k : ℕ). drop k (bytes_of i ds ++ l)) z ∙ ap (λ (k : ℕ). bytes_of k ds ++ l) e
  drop_of i (suc k) [] l h le = absurd (omega arith)
  drop_of i (suc k) (d ∷ ds) l h le =
      let z = n + tag_length in
      let b = sealing (nonce_bytes i false) d in
      let s : suc k * z ≡ z + k * z = omega arith in
      let rest = bytes_of (i + 1) ds ++ l in
      let e : i + 1 + k ≡ i + suc k = omega arith in
      ap (λ (j : ℕ). drop j ((b ++ bytes_of (i + 1) ds) ++ l)) s
      ∙ (ap (λ (xs : List ℕ). drop (z + k * z) xs) (append_assoc b (bytes_of (i + 1) ds) l)
      ∙ (sym (drop-drop (k * z) z (b ++ rest))
      ∙ (ap (drop (k * z)) (drop_at b rest z (full_len i d h.0))
      ∙ (drop_of (i + 1) k ds l h.1 (omega arith) ∙ ap (λ (j : ℕ). bytes_of j (drop k ds) ++ l) e))))

  -- a payload is the blocks of all chunks but the last, and the last one's
  pub payload_is : (text : List ℕ) → payload sealing n text
      ≡ bytes_of 0 (first_chunks n (last_index n text) text) ++ sealing (nonce_bytes (last_index n text) true) (last_chunk n text)
  payload_is text = grind (arith, common_steps)

  module _ (positive : 0 < n) (text : List ℕ) (few : chunk_count n text ≤ chunk_limit) (k : ℕ) (below : k < chunk_count n text) where
    abbrev pub q : ℕ
    q = last_index n text

    abbrev pub cs : List (List ℕ)
    cs = first_chunks n q text

    abbrev pub ds : List (List ℕ)
    ds = drop k cs

    abbrev pub tail : List ℕ
    tail = sealing (nonce_bytes q true) (last_chunk n text)

    abbrev pub bytes : List ℕ
    bytes = bytes_of k ds ++ tail

    -- the last blocks from k on, delivered once and ended
    abbrev pub rest_segment : Segment
    rest_segment = record { start = k; bytes = bytes; ended = true; late = false }

    fits : q * n ≤ length text
    fits = omega (arith, last_index_le n text)

    cs_full : Full cs
    cs_full = all_full n q text fits

    ds_full : Full ds
    ds_full = all_drop n k cs cs_full

    ds_len : k + length ds ≡ q
    ds_len = omega (arith, length-drop k cs, length-first_chunks n q text, below)

    tail_len : length tail ≡ length (last_chunk n text) + tag_length
    tail_len = block_len q true (last_chunk n text)

    tail_opens : opening (nonce_bytes q true) tail ≡ Some (last_chunk n text)
    tail_opens = valid.opens (nonce_bytes q true) (last_chunk n text) (nonce_bytes-length q true)

    pub rest_payload : drop (k * (n + tag_length)) (payload sealing n text) ≡ bytes
    rest_payload =
        let z : 0 + k ≡ k = omega arith in
        let le : k ≤ length cs = omega (arith, length-first_chunks n q text, below) in
        ap (drop (k * (n + tag_length))) (payload_is text) ∙ (drop_of 0 k cs tail cs_full le ∙ ap (λ (j : ℕ). bytes_of j ds ++ tail) z)

    open_front : leading_plaintexts opening k (blocks_of k ds) ≡ ds
    open_front = front_opens k ds (omega (arith, ds_len, few))

    front_after : (ys : List (List ℕ)) → leading_plaintexts opening k (blocks_of k ds ++ ys) ≡ ds ++ leading_plaintexts opening q ys
    front_after ys = grind (arith, common_steps, ds_len, front_on, length-blocks_of, open_front)

    tail_most : length tail ≤ n + tag_length
    tail_most = omega (arith, tail_len, last_chunk_le n text positive)

    front_size : length (bytes_of k ds) ≡ length ds * (n + tag_length)
    front_size = omega (arith, length-bytes_of k ds ds_full)

    -- the last block stands after the others
    last_block : block_at n bytes (length ds) ≡ tail
    last_block = grind (arith, common_steps, drop_at, front_size, tail_most, take_all)

    front_begins : leading_plaintexts opening k (whole_blocks n bytes) ≡ ds ++ leading_plaintexts opening q (whole_blocks n tail)
    front_begins = ap (leading_plaintexts opening k) (whole_of k ds tail ds_full) ∙ front_after (whole_blocks n tail)

    -- where the segment stands, unless the last block opens as one before the last
    abbrev end : Frontier
    end = record { texts = ds; index = q; block = tail; whole = length tail == n + tag_length; followed = false; ended = true }

    abbrev IsShut : Type 0
    IsShut = length tail ≡ n + tag_length → opening (nonce_bytes q false) tail ≡ None

    stops : IsShut → stop opening n rest_segment ≡ end
    stops shut =
        grind (arith, common_steps, append-nil, cases_lt, ds_len, front_begins, front_size, frontier, full_bytes, le-ltb, length-append, short_bytes, tail_most)

    shut_is_done : IsShut → (outcome opening n rest_segment).status ≡ Done
    shut_is_done shut =
        let empty : length tail ≡ tag_length → q ≡ 0 =
        λ h.
        let zero_len : length text ≡ 0 = omega (arith, tail_len, h, length-drop (q * n) text, last_index_le n text) in
        elim (cases_lt 0 q) [
          | inl lt ↦ (let m : 1 * n ≤ q * n = mul-le 1 n q n (omega (arith, lt)) (omega arith) in absurd
              (omega (arith, m, last_index_le n text, zero_len, positive)))
          | inr le ↦ omega (arith, le)
        ] in
        let some : (length tail == tag_length && nat_lt 0 q) ≡ false = grind arith in
        ap (λ (o : Outcome). o.status) (outcome_is opening n rest_segment ∙ (ap (verdict opening) (stops shut)
        ∙ line_last opening end (Some (last_chunk n text)) (ended_waits end.whole) (omega (arith, tail_len)) (and_right (not end.whole) _ some)
        (λ w. shut (eqb-true (length tail) (n + tag_length) w)) tail_opens))

    -- it doesn't open as one before the last, since the writer sealed none so
    shut_if : IsAuthentic sealing opening n text rest_segment → (o : Option (List ℕ)) → opening (nonce_bytes q false) tail ≡ o → IsShut
    shut_if given None e full = e
    shut_if given (Some t) e full =
        let W : ℕ → List ℕ → Type 0 = λ i b. IsWriters sealing opening n text (nonce_bytes i false) b in
        let begun = ap length front_begins ∙ length-append ds (leading_plaintexts opening q (whole_blocks n tail)) in
        let w : W q tail =
        subst (λ (i : ℕ). W i tail) ds_len (subst (W (k + length ds)) last_block (given.not_last (length ds) (omega (arith, begun)) (ap length last_block ∙ full))) in
        let c = writer_text sealing opening valid n text few positive q false tail t (omega (arith, few)) e w in
        let yes : (q + 1 == q + 1) ≡ true = eq-eqb (q + 1) (q + 1) refl in
        let no : false ≡ true = c.flag ∙ yes in
        cc

    pub rest_is_done : IsAuthentic sealing opening n text rest_segment → (outcome opening n rest_segment).status ≡ Done
    rest_is_done given = shut_is_done (shut_if given (opening (nonce_bytes q false) tail) refl)

    -- the writer's pairs
    writers_front : (i : ℕ) → i < q → Contains (sealed sealing n text) (nonce_bytes i false, sealing (nonce_bytes i false) (get_or cs i []))
    writers_front i lt =
        let d : List ℕ × List ℕ = (nonce_bytes i false, sealing (nonce_bytes i false) (get_or cs i [])) in
        (i, omega (arith, lt, length-sealed sealing n text), pair_before sealing n text i d lt)

    writers_last : Contains (sealed sealing n text) (nonce_bytes q true, tail)
    writers_last = (q, omega (arith, length-sealed sealing n text), pair_last sealing n text q (nonce_bytes q true, tail) refl)

    -- the blocks before the last are the writer's
    front_writers : (j : ℕ) → j < length ds → IsWriters sealing opening n text (nonce_bytes (k + j) false) (block_at n bytes j)
    front_writers j lt some =
        let count = length-whole_blocks n rest_segment in
        let more = ap length (whole_of k ds tail ds_full) ∙ length-append (blocks_of k ds) (whole_blocks n tail) in
        let is : block_at n bytes j ≡ sealing (nonce_bytes (k + j) false) (get_or cs (k + j) []) =
        block_is n rest_segment j (omega (arith, lt, count, more, length-blocks_of k ds))
        ∙ (ap (λ (bs : List (List ℕ)). get_or bs j []) (whole_of k ds tail ds_full)
        ∙ (get_or_append_left (blocks_of k ds) (whole_blocks n tail) [] j (omega (arith, lt, length-blocks_of k ds))
        ∙ (get_or-blocks_of k ds j lt ∙ ap (sealing (nonce_bytes (k + j) false)) (get_or-drop k cs j [])))) in
        subst (λ (b : List ℕ). Contains (sealed sealing n text) (nonce_bytes (k + j) false, b)) (sym is) (writers_front (k + j) (omega (arith, lt, ds_len)))

    -- all that is tried is the writer's, unless the last block is full and opens as one before the last
    pub rest_authentic : (length (last_chunk n text) ≡ n → opening (nonce_bytes q false) tail ≡ None) → IsAuthentic sealing opening n text rest_segment
    rest_authentic closed =
        let shut : IsShut = λ full. closed (omega (arith, full, tail_len)) in
        let at = stops shut in
        record {
          not_last = λ j le full. elim (cases_lt j (length ds)) [
            | inl lt ↦ front_writers j lt
            | inr ge ↦
                (let is : j ≡ length ds = omega (arith, ge, le, ap (λ (b : Frontier). length b.texts) at) in
                let block : block_at n bytes j ≡ tail = ap (block_at n bytes) is ∙ last_block in
                let i : k + j ≡ q = omega (arith, is, ds_len) in
                let none : opening (nonce_bytes (k + j) false) (block_at n bytes j) ≡ None =
                ap (λ (b : List ℕ). opening (nonce_bytes (k + j) false) b) block
                ∙ (ap (λ (x : ℕ). opening (nonce_bytes x false) tail) i ∙ shut (sym (ap length block) ∙ full)) in
                λ some. absurd (none_is (opening (nonce_bytes (k + j) false) (block_at n bytes j)) none some))
          ];
          last = λ _. subst (λ (b : Frontier). IsWriters sealing opening n text (nonce_bytes b.index true) b.block) (sym at) (λ _. writers_last);
        }

-- ---- Any segment.

module _ (sealing : Seals) (opening : OpensBlock) (valid : IsChunkBox sealing opening)
    (n : ℕ) (positive : 0 < n) where
  -- what is left of the payload is the writer's last blocks
  module _ (text : List ℕ) (few : chunk_count n text ≤ chunk_limit) (s : Segment) (rest : IsRest sealing opening n text s) where
    abbrev blocks_left : Segment
    blocks_left = rest_segment sealing opening valid n positive text few s.start rest.below

    is_left : s ≡ blocks_left
    is_left = grind (arith, common_steps, rest_payload)

    pub rest_done : IsAuthentic sealing opening n text s → (outcome opening n s).status ≡ Done
    rest_done auth = grind (arith, common_steps, is_left, rest_is_done)

    pub rest_right : HasUnambiguousEnd sealing opening n text → IsAuthentic sealing opening n text s
    rest_right closed = subst (IsAuthentic sealing opening n text) (sym is_left) (rest_authentic sealing opening valid n positive text few s.start rest.below closed)

  pub segment_right : (s : Segment) → ReleasesWritten sealing opening n s (released opening n s) (outcome opening n s).status
  segment_right s text few limit auth =
      right_after sealing opening valid n text few positive s auth (IsRest sealing opening n text s) (take (s.start * n) text) limit refl
      (λ rest. rest_done text few s rest auth)
