-- A block that came undamaged at its place is opened.
use Rattle.std.proofs.lemmas.Grind.{common_steps, flat_map-append}
use Rattle.std.proofs.lemmas.Bool.Decides.{eqb_tells}
use Rattle.std.proofs.Common.{inl, inr, ◌≡◌, ◌≢◌, ℕ, ◌+◌, ◌*◌, refl, ◌<◌, ◌≤◌, ap, sym, subst, ◌∙◌, arith, List, [], ◌∷◌, ◌++◌, length, get_or, take, drop}
use Rattle.std.proofs.Common.{Bool, true, false, Option, Some, None}
use Rattle.std.specs.Prelude.{◌==◌}
use Rattle.std.specs.List.{AllByRecursion}
use Rattle.std.specs.Simd.{first_chunks}
use Rattle.std.proofs.lemmas.Bool.{cases_lt, eq-eqb, lt-ltb, ne_eqb}
use Rattle.std.proofs.lemmas.List.{append-nil, drop_at, get_or_append_left, get_or_push, length-drop, length-take, length_push}
use Rattle.age_chunk.specs.{tag_length, block_bytes, block_length, chunk_count, chunk_length, chunk_limit, chunks, last_chunk, last_index, nonce_bytes, pair}
use Rattle.age_chunk.specs.{payload, sealed, sealed_before_last}
use Rattle.age_chunk.specs.declared.fault.StreamFault.{StreamFault}
use Rattle.age_chunk.proofs.{get_or-first_chunks, length-first_chunks, nonce_bytes-length}
use Rattle.age_keys.specs.inner.{box_valid, opens, seals}
use Rattle.age_stream.specs.{HasUnambiguousEnd, Outcome, fresh, outcome, rest_bytes}
use Rattle.age_stream.specs.declared.step.Status.{Status}
use Rattle.age_stream.specs.declared.step.Status.TheVariants.{Failed, LastSeen, Open}
use Rattle.age_stream.specs.Segment.{Segment}
use Rattle.age_stream.specs.inner.{one_block}
use Rattle.age_stream.proofs.GoingLemmas.{going_whole, fresh_rest}
use Rattle.age_stream.proofs.TableLemmas.{prepend}
use Rattle.age_stream.proofs.{going, last_chunk_le, fresh_outcome, sealed_at, last_index_le}
use Rattle.age_stream.proofs.LawLemmas.{payload_is_longer}
use Rattle.age_c.specs.{answer_of, misused, reader_status, Call, IsAt, SameFile, TakesBlock, TakesEnd, after_block, AreOpenings, IsOpenedRight, Opening}
use Rattle.age_c.specs.{OpensAt, UndamagedOpens, chunk_of, Reader}
use Rattle.age_c.specs.inner.{key_of_reader as key_of}
use Rattle.age_c.proofs.CallLemmas.{calls_are_written, fault_from, refused_of, same_file, taken_next}
use Rattle.age_c.proofs.ReaderLemmas.{key_same, unchanged}

-- ---- a segment of one whole block

module _ (opening : List ℕ → List ℕ → Option (List ℕ)) (n i : ℕ) (block text : List ℕ) (len : length block ≡ n + tag_length) where
  abbrev pub one : Segment
  one = record { start = i; bytes = block; ended = false; late = false }

  by_front : outcome opening n one ≡ one_block opening i block
  by_front =
      let begun = fresh_outcome opening n i in
      let size : length (rest_bytes n []) + length block ≡ n + tag_length = omega (arith, len, ap length (fresh_rest n i)) in
      (going_whole opening n (fresh i) block (going opening n (fresh i) (ap (λ (o : Outcome). o.status) begun)) refl size).is
      ∙ (ap (λ (o : Outcome). prepend o.texts (one_block opening o.index (rest_bytes n [] ++ block))) begun
      ∙ ap (λ (b : List ℕ). one_block opening i (b ++ block)) (fresh_rest n i))

  -- it opens as one before the last
  pub opens_before : opening (nonce_bytes i false) block ≡ Some text → i + 1 < chunk_limit
      → outcome opening n one ≡ record { texts = text ∷ []; index = i + 1; status = Open }
  opens_before is lt = grind (arith, common_steps, by_front, lt-ltb)

  -- it opens as the last alone
  pub opens_last : opening (nonce_bytes i false) block ≡ None → opening (nonce_bytes i true) block ≡ Some text
      → outcome opening n one ≡ record { texts = text ∷ []; index = i; status = LastSeen }
  opens_last closed is = grind (arith, common_steps, by_front)

-- ---- the chunks of a text

module _ (text : List ℕ) (i : ℕ) where
  abbrev front : List (List ℕ)
  front = first_chunks chunk_length (last_index chunk_length text) text

  front_size : length front ≡ last_index chunk_length text
  front_size = length-first_chunks chunk_length (last_index chunk_length text) text

  pub chunks_size : length (chunks chunk_length text) ≡ last_index chunk_length text + 1
  chunks_size = length_push front (last_chunk chunk_length text) ∙ ap (λ (k : ℕ). k + 1) front_size

  -- one before the last is full
  pub full_chunk : i < last_index chunk_length text → length (chunk_of text i) ≡ chunk_length
  full_chunk lt =
      let is : chunk_of text i ≡ take chunk_length (drop (i * chunk_length) text) =
      get_or_append_left front (last_chunk chunk_length text ∷ []) [] i (omega (arith, lt, front_size))
      ∙ get_or-first_chunks chunk_length (last_index chunk_length text) text i [] lt in
      omega (
        arith,
        lt,
        ap length is,
        length-take chunk_length (drop (i * chunk_length) text),
        length-drop (i * chunk_length) text,
        last_index_le chunk_length text,
      )

  pub last_chunk_is : i ≡ last_index chunk_length text → chunk_of text i ≡ last_chunk chunk_length text
  last_chunk_is e = get_or_push front (last_chunk chunk_length text) [] i (front_size ∙ sym e)

-- the last block ends the payload
pub payload_end : (k text : List ℕ) → (block : List ℕ)
    → block ≡ seals k (nonce_bytes (last_index chunk_length text) true) (last_chunk chunk_length text)
    → block ≡ drop (last_index chunk_length text * block_length) (payload (seals k) chunk_length text)
payload_end k text block is =
    let at = last_index chunk_length text in
    let before : List ℕ = block_bytes (sealed_before_last (seals k) chunk_length text) in
    let last : List ℕ = seals k (nonce_bytes at true) (last_chunk chunk_length text) in
    let whole : payload (seals k) chunk_length text ≡ before ++ last =
    flat_map-append (λ (p : List ℕ × List ℕ). p.1) (sealed_before_last (seals k) chunk_length text)
    (pair (seals k) true (at, last_chunk chunk_length text) ∷ []) ∙ ap (λ (x : List ℕ). before ++ x) (append-nil last) in
    let size = (payload_is_longer (seals k) (opens k) (box_valid k) chunk_length text).1 in
    is ∙ sym (ap (drop (at * block_length)) whole ∙ drop_at before last (at * block_length) size)

-- ---- an answer

-- a reader that isn't refused answers 0
pub answers_zero : (n chunk answer : ℕ) (status : Status) → answer ≡ answer_of n → reader_status n chunk ≡ Some status
    → ((f : StreamFault) → Some status ≡ Some (Failed f) → ⊥) → answer ≡ 0
answers_zero n chunk answer status is stands unfailed = grind (arith, common_steps, eqb_tells, refused_of)

pub never_misused : (n answer : ℕ) → answer ≡ answer_of n → answer ≢ misused
never_misused n answer is misused_is = grind (arith, common_steps, fault_from)

-- ---- one opening

-- of a reader that is at a chunk and was given nothing
module _ (r new : Reader) (chunk answer : ℕ) (block opened text : List ℕ) (at : IsAt r (fresh chunk))
    (few : chunk_count chunk_length text ≤ chunk_limit) (closed : HasUnambiguousEnd (seals (key_of r)) (opens (key_of r)) chunk_length text)
    (whole : length block ≡ block_length → TakesBlock (after_block block) r answer opened new)
    (rest : length block ≢ block_length → TakesEnd block r answer opened new) where
  abbrev k : List ℕ
  k = key_of r

  abbrev Gives : Type 0
  Gives = (answer ≡ 0) × (opened ≡ chunk_of text chunk)

  -- the block is what its writer sealed the chunk as
  abbrev IsSealed : Bool → Type 0
  IsSealed last = block ≡ seals k (nonce_bytes chunk last) (chunk_of text chunk)

  size_by : (last : Bool) → IsSealed last → length block ≡ length (chunk_of text chunk) + tag_length
  size_by last is = ap length is ∙ (box_valid k).longer (nonce_bytes chunk last) (chunk_of text chunk) (nonce_bytes-length chunk last)

  opened_by : (last : Bool) → IsSealed last → opens k (nonce_bytes chunk last) block ≡ Some (chunk_of text chunk)
  opened_by last is =
      ap (opens k (nonce_bytes chunk last)) is ∙ (box_valid k).opens (nonce_bytes chunk last) (chunk_of text chunk) (nonce_bytes-length chunk last)

  -- a whole block that opens as the chunk
  whole_gives : (status : Status) (index : ℕ) → length block ≡ block_length
      → outcome (opens k) chunk_length (record { start = chunk; bytes = block; ended = false; late = false })
      ≡ record { texts = chunk_of text chunk ∷ []; index = index; status = status } → ((f : StreamFault) → Some status ≡ Some (Failed f) → ⊥) → Gives
  whole_gives status index size is unfailed = grind (arith, common_steps, answers_zero, append-nil, fresh_outcome, key_same)

  -- a block before the last
  gives_before : chunk < last_index chunk_length text → IsSealed false → Gives
  gives_before lt is =
      let size : length block ≡ block_length = omega (arith, size_by false is, full_chunk text chunk lt) in
      whole_gives Open (chunk + 1) size
      (opens_before (opens k) chunk_length chunk block (chunk_of text chunk) size (opened_by false is) (omega (arith, lt, few))) (λ f e. cc)

  -- ---- the last block

  as_written : chunk ≡ last_index chunk_length text → IsSealed true
      → block ≡ seals k (nonce_bytes (last_index chunk_length text) true) (last_chunk chunk_length text)
  as_written last is = grind (arith, common_steps, last_chunk_is)

  -- if it is whole
  gives_full : chunk ≡ last_index chunk_length text → IsSealed true → length (chunk_of text chunk) ≡ chunk_length → Gives
  gives_full last is full =
      let size : length block ≡ block_length = omega (arith, size_by true is, full) in
      let shut : opens k (nonce_bytes chunk false) block ≡ None =
      ap (λ (j : ℕ). opens k (nonce_bytes j false) block) last ∙ (ap (opens k (nonce_bytes (last_index chunk_length text) false)) (as_written last is)
      ∙ closed (sym (ap length (last_chunk_is text chunk last)) ∙ full)) in
      whole_gives LastSeen chunk size
      (opens_last (opens k) chunk_length chunk block (chunk_of text chunk) size shut (opened_by true is)) (λ f e. cc)

  -- if it is shorter
  gives_short : chunk ≡ last_index chunk_length text → IsSealed true → length (chunk_of text chunk) < chunk_length → Gives
  gives_short last is short =
      let ends = rest (λ e. omega (arith, e, size_by true is, short)) in
      let other : answer ≢ misused = never_misused new.state answer ends.takes.answer_is in
      let call : Call Reader = record { is_end = true; bytes = block; answer = answer; text = opened; after = new } in
      let there : block ≡ drop (chunk * block_length) (payload (seals k) chunk_length text) =
      payload_end k text block (as_written last is) ∙ ap (λ (j : ℕ). drop (j * block_length) (payload (seals k) chunk_length text)) (sym last) in
      let right = calls_are_written r chunk at (omega (arith, last, few)) (call ∷ [])
      (inr (other, ends.takes, λ _ zero. ends.done zero), tt) text few in
      let gives = right.whole closed (omega (arith, last)) (taken_next call (fresh chunk) other
      ∙ ap (λ (b : List ℕ). record { start = chunk; bytes = b; ended = true; late = false }) there) in (
        gives.1.0 other,
        sym (append-nil opened)
            ∙ (gives.0 ∙ (ap (λ (j : ℕ). drop (j * chunk_length) text) last ∙ sym (last_chunk_is text chunk last))),
      )

  -- any block
  gives : chunk < chunk_count chunk_length text → block ≡ (get_or (sealed (seals k) chunk_length text) chunk ([], [])).1 → Gives
  gives below is =
      let count = chunks_size text chunk in
      let sealed_is = ap (λ (p : List ℕ × List ℕ). p.1) (sealed_at (seals k) chunk_length text chunk (omega (arith, count, below))) in
      let flagged : (last : Bool) → (chunk + 1 == length (chunks chunk_length text)) ≡ last → IsSealed last =
      λ last e. is ∙ (sealed_is ∙ ap (λ (b : Bool). seals k (nonce_bytes chunk b) (chunk_of text chunk)) e) in
      elim (cases_lt chunk (last_index chunk_length text)) [
        | inl lt ↦ gives_before lt (flagged false (ne_eqb (chunk + 1) (length (chunks chunk_length text)) (λ e. omega (arith, lt, e, count))))
        | inr le ↦
            (let last : chunk ≡ last_index chunk_length text = omega (arith, le, below) in
            let as_last = flagged true (eq-eqb (chunk + 1) (length (chunks chunk_length text)) (omega (arith, last, count))) in
            let most : length (chunk_of text chunk) ≤ chunk_length =
            omega (arith, ap length (last_chunk_is text chunk last), last_chunk_le chunk_length text (omega arith)) in
            elim (cases_lt (length (chunk_of text chunk)) chunk_length) [
              | inl short ↦ gives_short last as_last short
              | inr full ↦ gives_full last as_last (omega (arith, full, most))
            ])
      ]

-- ---- a list of openings

after_opening : (chunk answer : ℕ) (block text : List ℕ) (old new : Reader) → OpensAt chunk block old answer text new → SameFile old new
after_opening chunk answer block text old new it = grind (arith, common_steps, eqb_tells, same_file)

openings_from : (first r : Reader) (openings : List Opening) → SameFile first r → AreOpenings r openings
    → (text : List ℕ) → chunk_count chunk_length text ≤ chunk_limit → HasUnambiguousEnd (seals (key_of first)) (opens (key_of first)) chunk_length text
    → AllByRecursion (IsOpenedRight first text) openings
openings_from first r [] same are text few closed = tt
openings_from first r (o ∷ openings) same (inl idle, are) text few closed = (
  λ other. absurd (other idle.0),
  openings_from first o.after openings (subst (SameFile first) (sym idle.1) same) are text few closed,
)
openings_from first r (o ∷ openings) same (inr it, are) text few closed =
    let key : key_of first ≡ key_of it.begun = sym (key_same r it.begun it.goes.same ∙ key_same first r same) in (
      λ _ below is. gives it.begun o.after o.chunk o.answer o.block o.text text it.goes.at few
          (subst (λ (k : List ℕ). HasUnambiguousEnd (seals k) (opens k) chunk_length text) key closed) it.whole it.rest below
          (subst (λ (k : List ℕ). o.block ≡ (get_or (sealed (seals k) chunk_length text) o.chunk ([], [])).1) key is),
      openings_from first o.after openings
          (same_file first r o.after same (after_opening o.chunk o.answer o.block o.text r o.after it)) are text few closed,
    )

pub undamaged_opens : UndamagedOpens
undamaged_opens r openings are text few closed =
    openings_from r r openings (unchanged r) are text few closed
