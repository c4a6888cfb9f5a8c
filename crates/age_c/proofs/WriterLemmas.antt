-- What a call, and a list of them, does to a writer and to a stream that writes.
use Rattle.std.proofs.lemmas.Grind.{common_steps, flat_map-append}
use Rattle.std.proofs.lemmas.Bool.Decides.{eqb_tells}
use Rattle.std.proofs.Common.{◌≡◌, ◌≢◌, ℕ, ◌+◌, ◌*◌, ◌<◌, ◌≤◌, refl, ap, sym, ◌∙◌, arith, List, [], ◌∷◌, ◌++◌, length, take, drop, Bool, true}
use Rattle.std.proofs.Common.{false, ap₂, subst}
use Rattle.std.specs.Prelude.{map, ◌==◌, ◌⊎◌}
use Rattle.std.specs.List.{enumerate_from}
use Rattle.std.specs.Simd.{first_chunks}
use Rattle.std.proofs.lemmas.List.{append-nil, drop_at, length-append, map-append, take_all, append_assoc}
use Rattle.std.proofs.lemmas.Bool.{false≢true}
use Rattle.age_chunk.specs.{nonce_bytes, chunk_limit, pair, block_bytes, payload, last_index, last_chunk, chunk_length, chunk_count}
use Rattle.age_chunk.proofs.{first_chunks_more, first_chunks-append, length-first_chunks}
use Rattle.age_stream.proofs.{enumerate_from_more, last_index_is}
use Rattle.age_c.specs.declared.writer.Writer.{Writer}
use Rattle.age_keys.specs.inner.{seals}
use Rattle.age_c.specs.inner.{key_of_writer as key_of, SealsChunk, SealsLast, HoldsText}
use Rattle.age_c.specs.{HasSealed, SameKeys, blocks_of, WritesOrRefuses, FeedsText, FinishesText, HasTaken, TakesText, held_chunk, Answers, AnswersAreTextCalls}
use Rattle.age_c.specs.{AreTextCalls, IsBegun, IsTextCallOn, TextCall, bytes_written, stream_after, text_taken}
use Rattle.age_keys.specs.{FileOf, box}
use Rattle.age_stanza.specs.declared.header.Header.{Header}
use Rattle.age_c.specs.declared.write_stream.WriteStream.{WriteStream}

pub key_same : (was now : Writer) → SameKeys was now → key_of now ≡ key_of was
key_same was now same = cc (same.file_key, same.nonce)

-- ---- whole chunks, and what is left

module _ (sealing : List ℕ → List ℕ → List ℕ) (m k : ℕ) (text : List ℕ) (whole : length text ≡ k * m) where
  abbrev blocks : ℕ → List ℕ → List ℕ
  blocks n xs = block_bytes (map (pair sealing false) (enumerate_from 0 (first_chunks m n xs)))

  pub same_front : (more : List ℕ) → first_chunks m k (text ++ more) ≡ first_chunks m k text
  same_front more = first_chunks-append m k text more (omega (arith, whole))

  pub chunk_more : (chunk : List ℕ) → length chunk ≡ m → first_chunks m (k + 1) (text ++ chunk) ≡ first_chunks m k text ++ chunk ∷ []
  chunk_more chunk size = grind (arith, common_steps, drop_at, first_chunks_more, same_front, take_all)

  -- one pair more
  pub block_more : (pairs : List (List ℕ × List ℕ)) (p : List ℕ × List ℕ) → block_bytes (pairs ++ p ∷ []) ≡ block_bytes pairs ++ p.1
  block_more pairs p = flat_map-append (λ (q : List ℕ × List ℕ). q.1) pairs (p ∷ []) ∙ ap (λ (x : List ℕ). block_bytes pairs ++ x) (append-nil p.1)

  pub blocks_more : (chunk : List ℕ) → length chunk ≡ m → blocks (k + 1) (text ++ chunk) ≡ blocks k text ++ sealing (nonce_bytes k false) chunk
  blocks_more chunk size =
      let cs = first_chunks m k text in
      let len : 0 + length cs ≡ k = omega (arith, length-first_chunks m k text) in
      let pairs : map (pair sealing false) (enumerate_from 0 (first_chunks m (k + 1) (text ++ chunk)))
      ≡ map (pair sealing false) (enumerate_from 0 cs) ++ pair sealing false (k, chunk) ∷ [] =
      ap (λ (cs : List (List ℕ)). map (pair sealing false) (enumerate_from 0 cs)) (chunk_more chunk size) ∙ (ap (map (pair sealing false))
      (enumerate_from_more 0 cs chunk ∙ ap (λ (n : ℕ). enumerate_from 0 cs ++ (n, chunk) ∷ []) len)
      ∙ map-append (pair sealing false) (enumerate_from 0 cs) ((k, chunk) ∷ [])) in
      ap block_bytes pairs ∙ block_more (map (pair sealing false) (enumerate_from 0 cs)) (pair sealing false (k, chunk))

  pub rest_index : (rest : List ℕ) → 0 < m → length rest ≤ m → (length rest ≡ 0 → k ≡ 0) → last_index m (text ++ rest) ≡ k
  rest_index rest positive short some = grind (arith, common_steps, eqb_tells, last_index_is, length-append)

  pub payload_more : (rest : List ℕ) → 0 < m → length rest ≤ m → (length rest ≡ 0 → k ≡ 0)
      → payload sealing m (text ++ rest) ≡ blocks k text ++ sealing (nonce_bytes k true) rest
  payload_more rest positive short some =
      let index = rest_index rest positive short some in
      let front : map (pair sealing false) (enumerate_from 0 (first_chunks m (last_index m (text ++ rest)) (text ++ rest)))
      ≡ map (pair sealing false) (enumerate_from 0 (first_chunks m k text)) =
      ap (λ (cs : List (List ℕ)). map (pair sealing false) (enumerate_from 0 cs))
      (ap (λ (n : ℕ). first_chunks m n (text ++ rest)) index ∙ same_front rest) in
      let last : (last_index m (text ++ rest), last_chunk m (text ++ rest)) ≡ (k, rest) =
      cc (index, ap (λ (n : ℕ). drop (n * m) (text ++ rest)) index ∙ drop_at text rest (k * m) whole) in
      block_more (map (pair sealing false) (enumerate_from 0 (first_chunks m (last_index m (text ++ rest)) (text ++ rest))))
      (pair sealing true (last_index m (text ++ rest), last_chunk m (text ++ rest))) ∙ (ap (λ (pairs : List (List ℕ × List ℕ)). block_bytes pairs
      ++ (pair sealing true (last_index m (text ++ rest), last_chunk m (text ++ rest))).1) front
      ∙ ap (λ (p : ℕ × List ℕ). blocks k text ++ (pair sealing true p).1) last)

-- ---- one call

pub seals_chunk : (old new : Writer) (chunk bytes : List ℕ) → old.state ≡ 1 → new.state ≡ old.state → new.chunk ≡ old.chunk + 1
    → old.chunk + 1 < chunk_limit → SameKeys old new → length chunk ≡ chunk_length → bytes ≡ seals (key_of old) (nonce_bytes old.chunk false) chunk
    → SealsChunk chunk old bytes new
seals_chunk old new chunk bytes first still next limit same size is = grind (arith, common_steps, blocks_more, key_same, length-append)

pub seals_last : (old new : Writer) (rest bytes : List ℕ) → old.chunk < chunk_limit → new.state ≡ 2 → SameKeys old new
    → length rest ≤ chunk_length → (length rest ≡ 0 → old.chunk ≡ 0) → bytes ≡ seals (key_of old) (nonce_bytes old.chunk true) rest
    → SealsLast rest old bytes new
seals_last old new rest bytes limit finished same short some is = grind (arith, common_steps, payload_more, rest_index)

pub not_end : (is_end : Bool) (answer : ℕ) → (is_end ≡ true → answer ≢ 0) → answer ≡ 0 → is_end ≡ false
not_end true answer other zero = absurd (other refl zero)
not_end false answer other zero = refl

-- a writer that was given no text wrote no block
pub none_yet : (w : Writer) → HasSealed w [] → blocks_of w [] ≡ []
none_yet w h = grind (arith, common_steps)

pub idle_or_did : {State : Type 0} (old new : State) (before after : List ℕ) (answer written : ℕ)
    (Fits : Type 0) (Does : List ℕ → State → Type 0) (Why : ℕ → Type 0)
    → Answers Fits (WritesOrRefuses Does Why old) old new answer written before after
    → (answer ≢ 0 → (new ≡ old) × (take written after ≡ [])) × (answer ≡ 0 → Does (take written after) new)
idle_or_did old new before after answer written Fits Does Why it = grind (arith, common_steps, eqb_tells)

-- ---- A stream that writes.

-- more text changes no block that was written
blocks_front : (w : Writer) (chunks more : List ℕ) → HasSealed w chunks → blocks_of w (chunks ++ more) ≡ blocks_of w chunks
blocks_front w chunks more h = grind (arith, common_steps, same_front)

-- the blocks of a stream's text are the blocks of its whole chunks
blocks_held : (s : WriteStream) (text : List ℕ) → (h : HasTaken s text) → blocks_of s.writer text ≡ blocks_of s.writer h.chunks
blocks_held s text h = ap (blocks_of s.writer) h.given ∙ blocks_front s.writer h.chunks (held_chunk s) h.sealed

keys_by : (was now : Writer) → now ≡ was → SameKeys was now
keys_by was now is = record { file_key = ap (λ (w : Writer). w.file_key) is; nonce = ap (λ (w : Writer). w.nonce) is }

-- ---- bytes for which the chunk has room

held_more : (piece : List ℕ) (count : ℕ) (old new : WriteStream) → HoldsText piece count old new → (text : List ℕ) → (h : HasTaken old text)
    → text ++ take count piece ≡ h.chunks ++ held_chunk new
held_more piece count old new holds text h = grind (arith, common_steps, append_assoc)

takes_held : (piece : List ℕ) (count : ℕ) (old new : WriteStream) → HoldsText piece count old new → TakesText (take count piece) old [] new
takes_held piece count old new holds = grind (arith, common_steps, append-nil, blocks_front, blocks_held, held_more, keys_by)

pub feeds_held : (piece : List ℕ) (count : ℕ) (old new : WriteStream) → HoldsText piece count old new
    → old.held ≤ chunk_length → (0 < length piece → old.held < chunk_length) → FeedsText piece count old [] new
feeds_held piece count old new holds short room = grind (arith, common_steps, takes_held)

-- ---- a byte after a full chunk

module _ (piece bytes : List ℕ) (count : ℕ) (old between new : WriteStream) (full : old.held ≡ chunk_length) (size : length old.chunk ≡ chunk_length)
    (seals_it : SealsChunk old.chunk old.writer bytes between.writer) (empty : between.held ≡ 0)
    (holds : HoldsText piece count between new) (more : 0 < length piece) where
  -- what was held is now sealed
  all_sealed : (text : List ℕ) → (h : HasTaken old text) → text ≡ h.chunks ++ old.chunk
  all_sealed text h =
      h.given ∙ ap (λ (t : List ℕ). h.chunks ++ t) (ap (λ (n : ℕ). take n old.chunk) full ∙ take_all chunk_length old.chunk (omega (arith, size)))

  sealed_text : (text : List ℕ) → HasTaken old text → HasSealed new.writer text
  sealed_text text h = grind (arith, common_steps, all_sealed)

  held_is : held_chunk new ≡ take count piece
  held_is = holds.bytes ∙ ap (λ (n : ℕ). take n between.chunk ++ take count piece) empty

  blocks_are : (text : List ℕ) → HasTaken old text → blocks_of new.writer (text ++ take count piece) ≡ blocks_of old.writer text ++ bytes
  blocks_are text h = grind (arith, common_steps, all_sealed, blocks_front, blocks_held, sealed_text)

  pub feeds_full : FeedsText piece count old bytes new
  feeds_full = record {
    takes = record {
      taken = λ text h. record {
        chunks = text;
        sealed = sealed_text text h;
        given = ap (λ (t : List ℕ). text ++ t) (sym held_is);
        some = λ none. absurd (omega (arith, none, holds.held, holds.count_is, empty, more));
      };
      blocks = blocks_are;
      same = record {
        file_key = ap (λ (w : Writer). w.file_key) holds.writer ∙ seals_it.same.file_key;
        nonce = ap (λ (w : Writer). w.nonce) holds.writer ∙ seals_it.same.nonce;
      };
    };
    most = omega (arith, holds.count_is);
    some = λ some. omega (arith, holds.count_is, some, empty);
    all = λ some. omega (arith, holds.count_is, some, holds.held, empty);
  }

-- ---- the end

pub finishes_text : (bytes : List ℕ) (old new : WriteStream) → SealsLast (held_chunk old) old.writer bytes new.writer → FinishesText old bytes new
finishes_text bytes old new seals_it = record {
  payload_is = λ text h. ap (payload (seals (key_of old.writer)) chunk_length) h.given ∙ (seals_it.payload_is h.chunks h.sealed
      ∙ ap (λ (b : List ℕ). b ++ bytes) (sym (blocks_held old text h)));
  few = λ text h. subst (λ (t : List ℕ). chunk_count chunk_length t ≤ chunk_limit) (sym h.given) (seals_it.few h.chunks h.sealed);
  finished = seals_it.finished;
  same = seals_it.same;
}

-- ---- a list of calls

record After (s : WriteStream) (text more bytes : List ℕ) (last : WriteStream) : Type 0 where
  pub taken : HasTaken last (text ++ more)
  pub blocks : blocks_of last.writer (text ++ more) ≡ blocks_of s.writer text ++ bytes
  pub key : key_of last.writer ≡ key_of s.writer

-- a call that was refused
idle_after : (s : WriteStream) (text more bytes : List ℕ) (last : WriteStream) → HasTaken s text
    → last ≡ s → more ≡ [] → bytes ≡ [] → After s text more bytes last
idle_after s text more bytes last h is none nothing = grind (arith, common_steps, append-nil)

one_by : (s : WriteStream) (c : TextCall) (text : List ℕ) → HasTaken s text → IsTextCallOn s c → (c.is_end ≡ true → c.answer ≢ 0)
    → ((c.answer == 0) ≡ true) × (c.answer ≡ 0) ⊎ ((c.answer == 0) ≡ false) × (c.answer ≢ 0) → After s text c.text c.bytes c.after
one_by s c text h0 h1 h2 h3 = grind (arith, common_steps, idle_after, key_same, not_end)

all_calls : (calls : List TextCall) (s : WriteStream) (text : List ℕ) → HasTaken s text → AreTextCalls s calls
    → After s text (text_taken calls) (bytes_written calls) (stream_after s calls)
all_calls [] s text h are = idle_after s text [] [] s h refl refl refl
all_calls (c ∷ calls) s text h are =
    let first = one_by s c text h are.0 are.1 (eqb_tells c.answer 0) in
    let others = all_calls calls c.after (text ++ c.text) first.taken are.2 in
    let join : text ++ c.text ++ text_taken calls ≡ text ++ (c.text ++ text_taken calls) =
    append_assoc text c.text (text_taken calls) in
    record {
      taken = subst (HasTaken (stream_after c.after calls)) join others.taken;
      blocks = ap (blocks_of (stream_after c.after calls).writer) (sym join)
          ∙ (others.blocks ∙ (ap (λ (b : List ℕ). b ++ bytes_written calls) first.blocks
          ∙ append_assoc (blocks_of s.writer text) c.bytes (bytes_written calls)));
      key = others.key ∙ first.key;
    }

-- a stream that was given no text
nothing_taken : (s : WriteStream) → HasSealed s.writer [] → s.held ≡ 0 → HasTaken s []
nothing_taken s h empty = grind (arith, common_steps)

-- a file that was written: a call wrote what stands before the payload, the stream held nothing, and any
-- calls were made on it, and then an end that answered 0
pub record WritesFile (header : Header) (key nonce front : List ℕ) (s : WriteStream) (calls : List TextCall) (last : TextCall) : Type 0 where
  pub begins : IsBegun header key nonce front s.writer
  pub empty : s.held ≡ 0
  pub are : AreTextCalls s calls
  pub is_call : IsTextCallOn (stream_after s calls) last
  pub is_end : last.is_end ≡ true
  pub zero : last.answer ≡ 0

module _ (header : Header) (key nonce front : List ℕ) (s : WriteStream) (calls : List TextCall)
    (last : TextCall) (it : WritesFile header key nonce front s calls last) where
  after : After s [] (text_taken calls) (bytes_written calls) (stream_after s calls)
  after = all_calls calls s [] (nothing_taken s it.begins.start it.empty) it.are

  ends : FinishesText (stream_after s calls) last.bytes last.after
  ends = (it.is_call.2 it.zero it.is_end).1

  -- what was written after the front is the payload
  pub payload_written : payload (box s.writer.file_key s.writer.nonce) chunk_length (text_taken calls) ≡ bytes_written calls ++ last.bytes
  payload_written =
      ap (λ (k : List ℕ). payload (seals k) chunk_length (text_taken calls)) (sym after.key) ∙ (ends.payload_is (text_taken calls) after.taken
      ∙ ap (λ (b : List ℕ). b ++ last.bytes) (after.blocks ∙ ap (λ (b : List ℕ). b ++ bytes_written calls) (none_yet s.writer it.begins.start)))

  pub few_chunks : chunk_count chunk_length (text_taken calls) ≤ chunk_limit
  few_chunks = ends.few (text_taken calls) after.taken

-- all of it is the age file of the plaintext that the calls took, which has as few chunks as the law of
-- readers asks for
pub texts_are_files : (header : Header) (key nonce front : List ℕ) (s : WriteStream) (calls : List TextCall) (last : TextCall)
    → WritesFile header key nonce front s calls last
    → FileOf header key nonce (text_taken calls) (front ++ (bytes_written calls ++ last.bytes))
    × (chunk_count chunk_length (text_taken calls) ≤ chunk_limit)
texts_are_files header key nonce front s calls last it =
    let begins = it.begins in
    let text = text_taken calls in (
      record {
        front = begins.front.front;
        head = begins.front.head;
        mac = begins.mac;
        size = begins.front.size;
        parts = ap₂ (λ (a b : List ℕ). a ++ b) begins.front.parts (sym (payload_written header key nonce front s calls last it)
            ∙ ap₂ (λ (k n : List ℕ). payload (box k n) chunk_length text) begins.has_key begins.has_nonce);
      },
      few_chunks header key nonce front s calls last it,
    )

-- ---- answers are calls

pub answers_are_text_calls : AnswersAreTextCalls
answers_are_text_calls old new piece before after answer taken written = grind (arith, common_steps, false≢true, idle_or_did)
