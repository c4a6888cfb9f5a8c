-- What any calls do to a reader, whether it is given blocks or, by a stream, pieces.
use Rattle.std.proofs.lemmas.Grind.{common_steps}
use Rattle.std.proofs.lemmas.Bool.Decides.{eqb_tells}
use Rattle.std.proofs.Common.{inl, inr, ◌≡◌, ◌≢◌, ℕ, zero, suc, ◌+◌, ◌-◌, ◌*◌, ◌<◌, ◌≤◌, refl, ap, sym, subst, ◌∙◌, arith, List, [], ◌∷◌, ◌++◌, length, take}
use Rattle.std.proofs.Common.{drop, Bool, true, false}
use Rattle.std.specs.Prelude.{◌==◌, ◌&&◌, ◌⊎◌, nat_le, if◌then◌else◌, Some, Option}
use Rattle.std.specs.List.{AllByRecursion}
use Rattle.std.proofs.lemmas.List.{append_assoc, append-nil, drop_at, length-append, length-take, nil_from_length}
use Rattle.std.proofs.lemmas.Bool.{and_parts, cases_lt, false≢true, leb-true, ne_eqb}
use Rattle.age_chunk.specs.{chunk_limit, block_length, chunk_count, chunk_length, payload}
use Rattle.age_chunk.specs.declared.fault.StreamFault.{StreamFault}
use Rattle.age_chunk.specs.declared.fault.StreamKind.TheVariants.{ChunkDamaged, ChunkCut, EmptyLast, Truncated, Trailing, TooManyChunks}
use Rattle.age_stanza.proofs.ElementLemmas.{all_map}
use Rattle.age_keys.specs.{payload_key}
use Rattle.age_keys.specs.inner.{box_valid, opens, seals}
use Rattle.age_stream.specs.{HasUnambiguousEnd, IsSealable, Outcome, fresh, outcome, released, with_end, with_piece, IsPrefixOf, IsRest, IsRight, IsFirstWrong}
use Rattle.age_stream.specs.declared.step.Status.{Status}
use Rattle.age_stream.specs.declared.step.Status.TheVariants.{Done, Failed, Open}
use Rattle.age_stream.specs.Segment.{Segment}
use Rattle.age_stream.proofs.{fresh_outcome}
use Rattle.age_stream.proofs.LawLemmas.{closed_stays}
use Rattle.age_stream.proofs.SegmentLemmas.{segment_right as released_is_written}
use Rattle.age_stream.proofs.ReplayLemmas.{rest_is_right as rest_is_authentic}
use Rattle.age_c.specs.{Reader, answer_of, misused, reader_status, AllAnswer, AreCalls, AreCallsAuthentic, AreParts, AreUndamaged}
use Rattle.age_c.specs.{Call, CallsAreWritten, CanBeUsed, GoesTo, IsAt, IsCall, IsTextRight, Part, PartsAreWritten, SameFile, after_block, after_call}
use Rattle.age_c.specs.{after_end, given_by, last_reader, reader_text, segment_from, texts_of, OpeningsAreParts}
use Rattle.age_c.specs.inner.{key_of_reader as key_of}
use Rattle.age_c.proofs.ReaderLemmas.{key_same, some_is, unchanged}

-- ---- One call.

-- a call leaves the segment's start
start_piece : (a : ℕ) (b : List ℕ) (ended late : Bool) (piece : List ℕ)
    → (with_piece (record { start = a; bytes = b; ended = ended; late = late }) piece).start ≡ a
start_piece a b true late piece = refl
start_piece a b false late piece = refl

start_given : (is_end : Bool) (bytes : List ℕ) (s : Segment) → (if is_end then after_end bytes s else after_block bytes s).start ≡ s.start
start_given true bytes s = start_piece s.start s.bytes s.ended s.late bytes
start_given false bytes s = start_piece s.start s.bytes s.ended s.late bytes

-- the segment after one call
abbrev pub next : {State : Type 0} → Call State → Segment → Segment
next c s = if c.answer == misused then s else after_call c s

pub misused_next : {State : Type 0} (c : Call State) (s : Segment) → c.answer ≡ misused → next c s ≡ s
misused_next c s is = ap (λ (n : ℕ). if n == misused then s else after_call c s) is

pub taken_next : {State : Type 0} (c : Call State) (s : Segment) → c.answer ≢ misused → next c s ≡ after_call c s
taken_next c s other = ap (λ (b : Bool). if b then s else after_call c s) (ne_eqb c.answer misused other)

-- ---- Numbers.

-- an answer that isn't 0 is the state's number
pub record IsFault (n : ℕ) : Type 0 where
  pub least : 17 ≤ n
  pub most : n ≤ 22
  pub is : answer_of n ≡ n

fault_by : (n : ℕ) (b : Bool) → (nat_le 17 n && nat_le n 22) ≡ b → answer_of n ≢ 0 → IsFault n
fault_by n b h0 h1 = grind (arith, common_steps, and_parts, leb-true)

pub fault_from : (n : ℕ) → answer_of n ≢ 0 → IsFault n
fault_from n some = fault_by n (nat_le 17 n && nat_le n 22) refl some

-- so the numbers stand for a refusal
abbrev IsRefused : ℕ → ℕ → Type 0
IsRefused n chunk = (f : StreamFault) × (reader_status n chunk ≡ Some (Failed f))

refused_at : (k chunk : ℕ) → k ≤ 5 → IsRefused (17 + k) chunk
refused_at zero chunk le = (record { kind = ChunkDamaged; chunk = chunk }, refl)
refused_at (suc zero) chunk le = (record { kind = ChunkCut; chunk = chunk }, refl)
refused_at (suc (suc zero)) chunk le = (record { kind = EmptyLast; chunk = chunk }, refl)
refused_at (suc (suc (suc zero))) chunk le = (record { kind = Truncated; chunk = chunk }, refl)
refused_at (suc (suc (suc (suc zero)))) chunk le = (record { kind = Trailing; chunk = chunk }, refl)
refused_at (suc (suc (suc (suc (suc zero))))) chunk le = (record { kind = TooManyChunks; chunk = chunk }, refl)
refused_at (suc (suc (suc (suc (suc (suc k)))))) chunk le = absurd (omega arith)

pub refused_of : (n chunk : ℕ) → answer_of n ≢ 0 → IsRefused n chunk
refused_of n chunk some =
    let fault = fault_from n some in
    let is : 17 + (n - 17) ≡ n = omega (arith, fault.least) in
    subst (λ (m : ℕ). IsRefused m chunk) is (refused_at (n - 17) chunk (omega (arith, fault.most)))

-- ---- Segments.

abbrev pub Timely : Segment → Type 0
Timely s = s.ended ≡ false → s.late ≡ false

timely_by : (a : ℕ) (b : List ℕ) (ended late : Bool) (piece : List ℕ) → (ended ≡ false → late ≡ false)
    → Timely (with_piece (record { start = a; bytes = b; ended = ended; late = late }) piece)
timely_by a b true late piece h e = absurd (false≢true (sym e))
timely_by a b false late piece h e = h refl

pub timely_piece : (s : Segment) (piece : List ℕ) → Timely s → Timely (with_piece s piece)
timely_piece s piece h = timely_by s.start s.bytes s.ended s.late piece h

module _ (op : List ℕ → List ℕ → Option (List ℕ)) (m : ℕ) (f : StreamFault) where
  -- the segment is refused
  record IsFailed (s : Segment) : Type 0 where
    pub timely : Timely s
    pub is : (outcome op m s).status ≡ Failed f

  shut : (status : Status) → status ≡ Failed f → status ≢ Open
  shut status is still = cc

  piece_stays : (s : Segment) (piece : List ℕ) → IsFailed s → IsFailed (with_piece s piece)
  piece_stays s piece h = record {
    timely = timely_piece s piece h.timely;
    is = ((closed_stays op m s h.timely (shut (outcome op m s).status h.is)).0 piece).fault f h.is;
  }

  end_stays : (s : Segment) → IsFailed s → IsFailed (with_end s)
  end_stays s h = grind (arith, common_steps, closed_stays, false≢true, shut)

  given_stays : (is_end : Bool) (bytes : List ℕ) (s : Segment) → IsFailed s → IsFailed (if is_end then after_end bytes s else after_block bytes s)
  given_stays true bytes s h = end_stays (with_piece s bytes) (piece_stays s bytes h)
  given_stays false bytes s h = piece_stays s bytes h

  either : (b : Bool) (s t : Segment) → IsFailed s → IsFailed t → IsFailed (if b then s else t)
  either true s t h g = h
  either false s t h g = g

  next_stays : {State : Type 0} (c : Call State) (s : Segment) → IsFailed s → IsFailed (next c s)
  next_stays c s h = either (c.answer == misused) s (if c.is_end then after_end c.bytes s else after_block c.bytes s) h
      (given_stays c.is_end c.bytes s h)

  stays : {State : Type 0} (calls : List (Call State)) (s : Segment) → IsFailed s → IsFailed (segment_from s calls)
  stays [] s h = h
  stays (c ∷ calls) s h = stays calls (next c s) (next_stays c s h)

-- ---- What is known of each call.

-- ---- Every element.

-- ---- What is left of a text.

-- what is left of a text after this many bytes
rest_of : (n : ℕ) (text : List ℕ) → n ≤ length text → (more rest : List ℕ) → (take n text ++ more) ++ rest ≡ text → more ++ rest ≡ drop n text
rest_of n text within more rest e = grind (arith, common_steps, append_assoc, drop_at, length-take)

rest_all : (n : ℕ) (text more : List ℕ) → take n text ++ more ≡ text → n ≤ length text → more ≡ drop n text
rest_all n text more e within = sym (append-nil more) ∙ rest_of n text within more [] (append-nil (take n text ++ more) ∙ e)

-- past its end nothing is left
rest_prefix : (n : ℕ) (text more : List ℕ) → IsPrefixOf (take n text ++ more) text → IsPrefixOf more (drop n text)
rest_prefix n text more p = grind (arith, common_steps, cases_lt, length-append, length-take, nil_from_length, rest_of)

module _ {State : Type 0} (reader : State → Reader) where
  -- of a call before which one segment was given, and another after it, under this key of the payload
  record IsKnown (k : List ℕ) (c : Call State) (was now : Segment) : Type 0 where
    pub timely : Timely now
    pub status : reader_status (reader c.after).state (reader c.after).fault_chunk ≡ Some (outcome (opens k) chunk_length now).status
    pub start : now.start ≡ was.start
    pub text : released (opens k) chunk_length now ≡ released (opens k) chunk_length was ++ c.text
    pub answer : c.answer ≢ misused → c.answer ≡ answer_of (reader c.after).state
    pub done : c.is_end ≡ true → c.answer ≡ 0 → (reader c.after).state ≡ 3

  module _ (k : List ℕ) (c : Call State) (s : Segment) where
    known_misused : c.answer ≡ misused → c.text ≡ [] → Timely s
        → reader_status (reader c.after).state (reader c.after).fault_chunk ≡ Some (outcome (opens k) chunk_length s).status → IsKnown k c s (next c s)
    known_misused is none timely status = grind (arith, common_steps, append-nil, misused_next)

    known_taken : c.answer ≢ misused → Timely (after_call c s)
        → reader_status (reader c.after).state (reader c.after).fault_chunk ≡ Some (outcome (opens k) chunk_length (after_call c s)).status
        → released (opens k) chunk_length (after_call c s) ≡ released (opens k) chunk_length s ++ c.text
        → c.answer ≡ answer_of (reader c.after).state → (c.is_end ≡ true → c.answer ≡ 0 → (reader c.after).state ≡ 3) → IsKnown k c s (next c s)
    known_taken other timely status text answer done = grind (arith, common_steps, start_given, taken_next)

  -- of calls one after the other, from a segment on
  abbrev AreKnown : List ℕ → Segment → List (Call State) → Type 0
  AreKnown k s [] = Unit {0}
  AreKnown k s (c ∷ calls) = IsKnown k c s (next c s) × AreKnown k (next c s) calls

  start_after : (k : List ℕ) (calls : List (Call State)) (s : Segment) → AreKnown k s calls → (segment_from s calls).start ≡ s.start
  start_after k [] s known = refl
  start_after k (c ∷ calls) s known = start_after k calls (next c s) known.1 ∙ known.0.start

  text_after : (k : List ℕ) (calls : List (Call State)) (s : Segment) → AreKnown k s calls
      → released (opens k) chunk_length (segment_from s calls) ≡ released (opens k) chunk_length s ++ texts_of calls
  text_after k [] s known = sym (append-nil (released (opens k) chunk_length s))
  text_after k (c ∷ calls) s known =
      text_after k calls (next c s) known.1 ∙ (ap (λ (t : List ℕ). t ++ texts_of calls) known.0.text
      ∙ append_assoc (released (opens k) chunk_length s) c.text (texts_of calls))

  -- an end that answers 0 is done
  done_after : (k : List ℕ) (before : List (Call State)) (last : Call State) (s : Segment) → AreKnown k s (before ++ last ∷ []) → last.is_end ≡ true
      → last.answer ≡ 0 → (outcome (opens k) chunk_length (segment_from s (before ++ last ∷ []))).status ≡ Done
  done_after k [] last s known is_end ok =
      some_is (sym known.0.status ∙ ap (λ (n : ℕ). reader_status n (reader last.after).fault_chunk) (known.0.done is_end ok))
  done_after k (c ∷ before) last s known is_end ok = done_after k before last (next c s) known.1 is_end ok

  -- of a call among others: its answer, and that all of them have its fault
  record IsOneOf (k : List ℕ) (whole : Segment) (c : Call State) : Type 0 where
    pub answer : c.answer ≢ misused → c.answer ≡ answer_of (reader c.after).state
    pub fault : (f : StreamFault) → reader_status (reader c.after).state (reader c.after).fault_chunk ≡ Some (Failed f)
        → (outcome (opens k) chunk_length whole).status ≡ Failed f

  each_of : (k : List ℕ) (calls : List (Call State)) (s : Segment) → AreKnown k s calls → AllByRecursion (IsOneOf k (segment_from s calls)) calls
  each_of k [] s known = tt
  each_of k (c ∷ calls) s known = (
    record {
      answer = known.0.answer;
      fault = λ f is. (stays (opens k) chunk_length f calls (next c s)
          (record { timely = known.0.timely; is = some_is (sym known.0.status ∙ is) })).is;
    },
    each_of k calls (next c s) known.1,
  )

  -- a call that was refused refuses all
  refused_whole : (k : List ℕ) (whole : Segment) (c : Call State) → IsOneOf k whole c → c.answer ≢ misused → c.answer ≢ 0
      → (f : StreamFault) × ((outcome (opens k) chunk_length whole).status ≡ Failed f)
  refused_whole k whole c one other some =
      let refused = refused_of (reader c.after).state (reader c.after).fault_chunk (λ zero. some (one.answer other ∙ zero)) in
      (refused.0, one.fault refused.0 refused.1)

  -- and its number is its answer
  refused_state : (k : List ℕ) (whole : Segment) (c : Call State) → IsOneOf k whole c → c.answer ≢ misused → c.answer ≢ 0 → (reader c.after).state ≡ c.answer
  refused_state k whole c one other some = grind (arith, common_steps, fault_from)

  -- what any calls do to the text, of blocks or of pieces
  module _ (r : Reader) (start : ℕ) (limit : start < chunk_limit) (calls : List (Call State)) (text : List ℕ) (few : chunk_count chunk_length text ≤ chunk_limit)
      (known : AreKnown (key_of r) (fresh start) calls) where
    abbrev k : List ℕ
    k = key_of r

    abbrev s : Segment
    s = given_by start calls

    abbrev status : Status
    status = (outcome (opens k) chunk_length s).status

    abbrev there : List ℕ
    there = drop (start * chunk_length) text

    start_is : s.start ≡ start
    start_is = start_after k calls (fresh start) known

    one_of : AllByRecursion (IsOneOf k s) calls
    one_of = each_of k calls (fresh start) known

    abbrev Right : Type 0
    Right = IsRight (seals k) (opens k) chunk_length text (IsRest (seals k) (opens k) chunk_length text s) s
        (take (s.start * chunk_length) text ++ reader_text r s) status

    right : AreCallsAuthentic reader r text start calls → Right
    right authentic =
        let positive : 0 < chunk_length = omega arith in
        released_is_written (seals k) (opens k) (box_valid k) chunk_length positive s text few (omega (arith, start_is, limit)) authentic

    -- what was released, after the text before that chunk
    written : take (s.start * chunk_length) text ++ reader_text r s ≡ take (start * chunk_length) text ++ texts_of calls
    written = grind (arith, common_steps, fresh_outcome, start_is, text_after)

    begins : AreCallsAuthentic reader r text start calls → IsPrefixOf (texts_of calls) there
    begins authentic = grind (arith, common_steps, rest_prefix, right, written)

    all_there : (right : Right) → status ≡ Done → (texts_of calls ≡ there) × (start * chunk_length ≤ length text)
    all_there right done = grind (arith, common_steps, rest_all, start_is, written)

    all_written : AreCallsAuthentic reader r text start calls → (before : List (Call State)) (last : Call State)
        → calls ≡ before ++ last ∷ [] → last.is_end ≡ true → last.answer ≡ 0 → (texts_of calls ≡ there) × (start * chunk_length ≤ length text)
    all_written authentic before last parts is_end ok = grind (arith, common_steps, all_there, done_after, right)

    -- ---- the undamaged payload

    zero_by : status ≡ Done → (c : Call State) → IsOneOf k s c → ((c.answer == 0) ≡ true) × (c.answer ≡ 0) ⊎ ((c.answer == 0) ≡ false) × (c.answer ≢ 0)
        → c.answer ≢ misused → c.answer ≡ 0
    zero_by h0 c h1 h2 h3 = grind (arith, common_steps, refused_whole)

    undamaged : HasUnambiguousEnd (seals k) (opens k) chunk_length text → start < chunk_count chunk_length text
        → AreUndamaged reader r text start calls → (texts_of calls ≡ there) × AllAnswer 0 calls
    undamaged closed below are_whole =
        let positive : 0 < chunk_length = omega arith in
        let rest : IsRest (seals k) (opens k) chunk_length text s = record {
          below = omega (arith, start_is, below);
          bytes = ap (λ (s : Segment). s.bytes) are_whole
              ∙ sym (ap (λ (n : ℕ). drop (n * block_length) (payload (seals k) chunk_length text)) start_is);
          ended = ap (λ (s : Segment). s.ended) are_whole;
          timely = ap (λ (s : Segment). s.late) are_whole;
        } in
        let sealable : IsSealable (seals k) (opens k) chunk_length text =
        record { valid = box_valid k; some = positive; few = few; closed = closed } in
        let authentic = rest_is_authentic (seals k) (opens k) chunk_length text sealable s rest in
        let right = right authentic in
        let done = (right.whole rest).1 in (
          (all_there right done).0,
          all_map (IsOneOf k s) (λ (c : Call State). c.answer ≢ misused → c.answer ≡ 0) (λ c is. zero_by done c is (eqb_tells c.answer 0)) calls one_of,
        )

    -- ---- what refusals say

    damaged_at : AreCallsAuthentic reader r text start calls → (c : Call State) → IsOneOf k s c → c.answer ≡ 17
        → IsFirstWrong (seals k) chunk_length text s (reader c.after).fault_chunk
    damaged_at authentic c is seventeen =
        let state = refused_state k s c is (λ e. omega (arith, e, seventeen)) (λ e. omega (arith, e, seventeen)) ∙ seventeen in
        (right authentic).place.damaged (reader c.after).fault_chunk (is.fault (record { kind = ChunkDamaged; chunk = (reader c.after).fault_chunk })
        (ap (λ (n : ℕ). reader_status n (reader c.after).fault_chunk) state))

    never_many : AreCallsAuthentic reader r text start calls → (c : Call State) → IsOneOf k s c → c.answer ≢ 22
    never_many authentic c is many =
        let state = refused_state k s c is (λ e. omega (arith, e, many)) (λ e. omega (arith, e, many)) ∙ many in
        (right authentic).place.few (reader c.after).fault_chunk (is.fault (record { kind = TooManyChunks; chunk = (reader c.after).fault_chunk })
        (ap (λ (n : ℕ). reader_status n (reader c.after).fault_chunk) state))

    text_right : IsTextRight reader r text start calls
    text_right = record {
      prefix = begins;
      done = all_written;
      whole = undamaged;
      damaged = λ authentic. all_map (IsOneOf k s) _ (damaged_at authentic) calls one_of;
      few = λ authentic. all_map (IsOneOf k s) _ (never_many authentic) calls one_of;
    }

  -- ---- Calls of a reader, or of what has one: it stands at the status of what it was given.

  module _ (Is : State → Segment → Type 0) (timely : (r : State) (s : Segment) → Is r s → Timely s)
      (stands : (r : State) (s : Segment) → Is r s
      → reader_status (reader r).state (reader r).fault_chunk ≡ Some (outcome (opens (key_of (reader r))) chunk_length s).status) where
    stands_by : (k : List ℕ) (r : State) (s : Segment) → key_of (reader r) ≡ k → Is r s
        → reader_status (reader r).state (reader r).fault_chunk ≡ Some (outcome (opens k) chunk_length s).status
    stands_by k r s key is = stands r s is ∙ ap (λ (k : List ℕ). Some (outcome (opens k) chunk_length s).status) key

    calls_known : (k : List ℕ) (calls : List (Call State)) (r : State) (s : Segment) → key_of (reader r) ≡ k → Is r s → AreCalls reader Is r calls → AreKnown k s calls
    calls_known k [] r s key at are = tt
    calls_known k (c ∷ calls) r s key at (inl idle, are) =
        let here : Is c.after s = subst (λ (r : State). Is r s) (sym idle.1) at in
        let same : key_of (reader c.after) ≡ k = ap (λ (r : State). key_of (reader r)) idle.1 ∙ key in (
          known_misused k c s idle.0 idle.2 (timely c.after s here) (stands_by k c.after s same here),
          calls_known k calls c.after (next c s) same (subst (Is c.after) (sym (misused_next c s idle.0)) here) are,
        )
    calls_known k (c ∷ calls) r s key at (inr taken, are) =
        let takes = taken.1 in
        let now = after_call c s in
        let here : Is c.after now = takes.at s at in
        let same : key_of (reader c.after) ≡ k = key_same (reader r) (reader c.after) takes.same ∙ key in (
          known_taken k c s taken.0 (timely c.after now here) (stands_by k c.after now same here)
              (subst (λ (k : List ℕ). released (opens k) chunk_length now ≡ released (opens k) chunk_length s ++ c.text) key
              (takes.released s at)) takes.answer_is taken.2,
          calls_known k calls c.after (next c s) same (subst (Is c.after) (sym (taken_next c s taken.0)) here) are,
        )

    pub any_calls : (r : State) (start : ℕ) → Is r (fresh start) → start < chunk_limit → (calls : List (Call State)) → AreCalls reader Is r calls
        → (text : List ℕ) → chunk_count chunk_length text ≤ chunk_limit → IsTextRight reader (reader r) text start calls
    any_calls r start is limit calls are text few =
        text_right (reader r) start limit calls text few (calls_known (key_of (reader r)) calls r (fresh start) refl is are)

pub calls_are_written : CallsAreWritten
calls_are_written r start h limit calls are text few =
    any_calls (λ r. r) IsAt (λ r s at. at.timely) (λ r s at. at.status) r start h limit calls are text few

-- ---- Seeks.

pub same_file : (a b c : Reader) → SameFile a b → SameFile b c → SameFile a c
same_file a b c x y = grind (arith, common_steps)

same_call : (r : Reader) (c : Call Reader) → IsCall (λ r. r) IsAt r c → SameFile r c.after
same_call r c (inl idle) = subst (SameFile r) (sym idle.1) (unchanged r)
same_call r c (inr taken) = taken.1.same

same_calls : (calls : List (Call Reader)) (r : Reader) → AreCalls (λ r. r) IsAt r calls → SameFile r (last_reader r calls)
same_calls [] r are = unchanged r
same_calls (c ∷ calls) r are = same_file r c.after (last_reader c.after calls) (same_call r c are.0) (same_calls calls c.after are.1)

-- parts from a reader of the same file on
parts_from : (first r : Reader) (parts : List Part) → SameFile first r → AreParts r parts
    → (text : List ℕ) → chunk_count chunk_length text ≤ chunk_limit
    → AllByRecursion (λ (p : Part). SameFile first p.begun × IsTextRight (λ r. r) p.begun text p.chunk p.calls) parts
parts_from first r [] same are text few = tt
parts_from first r (p ∷ parts) same are text few =
    let here = same_file first r p.begun same are.1.same in (
      (here, calls_are_written p.begun p.chunk are.1.at are.0 p.calls are.2 text few),
      parts_from first (last_reader p.begun p.calls) parts
          (same_file first p.begun (last_reader p.begun p.calls) here (same_calls p.calls p.begun are.2)) are.3 text few,
    )

pub parts_are_written : PartsAreWritten
parts_are_written r parts are text few = parts_from r r parts (unchanged r) are text few

pub goes_open : (chunk : ℕ) (old new : Reader) → GoesTo chunk old new → reader_status new.state new.fault_chunk ≡ Some Open
goes_open chunk old new g =
    g.at.status ∙ ap (λ (o : Outcome). Some o.status) (fresh_outcome (opens (payload_key new.file_key new.nonce)) chunk_length chunk)

pub goes_there : (chunk : ℕ) (old new : Reader) → GoesTo chunk old new → new.chunk ≡ chunk
goes_there chunk old new g =
    g.at.index ∙ ap (λ (o : Outcome). o.index) (fresh_outcome (opens (payload_key new.file_key new.nonce)) chunk_length chunk)

pub goes_usable : (chunk : ℕ) (old new : Reader) → GoesTo chunk old new → chunk < chunk_limit → CanBeUsed new
goes_usable chunk old new g below = grind (arith, common_steps, goes_open, goes_there)

pub openings_are_parts : OpeningsAreParts
openings_are_parts old new chunk block before after answer count it other = grind (arith, common_steps, false≢true)
