-- What calls do to a decoder.
use Rattle.std.proofs.Common.{inl, inr, ◌≡◌, ◌≢◌, ℕ, zero, suc, ◌+◌, ◌-◌, ◌*◌, ◌<◌, ◌≤◌, refl, ap, ap₂, sym, subst, ◌∙◌, arith, List, [], ◌∷◌, ◌++◌, length}
use Rattle.std.proofs.Common.{take, drop}
use Rattle.std.proofs.Common.{Bool, true, false}
use Rattle.std.specs.Prelude.{Some, ◌⊎◌, ◌==◌}
use Rattle.std.proofs.lemmas.Bool.Decides.{eqb_tells}
use Rattle.std.proofs.lemmas.Bool.{false≢true}
use Rattle.std.proofs.lemmas.List.{drop-drop, drop_all, length-take, map-append, append-nil, append_assoc, length-append, take-append-drop}
use Rattle.std.proofs.lemmas.List.{take-take}
use Rattle.age_chunk.specs.{chunk_limit, chunk_length, chunk_count}
use Rattle.age_stanza.specs.{HeadText}
use Rattle.age_stanza.specs.declared.header.Header.{Header}
use Rattle.age_stanza.proofs.PlaceLemmas.{one_header}
use Rattle.age_stream.specs.{Outcome, fresh, IsPrefixOf}
use Rattle.age_stream.specs.Segment.{Segment}
use Rattle.age_c.specs.{misused, IsAt, HasFront, HeadRefuses, Moves, AreCalls, IsTextRight, texts_of, StreamMoves, held_block}
use Rattle.age_c.specs.{AnswersAreDecodeCalls, AreDecodeCalls, DecodeCall, DecodesAreWritten, DecoderIsAt, HasNoFront, IsDecodeCall, IsDecodedRight}
use Rattle.age_c.specs.{calls_in, decode_call, reader_in, wrote_all, AreHeadCalls, DecodersAreRight, HasOpened, HeadCall, IsHeadCallOn, SoughtIsRight}
use Rattle.age_c.specs.{chunk_for, Allowed, Allows, Refuses}
use Rattle.age_c.specs.{IsStarted, OpensHead, decoder_after, held_front, taken_all, taken_by}
use Rattle.age_keys.specs.{KeyFault}
use Rattle.age_c.specs.declared.decoder.Decoder.{Decoder}
use Rattle.age_c.specs.declared.start.StartFault.TheVariants.{More}
use Rattle.age_c.proofs.CallLemmas.{Timely, any_calls, timely_piece}
use Rattle.age_c.proofs.StreamLemmas.{ends_with_none, nothing_held, stream_same}

-- ---- Headers that aren't complete.

-- a header and nonce that end within the first bytes are theirs
pub front_of_first : (seen len : ℕ) (front : List ℕ) (h : Header) → HasFront front h len → len + 16 ≤ seen → HasFront (take seen front) h len
front_of_first seen len front h has le = record {
  text = subst (HeadText h) (sym (take-take len seen front (omega (arith, le)))) has.text;
  within = omega (arith, le, has.within, length-take seen front);
}

-- bytes in which a header is looked for in vain have none, if the first of them have none
pub none_later : (seen : ℕ) (front : List ℕ) → ((h : Header) (len : ℕ) → HasFront front h len → len + 16 ≤ seen)
    → HasNoFront (take seen front) → HasNoFront front
none_later seen front later none h len has = none h len (front_of_first seen len front h has (later h len has))

-- nor have bytes of which more are needed
pub none_of_more : (front : List ℕ) → HeadRefuses front More → HasNoFront front
none_of_more front (inl none) h len has =
    absurd (none.1 (h, take len front, drop len front, has.text, sym (take-append-drop len front)))
none_of_more front (inr short) h len has =
    let k = short.0 in
    let n = short.1 in
    let head = short.2 in
    let one = one_header h k (take len front) (take n front) (drop len front) (drop n front) has.text.spells head.text.spells
    (take-append-drop len front ∙ sym (take-append-drop n front)) in
    absurd (omega (arith, ap length one.1, length-take len front, length-take n front, has.within, head.within, short.3))

-- ---- What is left out before a place.

pub drop_parts : (k : ℕ) (t u : List ℕ) → drop k (t ++ u) ≡ drop k t ++ drop (k - length t) u
drop_parts zero t u = ap (λ (n : ℕ). t ++ drop n u) (let none : 0 ≡ 0 - length t = omega arith in none)
drop_parts (suc k) [] u = ap (λ (n : ℕ). drop n u) (let same : suc k ≡ suc k - 0 = omega arith in same)
drop_parts (suc k) (x ∷ t) u =
    drop_parts k t u ∙ ap (λ (n : ℕ). drop k t ++ drop n u) (let same : k - length t ≡ suc k - suc (length t) = omega arith in same)

-- ---- A list of calls.

-- what they wrote is what was released, from the place on
all_wrote : (calls : List DecodeCall) (d : Decoder) → AreDecodeCalls d calls → wrote_all calls ≡ drop d.skip (texts_of (calls_in calls))
all_wrote [] d are = sym (drop_all d.skip [] (omega arith))
all_wrote (c ∷ calls) d are =
    let texts = texts_of (calls_in calls) in
    ap₂ (λ (a b : List ℕ). a ++ b) are.0.wrote_is (all_wrote calls c.call.after are.1 ∙ ap (λ (n : ℕ). drop n texts) are.0.skip_is)
    ∙ sym (drop_parts d.skip c.call.text texts)

are_calls : (calls : List DecodeCall) (d : Decoder) → AreDecodeCalls d calls → AreCalls reader_in DecoderIsAt d (calls_in calls)
are_calls [] d are = tt
are_calls (c ∷ calls) d are = (are.0.is_call, are_calls calls c.call.after are.1)

module _ (d : Decoder) (start place : ℕ) (at : IsAt d.stream.reader (fresh start)) (empty : d.stream.held ≡ 0)
    (place_is : start * chunk_length + d.skip ≡ place) (limit : start < chunk_limit) (calls : List DecodeCall)
    (are : AreDecodeCalls d calls) (text : List ℕ) (few : chunk_count chunk_length text ≤ chunk_limit) where
  right : IsTextRight reader_in (reader_in d) text start (calls_in calls)
  right = any_calls reader_in DecoderIsAt (λ d g h. subst Timely (sym h.given) (timely_piece h.blocks (held_block d.stream) h.at.timely))
      (λ d g h. h.at.status ∙ ap (λ (o : Outcome). Some o.status) (sym (stream_same d.stream g h))) d start
      (nothing_held d.stream (fresh start) empty at) limit (calls_in calls) (are_calls calls d are) text few

  abbrev texts : List ℕ
  texts = texts_of (calls_in calls)

  -- the plaintext from the place on
  there : drop d.skip (drop (start * chunk_length) text) ≡ drop place text
  there = drop-drop d.skip (start * chunk_length) text ∙ ap (λ (n : ℕ). drop n text) place_is

  prefix_there : IsPrefixOf texts (drop (start * chunk_length) text) → IsPrefixOf (wrote_all calls) (drop place text)
  prefix_there p =
      let rest = drop (d.skip - length texts) p.0 in
      (rest, ap (λ (t : List ℕ). t ++ rest) (all_wrote calls d are) ∙ (sym (drop_parts d.skip texts p.0) ∙ (ap (drop d.skip) p.1 ∙ there)))

  decoded_right : IsDecodedRight d text start place calls
  decoded_right = record {
    prefix = λ authentic. prefix_there (right.prefix authentic);
    whole = λ closed below undamaged.
        let all = right.whole closed below undamaged in
        (all_wrote calls d are ∙ (ap (drop d.skip) all.0 ∙ there), all.1);
    done = λ authentic before last parts is_end ok.
        let split : calls_in calls ≡ calls_in before ++ last.call ∷ [] =
        ap calls_in parts ∙ map-append (λ (c : DecodeCall). c.call) before (last ∷ []) in
        all_wrote calls d are ∙ (ap (drop d.skip) (right.done authentic (calls_in before) last.call split is_end ok).0 ∙ there);
  }

pub decodes_are_written : DecodesAreWritten
decodes_are_written d start place at empty place_is limit calls are text few =
    decoded_right d start place at empty place_is limit calls are text few

-- ---- Answers are calls.

-- what the stream did, the decoder did
in_decoder : (after : Segment → Segment) (old new : Decoder) (answer : ℕ) (text : List ℕ) → StreamMoves after old.stream answer text new.stream
    → Moves reader_in DecoderIsAt after old answer text new
in_decoder after old new answer text moves = record {
  at = moves.at;
  released = moves.released;
  same = moves.same;
  answer_is = moves.answer_is;
  nothing = moves.nothing;
}

-- a call that was misused
idle_call : (is_end : Bool) (bytes wrote : List ℕ) (old new : Decoder) (answer : ℕ) → answer ≡ misused → new ≡ old → wrote ≡ []
    → IsDecodeCall old (decode_call is_end bytes answer [] wrote new)
idle_call is_end bytes wrote old new answer is same none = record {
  is_call = inl (is, same, refl);
  wrote_is = none ∙ sym (drop_all old.skip [] (omega arith));
  skip_is = ap (λ (d : Decoder). d.skip) same ∙ (let none : old.skip ≡ old.skip - 0 = omega arith in none);
}

pub answers_are_decode_calls : AnswersAreDecodeCalls
answers_are_decode_calls old new piece before after answer taken written = (
  λ it other. record {
    is_call = inr (other, in_decoder _ old new answer it.text it.does.moves, λ is. absurd (false≢true is));
    wrote_is = it.wrote;
    skip_is = it.skip_is;
  },
  λ it other. record {
    is_call = inr (other, in_decoder _ old new answer it.text (ends_with_none old.stream answer it.text new.stream it.does.moves), λ _ zero. it.does.done zero);
    wrote_is = it.wrote;
    skip_is = it.skip_is;
  },
  λ is_end bytes is same zero. idle_call is_end bytes (take written after) old new answer is same (ap (λ (n : ℕ). take n after) zero),
)

-- ---- Since a decoder was begun.

-- what a decoder that was given these bytes stands for, and holds
data Stand (Gives : Header → List ℕ → Type 0) (d : Decoder) (held given : List ℕ) : Type 0 where
  waiting : d.open ≡ 0 → d.fault ≡ 0 → held ≡ given → HasNoFront held → Stand Gives d held given
  refused : d.open ≡ 0 → d.fault ≢ 0 → Stand Gives d held given
  opened : d.open ≢ 0 → HasOpened Gives given d → Stand Gives d held given

abbrev pub Case : ℕ → ℕ → Type 0
Case n k = ((n == k) ≡ true) × (n ≡ k) ⊎ ((n == k) ≡ false) × (n ≢ k)

module _ (Fits : Type 0) (Gives : Header → List ℕ → Type 0) (Refused : Header → KeyFault → Type 0) where
  -- a call that was misused changes nothing
  pub misused_next : (d : Decoder) (held given : List ℕ) (c : HeadCall) → held_front d c.front ≡ held → IsHeadCallOn Fits Gives Refused d c
      → c.answer ≡ misused → (c.after ≡ d) × (held_front c.after c.front_after ≡ held) × (given ++ taken_by c ≡ given)
  misused_next d held given c is it misuse =
      let none : taken_by c ≡ [] = ap (λ (n : ℕ). take n c.piece) (it.none (λ ok. omega (arith, ok, misuse))) in
      let same = it.idle misuse in (
        same,
        ap (λ (d : Decoder). held_front d c.front_after) same ∙ (it.kept ∙ is),
        ap (λ (t : List ℕ). given ++ t) none ∙ append-nil given,
      )

  -- nor does it wait for less after one that didn't open a header
  pub waits_next : (d : Decoder) (held : List ℕ) (c : HeadCall) → held_front d c.front ≡ held → IsHeadCallOn Fits Gives Refused d c
      → HasNoFront held → c.answer ≢ misused → c.answer ≡ 0 → c.after.open ≡ 0
      → (c.after.open ≡ 0) × (c.after.fault ≡ 0) × (held_front c.after c.front_after ≡ held ++ taken_by c)
      × HasNoFront (held_front c.after c.front_after)
  waits_next d held c is it none other ok shut =
      let holds = it.waits ok shut in
      let call = (it.meant other).1 in
      let room : d.held ≤ length c.front = omega (arith, call.room) in
      let waits = holds.waits
      (record { shut = call.shut; unrefused = call.unrefused; within = room; none = subst HasNoFront (sym is) none }) in
      (waits.shut, waits.unrefused, holds.holds ∙ ap (λ (h : List ℕ). h ++ taken_by c) is, waits.none)

  -- a call that was misused
  same_stand : (d : Decoder) (held given : List ℕ) (c : HeadCall) → held_front d c.front ≡ held → (it : IsHeadCallOn Fits Gives Refused d c)
      → c.answer ≡ misused → Stand Gives d held given → Stand Gives c.after (held_front c.after c.front_after) (given ++ taken_by c)
  same_stand d held given c is it misuse stand =
      let next = misused_next d held given c is it misuse in
      subst (Stand Gives c.after (held_front c.after c.front_after)) (sym next.2)
      (subst (λ (h : List ℕ). Stand Gives c.after h given) (sym next.1) (subst (λ (d : Decoder). Stand Gives d held given) (sym next.0) stand))

  -- a header that is open
  opened_by : (d : Decoder) (held : List ℕ) (c : HeadCall) → held_front d c.front ≡ held → (it : IsHeadCallOn Fits Gives Refused d c)
      → OpensHead Gives c.piece d c.front c.count c.after → HasOpened Gives (held ++ taken_by c) c.after
  opened_by d held c is it opens =
      let seen = take opens.seen c.piece in
      let s = opens.started in
      let fits : c.count ≤ opens.seen = omega (
        arith,
        s.has.within,
        s.payload_at,
        opens.ends,
        length-append (held_front d c.front) seen,
        length-take opens.seen c.piece,
      ) in
      let first : take c.count seen ≡ taken_by c = take-take c.count opens.seen c.piece fits in
      let whole : held_front d c.front ++ seen ≡ (held ++ taken_by c) ++ drop c.count seen =
      ap (λ (h : List ℕ). h ++ seen) is ∙ (ap (λ (t : List ℕ). held ++ t)
      (sym (take-append-drop c.count seen) ∙ ap (λ (t : List ℕ). t ++ drop c.count seen) first)
      ∙ sym (append_assoc held (taken_by c) (drop c.count seen))) in
      record {
        more = drop c.count seen;
        started = subst (λ (b : List ℕ). IsStarted Gives b c.after.stream.reader) whole s;
        ends = omega (
          arith,
          opens.ends,
          ap length is,
          length-append held (taken_by c),
          length-take c.count c.piece,
          opens.most,
        );
        empty = opens.empty;
        none = opens.none;
      }

  -- a call on a decoder that waits
  waiting_next : (d : Decoder) (held : List ℕ) (c : HeadCall) → held_front d c.front ≡ held → (it : IsHeadCallOn Fits Gives Refused d c)
      → HasNoFront held → c.answer ≢ misused → Case c.answer 0 → Case c.after.open 0
      → Stand Gives c.after (held_front c.after c.front_after) (held ++ taken_by c)
  waiting_next d held c is it none other (inl ok) (inl shut) =
      let waits = waits_next d held c is it none other ok.1 shut.1 in
      waiting waits.0 waits.1 waits.2 waits.3
  waiting_next d held c is it none other (inl ok) (inr some) =
      opened some.1 (opened_by d held c is it (it.opens ok.1 some.1))
  waiting_next d held c is it none other (inr some) shut =
      let refuses = it.refused some.1 other in
      refused refuses.shut (λ zero. some.1 (sym refuses.fault ∙ zero))

  one_next : (d : Decoder) (held given : List ℕ) (c : HeadCall) → held_front d c.front ≡ held → (it : IsHeadCallOn Fits Gives Refused d c)
      → Stand Gives d held given → Case c.answer misused → Stand Gives c.after (held_front c.after c.front_after) (given ++ taken_by c)
  one_next d held given c is it stand (inl misuse) = same_stand d held given c is it misuse.1 stand
  one_next d held given c is it (waiting shut unrefused same none) (inr other) =
      subst (λ (g : List ℕ). Stand Gives c.after (held_front c.after c.front_after) (g ++ taken_by c)) same
      (waiting_next d held c is it none other.1 (eqb_tells c.answer 0) (eqb_tells c.after.open 0))
  one_next d held given c is it (refused shut fault) (inr other) = absurd (fault (it.meant other.1).1.unrefused)
  one_next d held given c is it (opened some has) (inr other) = absurd (some (it.meant other.1).1.shut)

  stands : (calls : List HeadCall) (d : Decoder) (held given : List ℕ) → Stand Gives d held given → AreHeadCalls Fits Gives Refused d held calls
      → (last : List ℕ) × Stand Gives (decoder_after d calls) last (given ++ taken_all calls)
  stands [] d held given stand are = (held, subst (Stand Gives d held) (sym (append-nil given)) stand)
  stands (c ∷ calls) d held given stand are =
      let next = one_next d held given c are.0 are.1 stand (eqb_tells c.answer misused) in
      let rest = stands calls c.after (held_front c.after c.front_after) (given ++ taken_by c) next are.2 in
      (rest.0, subst (Stand Gives (decoder_after c.after calls) rest.0) (append_assoc given (taken_by c) (taken_all calls)) rest.1)

opened_of : (Gives : Header → List ℕ → Type 0) (d : Decoder) (held given : List ℕ) → Stand Gives d held given → d.open ≢ 0 → HasOpened Gives given d
opened_of Gives d held given (waiting shut unrefused same none) some = absurd (some shut)
opened_of Gives d held given (refused shut fault) some = absurd (some shut)
opened_of Gives d held given (opened is has) some = has

pub none_in_nothing : HasNoFront []
none_in_nothing h len has = absurd (omega (arith, has.within))

pub decoders_are_right : DecodersAreRight
decoders_are_right key d begun heads are some =
    let begins = begun [] in
    let stood = stands (Allowed key) (Allows key) (Refuses key) heads d [] [] (waiting begins.shut begins.unrefused refl none_in_nothing) are in
    let has = opened_of (Allows key) (decoder_after d heads) stood.0 (taken_all heads) stood.1 some in (
      has,
      λ calls are text few. decodes_are_written (decoder_after d heads) 0 0 has.started.start has.empty (omega (arith, has.none)) (omega arith) calls
          are text few,
    )

pub sought_is_right : SoughtIsRight
sought_is_right place file_len old offset new it calls are text few =
    decodes_are_written new (chunk_for old place file_len) place it.goes.at it.empty it.place_is it.within calls are text few
