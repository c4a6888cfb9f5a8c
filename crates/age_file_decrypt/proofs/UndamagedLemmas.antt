-- What can't stop the decryption of an age file that is undamaged, and what it writes.
use Rattle.std.proofs.lemmas.Grind.{common_steps}
use Rattle.std.proofs.Common.{inl, inr, ◌≡◌, ℕ, ◌+◌, ◌*◌, ◌<◌, ◌≤◌, List, [], ◌++◌, length, take, drop, Option, Some, refl, sym, ap, subst, ◌∙◌, arith}
use Rattle.std.proofs.Common.{append-nil, append_assoc, Bool, true, false, None, Result, Ok, Err, MatchResult}
use Rattle.std.proofs.lemmas.List.{length-append, drop_at, drop_all, length-take}
use Rattle.age_io.specs.Taken.{Appends}
use Rattle.age_io.specs.Supply.{Supply}
use Rattle.age_io.specs.{Consumes, IsAtEnd, SourceView}
use Rattle.age_stanza.specs.{HeadText, OneHeader}
use Rattle.age_stanza.specs.declared.header.Header.{Header}
use Rattle.age_fault.specs.declared.head.HeadFault.{HeadFault}
use Rattle.age_chunk.specs.{payload, chunk_count, block_length, chunk_length, chunk_limit}
use Rattle.age_chunk.specs.declared.fault.StreamFault.{StreamFault}
use Rattle.age_chunk.specs.declared.fault.StreamKind.TheVariants.{Truncated}
use Rattle.age_stream.specs.{outcome, IsAuthentic, IsRest, HasUnambiguousEnd}
use Rattle.age_stream.specs.declared.step.Status.TheVariants.{Open, Failed, Done as AllDone}
use Rattle.age_stream.specs.Segment.{Segment}
use Rattle.age_stream.proofs.LawLemmas.{closed_stays}
use Rattle.age_stream.proofs.SegmentLemmas.{segment_right as released_is_written}
use Rattle.age_stream.proofs.ReplayLemmas.{rest_is_right as rest_is_authentic}
use Rattle.age_keys.specs.{IsMacOf, payload_key, Refuses, RefusesKey, box, unbox}
use Rattle.age_fault.specs.declared.key.KeyFault.{KeyFault}
use Rattle.age_fault.specs.declared.key.KeyFault.TheVariants.{Memory as KeyMemory}
use Rattle.age_keys.specs.inner.{box_valid}
use Rattle.age_fault.specs.declared.fault.FileFault.{FileFault}
use Rattle.age_fault.specs.declared.fault.FileFault.TheVariants.{Head, Key, NonceCut, Stream, Read, Write, Memory, ReadNeverEnds, OtherFile, ShortText}
use Rattle.age_fault.specs.declared.fault.FileFault.TheVariants.{PositionForged, OldTextDiffers}
use Rattle.age_file_input.specs.{Ports, IsHeadFault}
use Rattle.age_file_decrypt.specs.Runs.{Run, run_outcome, IsRun, PayloadFails, IsDone, Reads, OpenedFile}
use Rattle.age_file_decrypt.specs.Decrypts.{StartFails, IsWhole, WritesText, StopsOutside, DecryptAnswers, IsUndamagedFile}
use Rattle.age_file_decrypt.specs.Resumes.{from_either, Resumption, WritesOld, IsUndamagedRest, BeforeOldFails, InOldFails, InSkippedFails, StopsInSkipped}
use Rattle.age_file_decrypt.specs.InARow.{IsUndamagedFrom}
use Rattle.age_file_position.specs.{chain}
use Rattle.age_file_decrypt.specs.declared.decryption.Stopped.{Stopped}
use Rattle.age_file_position.specs.declared.position.PositionPolicy.{PositionPolicy}
use Rattle.age_file_decrypt.specs.declared.decryption.Done.{Done}
use Rattle.age_file_decrypt.specs.inner.{segment}
use Rattle.age_file_input.proofs.ReadLemmas.{fault_of_all, left_of, none_left, same_front}
use Rattle.age_stanza.proofs.PlaceLemmas.{three_parts}
use Rattle.age_file_decrypt.proofs.RunLemmas.{writes_all, none_before, begins_fits}
use Rattle.std.specs.Simd.{first_chunks}
use Rattle.age_chunk.proofs.{first_chunks-append}

-- ---- What can't stop the decryption of an age file that is undamaged.

-- a key whose MAC is the header's is refused only if memory runs out
pub for_memory : (h : Header) (key : List ℕ) (fault : KeyFault) → IsMacOf h key → RefusesKey h key fault → fault ≡ KeyMemory
for_memory h key fault h0 h1 = grind (arith, common_steps)

-- an end without bytes
no_bytes : (op : List ℕ → List ℕ → Option (List ℕ)) (k : ℕ) → (outcome op chunk_length (segment k [] true)).status
    ≡ Failed (record { kind = Truncated; chunk = k + 0 })
unfolding outcome
no_bytes op k = refl

-- a segment that failed stays so with more bytes and an end
failed_stays : (op : List ℕ → List ℕ → Option (List ℕ)) (n k : ℕ) (bytes more : List ℕ) (ended : Bool) (fault : StreamFault)
    → (outcome op n (segment k bytes ended)).status ≡ Failed fault
    → (ended ≡ true → more ≡ []) → (outcome op n (segment k (bytes ++ more) true)).status ≡ Failed fault
failed_stays op n k bytes more true fault e none = rw (none refl, append-nil bytes) e
failed_stays op n k bytes more false fault e none =
    let s = segment k bytes false in
    let shut : (outcome op n s).status ≡ Open → ⊥ = λ o. let clash : Open ≡ Failed fault = sym o ∙ e in cc in
    let later = ((closed_stays op n s (λ _. refl) shut).0 more).fault fault e in
    let fed = segment k (bytes ++ more) false in
    let still : (outcome op n fed).status ≡ Open → ⊥ = λ o. let clash : Open ≡ Failed fault = sym o ∙ later in cc in
    (closed_stays op n fed (λ _. refl) still).1.fault fault later

module _ (one : OneHeader) {Allows : Header → List ℕ → Type 0} {Refused : Header → KeyFault → Type 0} {coming : Supply} {text : List ℕ}
    (u : IsWhole Allows Refused coming text) where
  abbrev pub all : List ℕ
  all = payload (box u.key u.nonce) chunk_length text

  -- the payload from a chunk on
  abbrev pub rest_of : ℕ → Segment
  rest_of k = segment k (drop (k * block_length) all) true

  -- what was read of the header is the file's
  pub record IsFront (h : Header) (front behind : List ℕ) : Type 0 where
    pub header_is : h ≡ u.header
    pub front_is : front ≡ u.file.front
    pub rest_is : behind ≡ u.nonce ++ all

  fronts : (h : Header) (front behind : List ℕ) → HeadText h front → u.bytes ≡ front ++ behind → IsFront h front behind
  fronts h front behind text_is parts =
      let file = u.file in
      let e : file.front ++ (u.nonce ++ all) ≡ front ++ behind = sym (append_assoc file.front u.nonce all) ∙ (sym file.parts ∙ parts) in
      let same = one u.header h file.front front (u.nonce ++ all) behind file.head.spells text_is.spells e in
      record {
        header_is = sym same.0;
        front_is = sym same.1;
        rest_is = sym (same_front file.front front (u.nonce ++ all) behind (ap length same.1) e).1;
      }

  no_head_fault : (fault : HeadFault) → IsHeadFault u.bytes fault → ⊥
  no_head_fault fault here =
      let file = u.file in
      here.0 (
        u.header,
        file.front,
        u.nonce ++ all,
        file.head,
        file.parts ∙ append_assoc file.front u.nonce all,
      )

  no_key_fault : (after : Supply) (h : Header) (front rest : List ℕ) (fault : KeyFault) → HeadText h front → Consumes coming after (front ++ rest)
      → (fault ≡ KeyMemory → ⊥) → Refuses Allows Refused h fault → ⊥
  no_key_fault after h front rest fault text_is consumed not refuses =
      let t = left_of coming after u.bytes (front ++ rest) u.all consumed in
      let same = fronts h front (rest ++ t.0) text_is (t.1 ∙ append_assoc front rest t.0) in
      let r = subst (λ (x : Header). Refuses Allows Refused x fault) same.header_is refuses in
      elim (r.alone u.alone) [
        | inl refused ↦ not (u.never fault refused)
        | inr found ↦ not (for_memory u.header found.0 fault (subst (IsMacOf u.header) (sym (u.only found.0 found.1)) u.file.mac) found.2)
      ]

  no_nonce_cut : (after : Supply) (h : Header) (front short : List ℕ) → HeadText h front → length short < 16 → Consumes coming after (front ++ short)
      → IsAtEnd after → ⊥
  no_nonce_cut after h front short text_is lt consumed ended = grind (arith, common_steps, append_assoc, fronts, left_of, length-append, none_left)

  -- the file that was opened is this one, and what was read after its nonce is the payload's beginning
  pub record IsOpenedAs (f : OpenedFile) (behind : List ℕ) (after : Supply) : Type 0 where
    pub front_is : f.header_bytes ≡ u.file.front
    pub key_is : f.key ≡ u.key
    pub nonce_is : f.nonce ≡ u.nonce
    pub left : List ℕ
    pub left_is : after.left ≡ Some left
    pub payload_is : behind ++ left ≡ all

  pub opened_as : {after : Supply} {f : OpenedFile} {behind : List ℕ} → Reads Allows coming after f behind → IsOpenedAs f behind after
  opened_as {after} {f} {behind} r =
      let front = f.header_bytes in
      let t = left_of coming after u.bytes ((front ++ f.nonce) ++ behind) u.all r.read in
      let same = fronts f.header front (f.nonce ++ (behind ++ t.0)) r.text (t.1 ∙ three_parts front f.nonce behind t.0) in
      let both = same_front f.nonce u.nonce (behind ++ t.0) all (r.size ∙ sym u.file.size) same.rest_is in
      record {
        front_is = same.front_is;
        key_is = u.only f.key (subst (λ (x : Header). Allows x f.key) same.header_is r.opens.allowed);
        nonce_is = both.0;
        left = t.0;
        left_is = t.2;
        payload_is = both.1;
      }

  -- from a chunk of the text on, whose blocks are the writer's
  module _ (k : ℕ) (below : k < chunk_count chunk_length text) (authentic : IsAuthentic (box u.key u.nonce) (unbox u.key u.nonce) chunk_length text (rest_of k)) where
    -- the rest of the payload opens to its end
    rest_done : (outcome (unbox u.key u.nonce) chunk_length (rest_of k)).status ≡ AllDone
    rest_done =
        let valid = box_valid (payload_key u.key u.nonce) in
        let positive : 0 < chunk_length = omega arith in
        let s = rest_of k in
        let rest : IsRest (box u.key u.nonce) (unbox u.key u.nonce) chunk_length text s =
        record { below = below; bytes = refl; ended = refl; timely = refl } in
        ((released_is_written (box u.key u.nonce) (unbox u.key u.nonce) valid chunk_length positive
        s text u.few (omega (arith, below, u.few)) authentic).whole rest).1

    pub no_stream_fault : (after : Supply) (f : OpenedFile) (passed bytes : List ℕ) (ended : Bool) (fault : StreamFault)
        → IsOpenedAs f (passed ++ bytes) after → length passed ≡ k * block_length → (ended ≡ true → IsAtEnd after)
        → (outcome (unbox f.key f.nonce) chunk_length (segment k bytes ended)).status ≡ Failed fault → ⊥
    no_stream_fault after f passed bytes ended fault o size at_end failed =
        let rest : bytes ++ o.left ≡ drop (k * block_length) all = sym (drop_at passed (bytes ++ o.left) (k * block_length) size)
        ∙ ap (drop (k * block_length)) (sym (append_assoc passed bytes o.left) ∙ o.payload_is) in
        let here = rw (o.key_is, o.nonce_is) at failed in
        let stays = failed_stays (unbox u.key u.nonce) chunk_length k bytes o.left ended fault here
        (λ e. none_left after o.left o.left_is (at_end e)) in
        let clash : AllDone ≡ Failed fault = sym rest_done ∙ (rw rest at stays) in
        cc

    -- the blocks before that chunk are all there
    pub no_early_end : (after : Supply) (f : OpenedFile) (passed : List ℕ) → IsOpenedAs f passed after → length passed < k * block_length
        → IsAtEnd after → ⊥
    no_early_end after f passed o short ended = grind (arith, common_steps, drop_all, length-append, no_bytes, none_left, rest_done)

-- no fault of what is before a payload
module _ (one : OneHeader) {Allows : Header → List ℕ → Type 0} {Refused : Header → KeyFault → Type 0} (before after : SourceView) {text : List ℕ}
    (u : IsWhole Allows Refused before.supply text) where
  pub start_undamaged : (fault : FileFault) → StartFails Allows Refused before after fault → StopsOutside fault
  start_undamaged (Head x) f = absurd (no_head_fault one u x (fault_of_all before.supply after.supply u.bytes x u.all f))
  start_undamaged (Key x) f = absurd (no_key_fault one u after.supply f.0 f.1 f.2 x f.3 f.4 f.5 f.6)
  start_undamaged NonceCut f = absurd (no_nonce_cut one u after.supply f.0.0 f.0.1 f.0.3 f.0.4 f.0.6 f.0.7 f.1)
  start_undamaged Read f = tt
  start_undamaged Write f = tt
  start_undamaged Memory f = tt
  start_undamaged ReadNeverEnds f = tt
  start_undamaged other f = absurd f

-- the payload of a text from a chunk on, of which no block opens except as its writer sealed it
pub own_authentic : (key nonce text : List ℕ) → chunk_count chunk_length text ≤ chunk_limit
    → HasUnambiguousEnd (box key nonce) (unbox key nonce) chunk_length text → (k : ℕ) → k < chunk_count chunk_length text
    → IsAuthentic (box key nonce) (unbox key nonce) chunk_length text
    (segment k (drop (k * block_length) (payload (box key nonce) chunk_length text)) true)
own_authentic key nonce text few closed k below =
    rest_is_authentic (box key nonce) (unbox key nonce) chunk_length text (record {
      valid = box_valid (payload_key key nonce);
      some = omega arith;
      few = few;
      closed = closed;
    }) (segment k (drop (k * block_length) (payload (box key nonce) chunk_length text)) true)
    (record { below = below; bytes = refl; ended = refl; timely = refl })

-- a run of an undamaged file, from a chunk of its text
module _ (one : OneHeader) {Allows : Header → List ℕ → Type 0} {Refused : Header → KeyFault → Type 0} {old new : Ports} {text : List ℕ}
    (u : IsWhole Allows Refused old.source.supply text) (closed : HasUnambiguousEnd (box u.key u.nonce) (unbox u.key u.nonce) chunk_length text) {written : ℕ}
    {r : Run} (below : r.first < chunk_count chunk_length text) where
  -- opens to its end
  pub run_opens : (fault : StreamFault) → IsRun Allows old new written r → (run_outcome r).status ≡ Failed fault → ⊥
  run_opens fault is failed =
      no_stream_fault one u r.first below (own_authentic u.key u.nonce text u.few closed r.first below)
      new.source.supply r.file r.skipped r.bytes r.ended fault (opened_as one u is.reads) is.skipped_size is.at_end.0 failed

  -- so it has no fault
  pub payload_undamaged : (never : Type 0) (fault : FileFault) → IsRun Allows old new written r
      → PayloadFails never old new r fault → StopsOutside fault
  payload_undamaged never (Stream x) is f = absurd (run_opens x is f.1)
  payload_undamaged never Read is f = tt
  payload_undamaged never Write is f = tt
  payload_undamaged never ReadNeverEnds is f = tt
  payload_undamaged never other is f = absurd f

  -- and if it was read to its end, gave its text
  pub run_writes : r.copied ≡ take (r.first * chunk_length) text → IsDone Allows old new written r
      → WritesText old.sink.taken new.sink.taken written text
  run_writes old_text d =
      let is = d.is in
      let o = opened_as one u is.reads in
      let none = none_left new.source.supply o.left o.left_is (is.at_end.0 d.ended) in
      let rest : List ℕ = drop (r.first * block_length) (payload (box u.key u.nonce) chunk_length text) in
      let after : r.bytes ++ o.left ≡ rest = sym (drop_at r.skipped (r.bytes ++ o.left) (r.first * block_length) is.skipped_size)
      ∙ ap (drop (r.first * block_length)) (sym (append_assoc r.skipped r.bytes o.left) ∙ o.payload_is) in
      let bytes_are : r.bytes ≡ rest = rw (none, append-nil r.bytes) at after in
      let own = own_authentic u.key u.nonce text u.few closed r.first below in
      let whole = writes_all r (omega (arith, below, u.few)) d.whole d.done text (record {
        few = u.few;
        old_text = old_text;
        authentic = rw (o.key_is, o.nonce_is, bytes_are, d.ended) own;
      }) in (subst (λ (t : List ℕ). Appends old.sink.taken new.sink.taken t) whole is.wrote, is.count ∙ ap length whole)

-- ---- What can't stop a resumed decryption of an age file that is undamaged, after the text that it was
-- made for.

module _ (one : OneHeader) {Allows : Header → List ℕ → Type 0} {Refused : Header → KeyFault → Type 0} {e : Resumption} (old new : Ports)
    {text : List ℕ} (u : IsUndamagedRest Allows Refused e old.source.supply text) where
  abbrev file : IsWhole Allows Refused old.source.supply text
  file = u.is.whole

  -- the old text is long enough
  old_is_long : (written : ℕ) (copied : List ℕ) (w : WritesOld e old new written copied)
      → copied ≡ w.pulled → IsAtEnd e.last.supply → e.position.index * chunk_length ≤ length copied
  old_is_long written copied w whole ended = grind (arith, common_steps, left_of, length-append, length-take, none_left)

  -- and has the position's chain
  old_is_same : (written : ℕ) (copied : List ℕ) → WritesOld e old new written copied → length copied ≡ e.position.index * chunk_length
      → chain (first_chunks chunk_length e.position.index copied) ≡ e.position.chain
  old_is_same written copied w size =
      let front = w.of text u.old_text in
      sym (rw (← front.1, first_chunks-append chunk_length e.position.index copied front.0 (omega (arith, size))) at u.carries)

  -- the position is the file's, and was made under its key
  before_undamaged : (fault : FileFault) → BeforeOldFails Allows e old new Refused fault → StopsOutside fault
  before_undamaged OtherFile f = let o = opened_as one file f.1.2 in absurd (f.2 (cc (u.own, o.front_is, o.nonce_is)))
  before_undamaged PositionForged f = let o = opened_as one file f.1.2 in absurd (f.3 (cc (u.tagged, o.key_is, o.nonce_is)))
  before_undamaged other f = start_undamaged one old.source new.source file other f

  -- the old text is long enough, and the text's
  old_undamaged : (written : ℕ) (copied : List ℕ) (w : WritesOld e old new written copied) (fault : FileFault)
      → InOldFails Allows e old new w.pulled copied fault → StopsOutside fault
  old_undamaged written copied w ShortText f =
      let long = old_is_long written copied w f.1.0 f.1.1 in
      absurd (omega (arith, long, f.0))
  old_undamaged written copied w OldTextDiffers f = absurd (f.1 (old_is_same written copied w f.0))
  old_undamaged written copied w Read f = tt
  old_undamaged written copied w Write f = tt
  old_undamaged written copied w ReadNeverEnds f = tt
  old_undamaged written copied w other f = absurd f.1

  -- the blocks before the position's are all there
  skipped_undamaged : (stopped : Stopped) (s : StopsInSkipped Allows e old new stopped) (fault : FileFault)
      → InSkippedFails Allows e old new s.skipped fault → StopsOutside fault
  skipped_undamaged stopped s (Stream x) f =
      absurd (no_early_end one file e.position.index u.below (own_authentic file.key file.nonce text file.few u.is.closed e.position.index u.below)
      new.source.supply s.file s.skipped (opened_as one file s.reads) s.short f.2)
  skipped_undamaged stopped s Read f = tt
  skipped_undamaged stopped s ReadNeverEnds f = tt
  skipped_undamaged stopped s other f = absurd f

-- ---- What one call wrote of an age file that is undamaged.

module _ (one : OneHeader) (Allows : Header → List ℕ → Type 0) (Refused : Header → KeyFault → Type 0) (keep : PositionPolicy) (old new : Ports)
    (text : List ℕ) where
  abbrev Undamaged : Option Resumption → Type 0
  Undamaged from = IsUndamagedFrom Allows Refused from old.source.supply text

  abbrev the_file : (from : Option Resumption) → Undamaged from → IsUndamagedFile Allows Refused old.source.supply text
  the_file None u = u
  the_file (Some e) u = u.is

  -- a run begins with a chunk of the text, after those before it
  starts : (from : Option Resumption) → Undamaged from → (r : Run) → (from_either Allows Refused from).run r
      → (r.first < chunk_count chunk_length text) × (r.copied ≡ take (r.first * chunk_length) text)
  starts None u r begun = (omega (arith, begun.zero), none_before r begun text)
  starts (Some e) u r begun = (omega (arith, begun.index, u.below), (begins_fits text e u.old_text).taken r begun)

  stops_early : (from : Option Resumption) → Undamaged from → (s : Stopped) → (from_either Allows Refused from).early old new s → StopsOutside s.fault
  stops_early None u s f = start_undamaged one old.source new.source u.whole s.fault f.1
  stops_early (Some e) u s (inl f) = before_undamaged one old new u s.fault f.2
  stops_early (Some e) u s (inr (inl f)) = old_undamaged one old new u s.written f.copied f.writes s.fault f.why
  stops_early (Some e) u s (inr (inr f)) = skipped_undamaged one old new u s f s.fault f.why

  pub writes_text : (from : Option Resumption) (result : Result Done Stopped) (run : Option Run)
      → DecryptAnswers keep Allows (from_either Allows Refused from) old new run result → Undamaged from
      → MatchResult result (λ done. WritesText old.sink.taken new.sink.taken done.written text) (λ stopped. StopsOutside stopped.fault)
  writes_text from (Ok done) None a u = absurd a
  writes_text from (Ok done) (Some r) a u =
      let f = the_file from u in
      let at = starts from u r a.0 in
      run_writes one f.whole f.closed at.0 at.1 a.1
  writes_text from (Err s) None a u = stops_early from u s a
  writes_text from (Err s) (Some r) a u =
      let f = the_file from u in
      payload_undamaged one f.whole f.closed (starts from u r a.0).0 ((from_either Allows Refused from).never old new) s.fault a.1.is a.1.why
