-- Decrypting a payload, call by call.
use Rattle.std.proofs.lemmas.Grind.{common_steps}
use Rattle.std.proofs.Common.{◌≡◌, ℕ, ◌+◌, ◌*◌, ◌^◌, ◌<◌, ◌≤◌, sym, ap, subst, ◌∙◌, List, [], ◌++◌, length, Option, append-nil}
use Rattle.std.proofs.Common.{append_assoc, Bool, false, true, true≢false, arith, refl}
use Rattle.std.specs.Prelude.{Result, Ok, Err, ◌⊎◌, MatchResult, OnOk}
use Rattle.std.proofs.lemmas.List.{length-append}
use Rattle.age_chunk.specs.{IsChunkBox}
use Rattle.age_stream.specs.{IsPrefixOf, with_piece, outcome, released, OpenerView, has_failed}
use Rattle.age_stream.proofs.GoingLemmas.{released_grows, piece_nil}
use Rattle.age_fault.specs.declared.fault.FileFault.{FileFault}
use Rattle.age_fault.specs.declared.fault.FileFault.TheVariants.{Stream, Write, Read, ReadNeverEnds}
use Rattle.age_file_position.specs.inner.{WriterView}
use Rattle.age_file_input.specs.{ReaderView, PullFails, Pulled, Unread, reader_view, Start, Refills, NoneFailed, ReadFailed, WriteFailed, pull_room}
use Rattle.age_file_position.specs.{chain_if}
use Rattle.age_file_decrypt.specs.inner.{Stage, stage, ports_at, HasReleased, FeedsPiece, FeedFails, FeedGoes, EndsFeed, segment, DecryptsPayload, SegmentFails}
use Rattle.age_file_decrypt.specs.inner.{SegmentDone, HasCounted}
use Rattle.std.specs.Simd.{first_chunks}
use Rattle.age_io.specs.{SourceView, IsAtEnd}
use Rattle.age_file_position.specs.declared.position.PositionPolicy.{PositionPolicy}
use Rattle.age_stream.specs.declared.step.Status.TheVariants.{Failed, Done}
use Rattle.age_stream.specs.Segment.{Segment}
use Rattle.age_file_decrypt.proofs.CountLemmas.{marked}

-- ---- What flows from a source through an opener to a sink, one turn after another. A chunk has n
-- bytes.

-- why it stopped, with what was left and not written
abbrev pub FlowFails : {B : Type 0} → OpenerView B → Stage → Stage → List ℕ → List ℕ → FileFault → Type 0
FlowFails opener old new left unwritten (Stream fault) = (opener.status ≡ Failed fault) × (left ≡ []) × (unwritten ≡ [])
    × NoneFailed (ports_at old) (ports_at new)
FlowFails opener old new left unwritten Write =
    ((0 < length unwritten) ⊎ ((left ≡ []) × (opener.status ≡ Done))) × WriteFailed (ports_at old) (ports_at new)
FlowFails opener old new left unwritten Read = (left ≡ []) × (unwritten ≡ []) × (has_failed opener.status ≡ false)
    × ReadFailed (ports_at old) (ports_at new)
FlowFails opener old new left unwritten ReadNeverEnds = (left ≡ []) × (unwritten ≡ [])
    × (has_failed opener.status ≡ false) × (new.reader.unread.pulls ≡ 2 ^ 63) × NoneFailed (ports_at old) (ports_at new)
FlowFails opener old new left unwritten other = ⊥

module _ {B : Type 0} (opening : B → List ℕ → List ℕ → Option (List ℕ)) (n : ℕ) (key : B) (k : ℕ) where
  -- of what was unread and what was pulled, this much was fed, and the rest was left
  pub record Flows (o : OpenerView B) (old new : Stage) (left unwritten : List ℕ) : Type 0 where
    pub fed : List ℕ
    pub fresh : List ℕ
    pub parts : old.reader.unread.bytes ++ fresh ≡ fed ++ left
    pub released : HasReleased opening n key old.writer o new.writer (segment k fed false) unwritten
    pub pulled : (start : Start) (bytes : List ℕ) → Pulled start old.reader.source.supply old.reader.unread.pulls bytes
        → Pulled start new.reader.source.supply new.reader.unread.pulls (bytes ++ fresh)

  -- all but what is unread was fed and written, and there is room for it: few bytes for the pulls
  -- that were made
  pub record GoesOn (o : OpenerView B) (old new : Stage) : Type 0 where
    pub flows : Flows o old new new.reader.unread.bytes []
    pub sound : has_failed o.status ≡ false
    pub same : NoneFailed (ports_at old) (ports_at new)
    pub room : length o.held + new.writer.tally.written + length new.reader.unread.bytes ≤ 2 ^ 64 + pull_room * new.reader.unread.pulls
    pub most : new.reader.unread.pulls ≤ 2 ^ 63
    pub goes_on : new.reader.source.supply.is_at_end ≡ false

  -- all that the source gave was fed, up to its end
  pub record Ends (o : OpenerView B) (old new : Stage) : Type 0 where
    pub flows : Flows o old new [] []
    pub same : NoneFailed (ports_at old) (ports_at new)
    pub at_end : IsAtEnd new.reader.source.supply
    pub room : length o.held + new.writer.tally.written < 2 ^ 128

  -- it stopped before
  pub record Stops (o : OpenerView B) (old new : Stage) (fault : FileFault) : Type 0 where
    pub left : List ℕ
    pub unwritten : List ℕ
    pub flows : Flows o old new left unwritten
    pub why : FlowFails o old new left unwritten fault
    pub goes_on : new.reader.source.supply.is_at_end ≡ false

  pub begins : (o : OpenerView B) (old : Stage) → length o.held + old.writer.tally.written + length old.reader.unread.bytes
      ≤ 2 ^ 64 + pull_room * old.reader.unread.pulls → old.reader.unread.pulls ≤ 2 ^ 63 → has_failed o.status ≡ false
      → HasReleased opening n key old.writer o old.writer (segment k [] false) [] → old.reader.source.supply.is_at_end ≡ false
      → GoesOn o old old
  begins o old room most sound released goes_on = grind (arith, common_steps, append-nil)

  module _ {b : OpenerView B} (c : OpenerView B) {old : Stage} {source : SourceView} {u : Unread} (v : Unread) {was : WriterView} (now : WriterView)
      {piece : List ℕ} (is : piece ≡ u.bytes) (pulls : v.pulls ≡ u.pulls) (p : GoesOn b old (stage (reader_view source u) was)) where
    -- the bytes up to the piece that was unread are these
    fed_on : (fed left unwritten : List ℕ) → p.flows.fed ++ piece ≡ fed ++ left
        → HasReleased opening n key old.writer c now (segment k fed false) unwritten
        → Flows c old (stage (reader_view source v) now) left unwritten
    fed_on fed left unwritten parts released = grind (arith, common_steps)

    pub fed_all : v.bytes ≡ [] → FeedsPiece opening n b c was now piece (Ok tt) → FeedGoes opening n b c was now piece
        → GoesOn c old (stage (reader_view source v) now)
    fed_all used f goes =
        let fed = p.flows.fed in
        record {
          flows = subst (λ (t : List ℕ). Flows c old (stage (reader_view source v) now) t []) (sym used)
              (fed_on (fed ++ piece) [] [] (sym (append-nil (fed ++ piece))) (f key k old.writer fed p.flows.released));
          sound = goes.2;
          same = (p.same.0, goes.1 ∙ p.same.1);
          room = omega (arith, p.room, goes.0, pulls, ap length used, ap length is);
          most = omega (arith, p.most, pulls);
          goes_on = p.goes_on;
        }

    feed_fails : (left unwritten : List ℕ) (fault : FileFault) → FeedFails opening n c was now left unwritten fault
        → FlowFails c old (stage (reader_view source v) now) left unwritten fault
    feed_fails left unwritten fault h0 = grind (arith, common_steps)

    -- the piece was refused, or the sink failed
    pub feed_stops : (fault : FileFault) → FeedsPiece opening n b c was now piece (Err fault) → Stops c old (stage (reader_view source v) now) fault
    feed_stops fault f =
        let t = f key k old.writer p.flows.fed p.flows.released in
        record {
          left = t.left;
          unwritten = t.unwritten;
          flows = fed_on t.fed t.left t.unwritten t.parts t.released;
          why = feed_fails t.left t.unwritten fault t.why;
          goes_on = p.goes_on;
        }

  -- if all was fed, the next piece is pulled
  module _ {b : OpenerView B} {old : Stage} {x : ReaderView} (z : ReaderView) {now : WriterView}
      (used : x.unread.bytes ≡ []) (p : GoesOn b old (stage x now)) where
    pulled_on : (result : Result Bool FileFault) → Refills x z result → Flows b old (stage z now) z.unread.bytes []
    pulled_on result r =
        let f = p.flows in
        record {
          fed = f.fed;
          fresh = f.fresh ++ z.unread.bytes;
          parts = sym (append_assoc old.reader.unread.bytes f.fresh z.unread.bytes) ∙ ap (λ (t : List ℕ). t ++ z.unread.bytes)
              (f.parts ∙ (ap (λ (t : List ℕ). f.fed ++ t) used ∙ append-nil f.fed));
          released = f.released;
          pulled = λ start bytes h. subst (λ (t : List ℕ). Pulled start z.source.supply z.unread.pulls t) (append_assoc bytes f.fresh z.unread.bytes)
              (r.pulled start (bytes ++ f.fresh) (f.pulled start bytes h));
        }

    pub pulled_more : Refills x z (Ok true) → GoesOn b old (stage z now)
    pulled_more r =
        let h = r.answered in
        record {
          flows = pulled_on (Ok true) r;
          sound = p.sound;
          same = (h.4 ∙ p.same.0, p.same.1);
          room = omega (arith, p.room, h.1, h.3, ap length used);
          most = h.2;
          goes_on = r.end;
        }

    pub pulled_none : Refills x z (Ok false) → Ends b old (stage z now)
    pulled_none r = grind (arith, common_steps, pulled_on)

    flow_fails : (fault : FileFault) → z.unread.bytes ≡ [] → PullFails x z fault → FlowFails b old (stage z now) z.unread.bytes [] fault
    flow_fails fault h0 h1 = grind (arith, common_steps)

    pub pull_stops : (fault : FileFault) → Refills x z (Err fault) → Stops b old (stage z now) fault
    pull_stops fault r =
        record {
          left = z.unread.bytes;
          unwritten = [];
          flows = pulled_on (Err fault) r;
          why = flow_fails fault r.answered.0 r.answered.2;
          goes_on = r.end ∙ p.goes_on;
        }

-- ---- From what an opener did to the segment that it was given.

module _ (op : List ℕ → List ℕ → Option (List ℕ)) (n k : ℕ) where
  -- what was written is a beginning of the text of all bytes
  prefix_of : (fed left out unwritten : List ℕ) → released op n (segment k fed false) ≡ out ++ unwritten
      → IsPrefixOf out (released op n (segment k (fed ++ left) false))
  prefix_of fed left out unwritten e =
      let r = (released_grows op n (segment k fed false) left (λ _. refl)).0 in (
        unwritten ++ r.0,
        sym (append_assoc out unwritten r.0) ∙ (ap (λ (t : List ℕ). t ++ r.0) (sym e) ∙ r.1),
      )

  exact : (fed left out unwritten : List ℕ) → released op n (segment k fed false) ≡ out ++ unwritten → left ≡ [] → unwritten ≡ [] → out
      ≡ released op n (segment k (fed ++ left) false)
  exact fed left out unwritten e none whole = rw (none, append-nil fed, e, whole, append-nil out)

  -- what was not written of the text of some bytes was not written of the text of more bytes
  less : (fed left out unwritten : List ℕ) → released op n (segment k fed false) ≡ out ++ unwritten → 0 < length unwritten
      → length out < length (released op n (segment k (fed ++ left) false))
  less fed left out unwritten e some =
      let r = (released_grows op n (segment k fed false) left (λ _. refl)).0 in
      omega (arith, some, ap length e, length-append out unwritten, ap length r.1, length-append (released op n (segment k fed false)) r.0)

module _ {B : Type 0} (sealing : B → List ℕ → List ℕ → List ℕ) (opening : B → List ℕ → List ℕ → Option (List ℕ)) (valid : (key : B)
    → IsChunkBox (sealing key) (opening key)) (n : ℕ) (positive : 0 < n) where
  module _ (K : B) (k : ℕ) where
    -- what the tally counts at the end, after a base
    counted : {o : OpenerView B} {was now : WriterView} {s : Segment} {unwritten : List ℕ} (more : List ℕ) (last : Segment) → with_piece s more ≡ last
        → (h : HasReleased opening n K was o now s unwritten) → (keep : PositionPolicy) (base : List ℕ) → length base ≡ s.start * n
        → was.tally.index ≡ s.start → was.tally.chain ≡ chain_if keep (first_chunks n s.start base)
        → HasCounted keep (opening K) n (base ++ h.out) last now.tally
    counted {o} {was} {now} {s} {unwritten} more last is h keep base len index chain_is =
        marked (sealing K) (opening K) (valid K) n positive keep base s last more h.out unwritten now.tally is h.text (h.counts keep base len index
        chain_is)

    -- where the opener stands
    status_of : {o : OpenerView B} {was now : WriterView} {s : Segment} {unwritten : List ℕ} → HasReleased opening n K was o now s unwritten
        → o.status ≡ (outcome (opening K) n s).status
    status_of {o} {was} {now} {s} {unwritten} h = h.stands.status ∙ ap (λ x. (outcome (opening x) n s).status) h.key_is

    -- an opener that has no fault, if all was fed
    still_sound : (o : OpenerView B) (fed left : List ℕ) → left ≡ [] → o.status ≡ (outcome (opening K) n (segment k fed false)).status
        → has_failed o.status ≡ false → has_failed (outcome (opening K) n (segment k (fed ++ left) false)).status ≡ false
    still_sound o fed left none s h = rw (none, append-nil fed, ← s) h

    stop_fails : (o : OpenerView B) (old new : Stage) (fed left out unwritten : List ℕ)
        (fault : FileFault) → released (opening K) n (segment k fed false) ≡ out ++ unwritten
        → o.status ≡ (outcome (opening K) n (segment k fed false)).status → FlowFails o old new left unwritten fault
        → SegmentFails (opening K) n old new (segment k (fed ++ left) false) out fault
    stop_fails o old new fed left out unwritten fault h0 h1 h2 = grind (arith, common_steps, append-nil, exact, less, still_sound)

    pub pour_stopped : (b : OpenerView B) (old new : Stage) (fault : FileFault) → Stops opening n K k b old new fault
        → DecryptsPayload (opening K) n k old new (Err fault)
    pour_stopped b old new fault t =
        let f = t.flows in
        record {
          bytes = f.fed ++ t.left;
          ended = false;
          out = f.released.out;
          fresh = f.fresh;
          parts = f.parts;
          pulled = f.pulled;
          at_end = (λ x. cc, λ e. absurd (true≢false (sym e.0 ∙ t.goes_on)));
          wrote = f.released.wrote;
          counts = counted t.left (segment k (f.fed ++ t.left) false) refl f.released;
          prefix = prefix_of (opening K) n k f.fed t.left f.released.out t.unwritten f.released.text;
          answered = stop_fails b old new f.fed t.left f.released.out t.unwritten fault f.released.text (status_of f.released) t.why;
          flushed = tt;
        }

    done_or_fails : (c : OpenerView B) (old mid : Stage) (now : WriterView) (bytes out unwritten : List ℕ) (result : Result (Unit {0}) FileFault)
        → NoneFailed (ports_at old) (ports_at mid) → released (opening K) n (segment k bytes true) ≡ out ++ unwritten
        → c.status ≡ (outcome (opening K) n (segment k bytes true)).status → MatchResult result (λ _. (c.status ≡ Done) × (unwritten ≡ [])
        × (now.sink.failed ≡ mid.writer.sink.failed)) (FeedFails opening n c mid.writer now [] unwritten)
        → MatchResult result (λ _. SegmentDone (opening K) n old (stage mid.reader now) (segment k bytes true) out)
        (SegmentFails (opening K) n old (stage mid.reader now) (segment k bytes true) out)
    done_or_fails c old mid now bytes out unwritten result h0 h1 h2 h3 = grind (arith, common_steps, append-nil, length-append)

    pub pour_ended : (b c : OpenerView B) (old mid : Stage) (now : WriterView) (result : Result (Unit {0}) FileFault) → Ends opening n K k b old mid
        → EndsFeed opening n b c mid.writer now result → OnOk result (now.sink.flushed ≡ true)
        → DecryptsPayload (opening K) n k old (stage mid.reader now) result
    pour_ended b c old mid now result t ends flushed =
        let f = t.flows in
        let end = ends K k old.writer f.fed f.released in
        let all = end.released in
        record {
          bytes = f.fed;
          ended = true;
          out = all.out;
          fresh = f.fresh;
          parts = f.parts ∙ append-nil f.fed;
          pulled = f.pulled;
          at_end = (λ x. t.at_end, λ e. refl);
          wrote = all.wrote;
          counts = counted [] (segment k f.fed true) (piece_nil (segment k f.fed true)) all;
          prefix = (end.unwritten, sym all.text);
          answered = done_or_fails c old mid now f.fed all.out end.unwritten result t.same all.text (status_of all) end.answered;
          flushed = flushed;
        }
