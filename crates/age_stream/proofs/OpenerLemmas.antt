-- A step of an opener, and its end, for each segment that it was given.
use Rattle.std.proofs.lemmas.Grind.{common_steps, flat_map-append}
use Rattle.std.proofs.Common.{◌≡◌, ℕ, ◌<◌, ◌≤◌, ◌+◌, refl, ap, sym, subst, ◌∙◌, List, [], ◌∷◌, ◌++◌, length, take, drop, Bool, true, false, arith}
use Rattle.std.specs.Prelude.{Result, Ok, Err, nat_lt, if◌then◌else◌, Option, None}
use Rattle.std.specs.Borrow.{Bor}
use Rattle.std.specs.List.{flat_map}
use Rattle.std.proofs.lemmas.List.{append-nil, length-append, length-take, nil_from_length, take-append-drop, take_all}
use Rattle.age_chunk.specs.{IsChunkBox, Seals, OpensBlock, tag_length, text_length, nonce_bytes}
use Rattle.age_chunk.specs.declared.fault.StreamFault.{StreamFault}
use Rattle.age_stream.specs.Segment.{Segment}
use Rattle.age_stream.specs.{Outcome, outcome, released, rest_bytes, with_piece, with_end, ReleasesWritten, Stands, IsEnded, Ends, has_failed, held_bytes}
use Rattle.age_stream.specs.{opener_view, Status, Open, Done, Failed}
use Rattle.age_stream.specs.inner.{one_block, final_block, status_after, status_ended, front_bytes, IsTried, TakesNone, OpenerEndsAs, after_last}
use Rattle.age_stream.specs.inner.{OpenerAdvances, lending, end_of_open, end_of_closed}
use Rattle.age_stream.specs.declared.opener.OpenerState.{OpenerState}
use Rattle.age_stream.proofs.GoingLemmas.{going, going_outcome, going_part, going_whole, going_end, after_piece, after_end, pieces_join, IsWhole}
use Rattle.age_stream.proofs.SegmentLemmas.{segment_right}
use Rattle.age_stream.proofs.TableLemmas.{prepend, fault_after}

-- a whole block that doesn't open as one before the last was tried as the last
pub tried_last : {B : Type 0} {n : ℕ} {g : _} (opening : OpensBlock) (old new : OpenerState B n g) (answer : Result (Unit {0}) StreamFault) (i : ℕ)
    (block tried : List ℕ) (o : Option (List ℕ)) → opening (nonce_bytes i false) block ≡ None → tried ≡ block → opening (nonce_bytes i true) tried ≡ o
    → IsTried (after_last opening [] i o false false) old answer new → IsTried (one_block opening i block) old answer new
tried_last opening old new answer i block tried o closed same is = grind (arith, common_steps)

-- ---- A piece.

piece_timely : (s : Segment) (p : List ℕ) → (s.ended ≡ false → s.late ≡ false) → (with_piece s p).ended ≡ false → (with_piece s p).late ≡ false
piece_timely s p timely = grind (arith, common_steps)

failed_shut : (fault : StreamFault) → Failed fault ≡ Open → ⊥
failed_shut fault e = cc

done_shut : Done ≡ Open → ⊥
done_shut e = cc

after_none : (i : ℕ) (s : Status) → status_after false i s ≡ s
after_none i s = grind (arith, common_steps)

-- the bytes that are held of an open block don't fill it
short_of : {B : Type 0} {n : ℕ} {g : _} (o : OpenerState B n g) (lent : Bool) → o.lent ≡ lent → o.status ≡ Open
    → length (if lent then [] else o.buffer.items) < n
short_of o lent h1 h2 = grind (arith, common_steps)

module _ {B : Type 0} {n : ℕ} {g : _} (sealing : B → Seals) (opening : B → OpensBlock) (old new : OpenerState B n g)
    (valid : IsChunkBox (sealing old.key.now) (opening old.key.now)) (key : new.key ≡ old.key) where
  abbrev out : Segment → Outcome
  out = outcome (opening old.key.now) (text_length n)

  abbrev Was : Segment → Type 0
  Was = Stands opening (text_length n) (opener_view old)

  back : text_length n + tag_length ≡ n
  back = omega (arith, old.sizes)

  stands_at : (next : Segment) → new.index ≡ (out next).index → new.status ≡ (out next).status
      → (new.status ≡ Open → held_bytes new ≡ rest_bytes (text_length n) next.bytes) → (next.ended ≡ false → next.late ≡ false)
      → Stands opening (text_length n) (opener_view new) next
  stands_at next index status held timely = grind (arith, common_steps)

  -- the headline of what was released
  right : (next : Segment) (text : List ℕ) → Stands opening (text_length n) (opener_view new) next → released (opening old.key.now) (text_length n) next ≡ text
      → ReleasesWritten (sealing old.key.now) (opening old.key.now) (text_length n) next text new.status
  right next text h is = grind (arith, common_steps, segment_right)

  -- what is left of a segment that the opener was given, and the headline of it
  record Follows (s next : Segment) (texts : List (List ℕ)) : Type 0 where
    stands : Stands opening (text_length n) (opener_view new) next
    texts_are : (out next).texts ≡ (out s).texts ++ texts

  written : (s next : Segment) (texts : List (List ℕ)) → Follows s next texts → ReleasesWritten (sealing old.key.now) (opening old.key.now) (text_length n) next
      (released (opening old.key.now) (text_length n) s ++ flat_map (λ (t : List ℕ). t) texts) new.status
  written s next texts f = right next _ f.stands (ap (flat_map (λ (t : List ℕ). t)) f.texts_are ∙ flat_map-append (λ (t : List ℕ). t) (out s).texts texts)

  module _ (piece : List ℕ) where
    abbrev Advances : Result (ℕ × Bool) StreamFault → Type 0
    Advances answer = OpenerAdvances sealing opening old piece answer new

    -- a refusal
    refused_so : (fault : StreamFault) → new.status ≡ Failed fault → ((earlier : StreamFault) → old.status ≡ Failed earlier → fault ≡ earlier)
        → (length piece ≡ 0 → opener_view new ≡ opener_view old) → ((s : Segment) → Was s → Follows s (with_piece s piece) []) → Advances (Err fault)
    refused_so fault status again still after = record {
      fed = λ chunk _. record {
        key = ap (λ k. k.now) key;
        stands = λ s h. (after s h).stands;
        index = tt;
        fault = status;
        unfailed = tt;
        lent = tt;
        unlent = tt;
        refused = new.closed (λ o. cc);
        unchanged = still;
        written = λ s h. written s _ [] (after s h);
      };
      feeds = λ chunk _. record {
        texts = λ s h. (after s h).texts_are;
        taken = tt;
        some = tt;
        limit = tt;
        nothing = λ _. tt;
        again = again;
        unfailed = tt;
        was_open = tt;
      };
    }

    -- all of the piece was taken, and no text came
    took : (taken : ℕ) → taken ≡ length piece → new.index ≡ old.index → new.status ≡ old.status → has_failed old.status ≡ false
        → (0 < length piece → old.status ≡ Open) → held_bytes new ≡ held_bytes old ++ piece → length (held_bytes old) + length piece < n
        → ((s : Segment) → Was s → Follows s (with_piece s piece) []) → Advances (Ok (taken, false))
    took taken all index status sound was held short after =
        let front : take taken piece ≡ piece = take_all taken piece (omega (arith, all)) in
        let step = λ (s : Segment) (h : Was s). subst (λ (p : List ℕ). Follows s (with_piece s p) []) (sym front) (after s h) in
        record {
          fed = λ chunk _. record {
            key = ap (λ k. k.now) key;
            stands = λ s h. (step s h).stands;
            index = refl;
            fault = tt;
            unfailed = ap has_failed status ∙ sound;
            lent = tt;
            unlent = omega (arith, ap length held, length-append (held_bytes old) piece, all);
            refused = tt;
            unchanged = λ none.
                let same : held_bytes new ≡ held_bytes old = held ∙ (ap (λ (p : List ℕ). held_bytes old ++ p) (nil_from_length piece none)
                ∙ append-nil (held_bytes old)) in
                cc (same, key, index, status);
            written = λ s h. written s _ [] (step s h);
          };
          feeds = λ chunk _. record {
            texts = λ s h. (step s h).texts_are;
            taken = omega (arith, all, short);
            some = λ some. omega (arith, all, some);
            limit = new.limit;
            nothing = λ _. refl;
            again = tt;
            unfailed = sound;
            was_open = was;
          };
        }

    -- a piece that makes no whole block
    pub takes_part : old.status ≡ Open → length (held_bytes old) + length piece < n → new.index ≡ old.index → new.status ≡ old.status → new.lent ≡ false
        → new.buffer.items ≡ held_bytes old ++ piece → Advances (Ok (length piece, false))
    takes_part open_ short index status lent items =
        let held : held_bytes new ≡ held_bytes old ++ piece = ap (λ (b : Bool). if b then [] else new.buffer.items) lent ∙ items in
        took (length piece) refl index status (ap has_failed open_) (λ _. open_) held short
        (λ s h.
        let op = opening old.key.now in
        let m = text_length n in
        let rest = h.held open_ in
        let p = going_part op m s piece (going op m s (sym h.status ∙ open_)) (omega (arith, short, ap length rest, back)) in
        record {
          stands = stands_at (with_piece s piece) (index ∙ (h.index ∙ ap (λ (o : Outcome). o.index) (sym p.same)))
              (status ∙ (h.status ∙ ap (λ (o : Outcome). o.status) (sym p.same)))
              (λ _. held ∙ (ap (λ (bs : List ℕ). bs ++ piece) rest ∙ sym p.rest)) (piece_timely s piece h.timely);
          texts_are = ap (λ (o : Outcome). o.texts) p.same ∙ sym (append-nil (out s).texts);
        })

    -- a piece whose front makes a whole block, which was tried
    module _ (open_ : old.status ≡ Open) (room : ℕ) (sum : room + length (held_bytes old) ≡ n) (long : room ≤ length piece) (mid : OpenerState B n g)
        (same : mid.key ≡ old.key) (index : mid.index ≡ old.index) (items : mid.buffer.items ≡ held_bytes old ++ take room piece) where
      abbrev front : List ℕ
      front = take room piece

      abbrev trial : Outcome
      trial = one_block (opening mid.key.now) mid.index mid.buffer.items

      abbrev Tried : Result (Unit {0}) StreamFault → Type 0
      Tried answer = IsTried trial mid answer new

      short : length (held_bytes old) < n
      short = short_of old old.lent refl open_

      whole : (s : Segment) → Was s → IsWhole (opening old.key.now) (text_length n) s front
      whole s h =
          let g = going (opening old.key.now) (text_length n) s (sym h.status ∙ open_) in
          going_whole (opening old.key.now) (text_length n) s front g (h.timely g.unended)
          (omega (arith, sum, long, length-take room piece, ap length (h.held open_), back))

      gained : (s : Segment) → Was s → out (with_piece s front) ≡ prepend (out s).texts trial
      gained s h = grind (arith, common_steps, prepend, whole)

      pub takes_whole : Tried (Ok tt) → Advances (Ok (room, true))
      takes_whole t =
          let held : held_bytes new ≡ [] = ap (λ (b : Bool). if b then [] else new.buffer.items) t.answered.0 in
          let after = λ (s : Segment) (h : Was s) (chunk : List ℕ) (is : chunk ≡ take (text_length n) new.buffer.items).
          let gain = gained s h in
          let f : Follows s (with_piece s front) (chunk ∷ []) = record {
            stands = stands_at (with_piece s front) (t.index ∙ ap (λ (o : Outcome). o.index) (sym gain)) (t.status ∙ ap (λ (o : Outcome). o.status) (sym gain))
                (λ _. held ∙ sym (whole s h).rest) (piece_timely s front h.timely);
            texts_are = ap (λ (o : Outcome). o.texts) gain
                ∙ ap (λ (ts : List (List ℕ)). (out s).texts ++ ts) (t.answered.3 ∙ ap (λ (x : List ℕ). x ∷ []) (sym is));
          } in f in
          record {
            fed = λ chunk is. record {
              key = ap (λ k. k.now) key;
              stands = λ s h. (after s h chunk.now is).stands;
              index = refl;
              fault = tt;
              unfailed = t.answered.2;
              lent = (omega (arith, ap length is, length-take (text_length n) new.buffer.items, t.answered.1), omega (arith, sum, back), held);
              unlent = tt;
              refused = tt;
              unchanged = λ none. absurd (omega (arith, none, sum, long, short));
              written = λ s h. written s _ (chunk.now ∷ []) (after s h chunk.now is);
            };
            feeds = λ chunk is. record {
              texts = λ s h. (after s h chunk.now is).texts_are;
              taken = omega (arith, sum, long);
              some = λ _. omega (arith, sum, short);
              limit = new.limit;
              nothing = λ none. absurd (omega (arith, none, sum, long, short));
              again = tt;
              unfailed = ap has_failed open_;
              was_open = λ _. open_;
            };
          }

      pub takes_refused : (fault : StreamFault) → Tried (Err fault) → Advances (Err fault)
      takes_refused fault t =
          refused_so fault t.answered.0 (λ earlier e. cc) (λ none. absurd (omega (arith, none, sum, long, short)))
          (λ s h.
          let op = opening old.key.now in
          let m = text_length n in
          let behind = drop room piece in
          let gain = gained s h in
          let mid = with_piece s front in
          let failed_mid : (out mid).status ≡ Failed fault = ap (λ (o : Outcome). o.status) gain ∙ (sym t.status ∙ t.answered.0) in
          let timely = piece_timely s front h.timely in
          let more = after_piece op m mid behind timely (λ o. cc) in
          let some = nat_lt 0 (length behind) in
          let stays = ap (λ (o : Outcome). o.status) more ∙ (ap (status_after some (out mid).index) failed_mid ∙ fault_after some (out mid).index fault) in
          let f : Follows s (with_piece mid behind) [] = record {
            stands = stands_at (with_piece mid behind) (t.index ∙ ap (λ (o : Outcome). o.index) (sym gain) ∙ ap (λ (o : Outcome). o.index) (sym more))
                (t.answered.0 ∙ sym stays) (λ o. cc) (piece_timely mid behind timely);
            texts_are = ap (λ (o : Outcome). o.texts) more ∙ (ap (λ (o : Outcome). o.texts) gain ∙ ap (λ (ts : List (List ℕ)). (out s).texts ++ ts) t.answered.1);
          } in
          subst (λ (x : Segment). Follows s x []) (pieces_join s front behind ∙ ap (with_piece s) (take-append-drop room piece)) f)

    -- a piece though no block is open
    pub takes_none : (shut : old.status ≡ Open → ⊥) (answer : Result (ℕ × Bool) StreamFault) → TakesNone old piece answer new → Advances answer
    takes_none shut answer t = by_answer answer t where
      after : (new.status ≡ Open → ⊥) → new.index ≡ old.index → new.status ≡ status_after (nat_lt 0 (length piece)) old.index old.status
          → (s : Segment) → Was s → Follows s (with_piece s piece) []
      after still index status s h =
          let some = nat_lt 0 (length piece) in
          let more = after_piece (opening old.key.now) (text_length n) s piece h.timely (λ o. shut (h.status ∙ o)) in
          record {
            stands = stands_at (with_piece s piece) (index ∙ (h.index ∙ ap (λ (o : Outcome). o.index) (sym more)))
                (status ∙ (ap (λ (i : ℕ). status_after some i old.status) h.index
                ∙ (ap (status_after some (out s).index) h.status ∙ ap (λ (o : Outcome). o.status) (sym more))))
                (λ o. absurd (still o)) (piece_timely s piece h.timely);
            texts_are = ap (λ (o : Outcome). o.texts) more ∙ sym (append-nil (out s).texts);
          }

      by_answer : (answer : Result (ℕ × Bool) StreamFault) → TakesNone old piece answer new → Advances answer
      by_answer (Ok a) t =
          let none = t.answered.2 in
          let status : new.status ≡ old.status = t.status
          ∙ (ap (λ (k : ℕ). status_after (nat_lt 0 k) old.index old.status) none ∙ after_none old.index old.status) in
          let still = λ (o : new.status ≡ Open). shut (sym status ∙ o) in
          let held = old.closed shut in
          subst (λ (f : Bool). Advances (Ok (a.0, f))) (sym t.answered.1)
          (took a.0 (t.answered.0 ∙ sym none) t.index status t.answered.3 (λ some. absurd (omega (arith, some, none)))
          (new.closed still ∙ (sym held ∙ (sym (append-nil (held_bytes old)) ∙ ap (λ (p : List ℕ). held_bytes old ++ p) (sym (nil_from_length piece none)))))
          (omega (arith, none, ap length held, old.sizes)) (after still t.index t.status))
      by_answer (Err fault) t =
          let still = λ (o : new.status ≡ Open). let e : Failed fault ≡ Open = sym t.answered ∙ o in absurd (failed_shut fault e) in
          refused_so fault t.answered
          (λ earlier e.
          let some = nat_lt 0 (length piece) in
          let is = sym t.answered ∙ (t.status ∙ (ap (status_after some old.index) e ∙ fault_after some old.index earlier)) in cc)
          (λ none.
          let held : held_bytes new ≡ held_bytes old = new.closed still ∙ sym (old.closed shut) in
          let status : new.status ≡ old.status = t.status
          ∙ (ap (λ (k : ℕ). status_after (nat_lt 0 k) old.index old.status) none ∙ after_none old.index old.status) in
          cc (held, t.key, t.index, status)) (after still t.index t.status)

-- ---- An end.

module _ {B : Type 0} {n : ℕ} {g : _} (sealing : B → Seals) (opening : B → OpensBlock) (old new : OpenerState B n g)
    (valid : IsChunkBox (sealing old.key.now) (opening old.key.now)) (text : Bor (List ℕ)) where
  abbrev Ended : Result ℕ StreamFault → Type 0
  Ended answer = IsEnded sealing opening (text_length n) (opener_view old) (lending text answer) (opener_view new)
      × Ends opening n (opener_view old) (lending text answer)

  -- by what the end gives after the texts so far
  module _ (o : Outcome) (is : (s : Segment) → Stands opening (text_length n) (opener_view old) s
      → outcome (opening old.key.now) (text_length n) (with_end s) ≡ prepend (outcome (opening old.key.now) (text_length n) s).texts o)
      (stays : (earlier : StreamFault) → old.status ≡ Failed earlier → o.status ≡ Failed earlier) where
    after : (key : new.key ≡ old.key) → new.index ≡ o.index → new.status ≡ o.status → (new.status ≡ Open → ⊥) → (s : Segment)
        → Stands opening (text_length n) (opener_view old) s → Stands opening (text_length n) (opener_view new) (with_end s)
    after key index status shut s h = grind (arith, common_steps)

    all : (bytes : List ℕ) → flat_map (λ (t : List ℕ). t) o.texts ≡ bytes → (s : Segment) → Stands opening (text_length n) (opener_view old) s
        → released (opening old.key.now) (text_length n) (with_end s) ≡ released (opening old.key.now) (text_length n) s ++ bytes
    all bytes gained s h = grind (arith, common_steps)

    ended_as : (answer : Result ℕ StreamFault) → OpenerEndsAs o old answer new → text.now ≡ front_bytes answer new.buffer.items → Ended answer
    ended_as (Ok len) e front =
        let a = e.answered in
        let shut = λ (x : new.status ≡ Open). done_shut (sym a.0 ∙ x) in
        let stands = after e.key e.index e.status shut in
        let whole = all text.now (a.2 ∙ sym front) in (
          record {
            key = ap (λ k. k.now) e.key;
            stands = stands;
            fault = tt;
            done = a.0;
            nothing_held = new.closed shut;
            written = λ s h. right sealing opening old new valid e.key (with_end s) _ (stands s h) (whole s h);
          },
          record { text = whole; len = ap length front ∙ (omega (arith, length-take len new.buffer.items, a.1, a.3)); again = tt; unfailed = a.4 },
        )
    ended_as (Err fault) e front =
        let a = e.answered in
        let shut = λ (x : new.status ≡ Open). failed_shut fault (sym a.0 ∙ x) in
        let stands = after e.key e.index e.status shut in
        let whole = all [] (ap (flat_map (λ (t : List ℕ). t)) a.1) in (
          record {
            key = ap (λ k. k.now) e.key;
            stands = stands;
            fault = a.0;
            done = tt;
            nothing_held = new.closed shut;
            written = λ s h. right sealing opening old new valid e.key (with_end s) _ (stands s h) (whole s h);
          },
          record { text = whole; len = tt; again = λ earlier x. let same = sym a.0 ∙ (e.status ∙ stays earlier x) in cc; unfailed = tt },
        )

  pub ended : (answer : Result ℕ StreamFault) → (old.status ≡ Open → OpenerEndsAs (end_of_open opening old) old answer new)
      → ((old.status ≡ Open → ⊥) → OpenerEndsAs (end_of_closed opening old) old answer new) → text.now ≡ front_bytes answer new.buffer.items → Ended answer
  ended answer open_ closed is = by_status old.status refl where
    by_status : (s : Status) → old.status ≡ s → Ended answer
    by_status Open e =
        let op = opening old.key.now in
        let m = text_length n in
        ended_as (end_of_open opening old)
        (λ s h.
        let g = going op m s (sym h.status ∙ e) in
        going_end op m s g (h.timely g.unended)
        ∙ (ap (λ (o : Outcome). prepend o.texts (final_block op [] o.index (rest_bytes m s.bytes) false true)) (sym (going_outcome op m s g))
        ∙ (ap (λ (i : ℕ). prepend (outcome op m s).texts (final_block op [] i (rest_bytes m s.bytes) false true)) (sym h.index)
        ∙ ap (λ (bs : List ℕ). prepend (outcome op m s).texts (final_block op [] old.index bs false true)) (sym (h.held e)))))
        (λ earlier x. cc) answer (open_ e) is
    by_status other e =
        let op = opening old.key.now in
        let m = text_length n in
        let shut : old.status ≡ Open → ⊥ = λ o. cc in
        ended_as (end_of_closed opening old)
        (λ s h.
        let o = outcome op m s in
        after_end op m s (λ o. shut (h.status ∙ o))
        ∙ (ap (λ (ts : List (List ℕ)). record { texts = ts; index = o.index; status = status_ended o.status }) (sym (append-nil o.texts))
        ∙ (ap (λ (i : ℕ). record { texts = o.texts ++ []; index = i; status = status_ended o.status }) (sym h.index)
        ∙ ap (λ (x : Status). record { texts = o.texts ++ []; index = old.index; status = status_ended x }) (sym h.status))))
        (λ earlier x. ap status_ended x) answer (closed shut) is
