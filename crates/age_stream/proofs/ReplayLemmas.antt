-- What is held after a list of deliveries, if what opens is the writer's, and when that is so; a step of a replay, and how much room it needs.
use Rattle.std.proofs.lemmas.Grind.{common_steps, flat_map-append}
use Rattle.std.proofs.Common.{inl, ◌≡◌, ℕ, ◌<◌, ◌≤◌, ◌+◌, ◌*◌, ◌-◌, ◌/◌, refl, ap, sym, subst, ◌∙◌, List, [], ◌∷◌, ◌++◌, length, take, drop, get_or, true}
use Rattle.std.proofs.Common.{false, arith}
use Rattle.std.specs.Prelude.{Result, Ok, Err, OnErr, Option, Some, None, IfSome, IfNone, nat_lt, nat_le, ◌&&◌, map}
use Rattle.std.specs.List.{flat_map, AllByRecursion}
use Rattle.std.specs.Borrow.{Bor}
use Rattle.std.specs.Option.{unwrap_or}
use Rattle.std.proofs.lemmas.List.{append-nil, append_assoc, length-append, take-append-drop, take_more, take-append-le}
use Rattle.std.proofs.lemmas.Bool.{cond-true, cond_both, ltb-true, leb-true, and_parts}
use Rattle.std.proofs.Math.Nat.{add-mul-div_left, div-mul-le_self}
use Rattle.std.proofs.lemmas.Nat.{mul-le}
use Rattle.age_chunk.specs.{IsChunkBox, OpensBlock, Seals, tag_length, text_length, chunk_limit, clear_sealing, clear_opening, chunk_count, payload}
use Rattle.age_chunk.specs.inner.{clear_valid}
use Rattle.age_chunk.specs.declared.fault.Memory.{Memory}
use Rattle.age_stream.specs.Segment.{Segment}
use Rattle.age_stream.specs.{outcome, released, Standing, with_piece, released_text, accepts, after_delivery, fresh, begin, reader_state, standing_from, Stands}
use Rattle.age_stream.specs.{chunk_texts, chunk_bytes, whole_text, ReplayView, IsReplayAt, Replays, IsCramped, bytes_in, HoldsWritten, IsRight, IsUndamaged}
use Rattle.age_stream.specs.{Delivery, Piece, End, Restart, Status, Done, IsAuthentic, AreAuthentic, IsRest, IsStart, AreWhole, HasUnambiguousEnd, RestIsAuthentic}
use Rattle.age_stream.specs.{WholeIsAuthentic, UndamagedIsAuthentic, PayloadRoundTrip, ClearIsSealable, TakesDelivery, replay_view}
use Rattle.age_stream.specs.inner.{with_bytes, Goes, Delivers}
use Rattle.age_stream.specs.declared.replay.ReplayState.{ReplayState}
use Rattle.age_stream.proofs.GoingLemmas.{fresh_outcome, pieces_join, piece_nil}
use Rattle.age_stream.proofs.SegmentLemmas.{released_segment, piece_start, rest_done, rest_right, right_after}

-- ---- Where deliveries lead.

module _ (opening : OpensBlock) (n : ℕ) where
  on_from : (xs ys : List Delivery) (s : Standing) → standing_from opening n s (xs ++ ys) ≡ standing_from opening n (standing_from opening n s xs) ys
  on_from [] ys s = refl
  on_from (x ∷ xs) ys s = on_from xs ys (after_delivery opening n s x)

  pub standing_more : (ds : List Delivery) (d : Delivery) → reader_state opening n (ds ++ d ∷ []) ≡ after_delivery opening n (reader_state opening n ds) d
  standing_more ds d = on_from ds (d ∷ []) begin

  -- a segment that got bytes alone
  abbrev open_at : ℕ → List ℕ → Segment
  open_at k bytes = record { start = k; bytes = bytes; ended = false; late = false }

  -- pieces alone leave all but the bytes of the segment
  pieces_from : (ps : List (Bor (List ℕ))) (s : Standing) (k : ℕ) (bytes : List ℕ) → s.segment ≡ open_at k bytes
      → standing_from opening n s (map Piece ps) ≡ record s { segment = open_at k (bytes ++ flat_map (λ (p : Bor (List ℕ)). p.now) ps) }
  pieces_from [] s k bytes e = grind (arith, common_steps, append-nil, append_assoc)
  pieces_from (p ∷ ps) s k bytes e =
      grind (arith, common_steps, append-nil, append_assoc, pieces_from ps (after_delivery opening n s (Piece p)) k (bytes ++ p.now) (ap (λ (x : Segment). with_piece x p.now) e))

  restart_segment : (s : Standing) (k : ℕ) → accepts opening n s k ≡ true → (after_delivery opening n s (Restart k)).segment ≡ fresh k
  restart_segment s k sure = ap (λ (x : Standing). x.segment) (cond-true (accepts opening n s k) _ _ sure)

  starts_fresh : (sealing : Seals) (text : List ℕ) (front : List Delivery) (k : ℕ) → IsStart sealing opening n text k front → (reader_state opening n front).segment ≡ fresh k
  starts_fresh sealing text front k h = grind (arith, common_steps, on_from, restart_segment)

  -- an undamaged payload leaves its rest
  abbrev rest_of : Seals → List ℕ → ℕ → Segment
  rest_of sealing text k = record { start = k; bytes = drop (k * (n + tag_length)) (payload sealing n text); ended = true; late = false }

  undamaged_standing : (sealing : Seals) (text : List ℕ) (k : ℕ) (ds : List Delivery) (u : IsUndamaged sealing opening n text k ds)
      → reader_state opening n ds ≡ record (reader_state opening n u.front) { segment = rest_of sealing text k }
  undamaged_standing sealing text k ds u =
      let s = reader_state opening n u.front in
      ap (reader_state opening n) u.is
      ∙ (on_from u.front (map Piece u.pieces ++ End ∷ []) begin
      ∙ (on_from (map Piece u.pieces) (End ∷ []) s
      ∙ (ap (λ (x : Standing). after_delivery opening n x End) (pieces_from u.pieces s k [] (starts_fresh sealing text u.front k u.starts))
      ∙ ap (λ (bs : List ℕ). record s { segment = record { start = k; bytes = bs; ended = true; late = false } }) u.rest)))

  undamaged_rest : (sealing : Seals) (text : List ℕ) (k : ℕ) (ds : List Delivery) → IsUndamaged sealing opening n text k ds
      → IsRest sealing opening n text (rest_of sealing text k)
  undamaged_rest sealing text k ds u = record { below = u.below; bytes = refl; ended = refl; timely = refl }

-- ---- What is held.

all_front : (P : Segment → Type 0) (xs : List Segment) (x : Segment) → AllByRecursion P (xs ++ x ∷ []) → AllByRecursion P xs
all_front P [] x h = tt
all_front P (y ∷ ys) x h = (h.0, all_front P ys x h.1)

all_last : (P : Segment → Type 0) (xs : List Segment) (x : Segment) → AllByRecursion P (xs ++ x ∷ []) → P x
all_last P [] x h = h.0
all_last P (y ∷ ys) x h = all_last P ys x h.1

module _ (sealing : Seals) (opening : OpensBlock) (valid : IsChunkBox sealing opening)
    (n : ℕ) (text : List ℕ) (few : chunk_count n text ≤ chunk_limit) (positive : 0 < n) where
  abbrev Good : Segment → Type 0
  Good = IsAuthentic sealing opening n text

  -- the text before the current segment is the writer's
  record IsSound (s : Standing) : Type 0 where
    small : s.segment.start < chunk_limit
    base : s.base ≡ take (s.segment.start * n) text

  -- so it is if each segment that was given up is good
  abbrev Stays : Standing → Type 0
  Stays s = AllByRecursion Good s.given_up → IsSound s

  restarted : (s : Standing) (k : ℕ) → IsSound s → Good s.segment → accepts opening n s k ≡ true
      → IsSound (record { given_up = s.given_up ++ s.segment ∷ []; base = take (k * n) (released_text opening n s); segment = fresh k; refused = s.refused })
  restarted s k sound good sure =
      let p = (released_segment sealing opening valid n text few positive s.segment s.base sound.small sound.base good).prefix in
      let held = released_text opening n s in
      let a : (nat_lt k chunk_limit ≡ true) × (nat_le (k * n) (length held) ≡ true) = and_parts (nat_lt k chunk_limit) (nat_le (k * n) (length held)) sure in
      let le : k * n ≤ length held = leb-true (k * n) (length held) a.1 in
      record { small = ltb-true k chunk_limit a.0; base = sym (take-append-le (k * n) held p.0 le) ∙ ap (take (k * n)) p.1 }

  sound_after : (d : Delivery) (s : Standing) → Stays s → Stays (after_delivery opening n s d)
  sound_after (Piece p) s stays good =
      let e = piece_start s.segment p.now in
      let sound = stays good in
      record {
        small = subst (λ (k : ℕ). k < chunk_limit) (sym e) sound.small;
        base = subst (λ (k : ℕ). s.base ≡ take (k * n) text) (sym e) sound.base;
      }
  sound_after End s stays good = let sound = stays good in record { small = sound.small; base = sound.base }
  sound_after (Restart k) s stays good =
      cond_both (accepts opening n s k) _ _ Stays
      (λ sure good. restarted s k (stays (all_front Good s.given_up s.segment good)) (all_last Good s.given_up s.segment good) sure)
      (λ _ good. let sound = stays good in record { small = sound.small; base = sound.base }) good

  sound_from : (ds : List Delivery) (s : Standing) → Stays s → Stays (standing_from opening n s ds)
  sound_from [] s stays = stays
  sound_from (d ∷ ds) s stays = sound_from ds (after_delivery opening n s d) (sound_after d s stays)

  undamaged_done : (k : ℕ) (ds : List Delivery) → AreAuthentic sealing opening n text ds → IsUndamaged sealing opening n text k ds
      → (outcome opening n (reader_state opening n ds).segment).status ≡ Done
  undamaged_done k ds auth u =
      let is = ap (λ (s : Standing). s.segment) (undamaged_standing opening n sealing text k ds u) in
      ap (λ (x : Segment). (outcome opening n x).status) is
      ∙ rest_done sealing opening valid n positive text few (rest_of opening n sealing text k) (undamaged_rest opening n sealing text k ds u) (subst Good is auth.1)

  pub held_right : (ds : List Delivery) → AreAuthentic sealing opening n text ds
      → IsRight sealing opening n text ((k : ℕ) × IsUndamaged sealing opening n text k ds) (reader_state opening n ds).segment
      (released_text opening n (reader_state opening n ds)) (outcome opening n (reader_state opening n ds).segment).status
  held_right ds auth =
      let s = reader_state opening n ds in
      let start : IsSound begin = record { small = omega arith; base = let z : 0 ≡ 0 * n = omega arith in ap (λ (k : ℕ). take k text) z } in
      let sound = sound_from ds begin (λ _. start) auth.0 in
      right_after sealing opening valid n text few positive s.segment auth.1 ((k : ℕ) × IsUndamaged sealing opening n text k ds) s.base sound.small sound.base
      (λ u. undamaged_done u.0 ds auth u.1)

-- ---- The payload of a writer, delivered as it is, meets the headline's premise.

pub rest_is_right : RestIsAuthentic
rest_is_right sealing opening n text so s rest = rest_right sealing opening so.valid n so.some text so.few s rest so.closed

pub undamaged_is_right : UndamagedIsAuthentic
undamaged_is_right sealing opening n text so k ds u given = grind (arith, common_steps, rest_is_right, undamaged_rest, undamaged_standing)

-- all of it is undamaged
abbrev whole_is : (sealing : Seals) (opening : OpensBlock) (n : ℕ) (text : List ℕ) (ds : List Delivery) → AreWhole (payload sealing n text) ds
    → IsUndamaged sealing opening n text 0 ds
whole_is sealing opening n text ds w =
    let z : 0 * (n + tag_length) ≡ 0 = omega arith in
    record {
      front = [];
      pieces = w.pieces;
      is = w.are;
      starts = inl (refl, refl);
      rest = w.join ∙ ap (λ (k : ℕ). drop k (payload sealing n text)) (sym z);
      below = omega arith;
    }

pub whole_is_right : WholeIsAuthentic
whole_is_right sealing opening n text so ds w = undamaged_is_right sealing opening n text so 0 ds (whole_is sealing opening n text ds w) tt

pub comes_back : PayloadRoundTrip
comes_back sealing opening n text so ds w =
    (held_right sealing opening so.valid n text so.few so.some ds (whole_is_right sealing opening n text so ds w)).whole (0, whole_is sealing opening n text ds w)

clear_closed : (n : ℕ) (text : List ℕ) → HasUnambiguousEnd clear_sealing clear_opening n text
clear_closed n text full = grind (arith, common_steps)

pub clear_is_sealable : ClearIsSealable
clear_is_sealable n text positive few = record { valid = clear_valid; some = positive; few = few; closed = clear_closed n text }

-- ---- Where it leads.

pub on_err : {A E : Type 0} {P : Type 0} (r : Result A E) → P → OnErr r P
on_err r h = grind (arith, common_steps)

pub lent_flat : (chunk : Option (Bor (List ℕ))) → flat_map (λ (t : List ℕ). t) (chunk_texts chunk) ≡ chunk_bytes chunk
lent_flat chunk = grind (arith, common_steps)

-- the bytes that a step lent, or none
pub lent : (chunk : Option (Bor (List ℕ))) (none : Bor (List ℕ)) → none.now ≡ [] → chunk_bytes chunk ≡ (unwrap_or chunk none).now
lent None none e = sym e
lent (Some chunk) none e = refl

pub with_bytes-append : (s : Standing) (p r : List ℕ) → with_bytes (with_bytes s p) r ≡ with_bytes s (p ++ r)
with_bytes-append s p r = ap (λ (x : Segment). record s { segment = x }) (pieces_join s.segment p r)

pub with_bytes-nil : (s : Standing) → with_bytes s [] ≡ s
with_bytes-nil s = ap (λ (x : Segment). record s { segment = x }) (piece_nil s.segment)

-- one piece after another
pub bytes_on : {B : Type 0} {n : ℕ} {g : _} (opening : B → OpensBlock) (old mid new : ReplayState B n g) (p q all : List ℕ)
    → Goes opening old mid (λ s. with_bytes s p) → Goes opening mid new (λ s. with_bytes s q) → p ++ q ≡ all → Goes opening old new (λ s. with_bytes s all)
bytes_on {B} {n} {g} opening old mid new p q all a b is = record {
  stands = λ s h. subst (IsReplayAt opening (text_length n) (replay_view new)) (with_bytes-append s p q ∙ ap (with_bytes s) is)
      (b.stands (with_bytes s p) (a.stands s h));
  capacity = omega (arith, a.capacity, b.capacity);
  key = b.key ∙ a.key;
}

module _ {B : Type 0} (opening : B → OpensBlock) (n : ℕ) (old new : ReplayView B) where
  -- the segment went on, and what it released more is held
  pub held_step : (s : Standing) (next : Segment) (bytes : List ℕ) → IsReplayAt opening n old s → new.key ≡ old.key → new.opener.key ≡ old.opener.key
      → new.refused ≡ old.refused → Stands opening n new.opener next
      → released (opening old.opener.key) n next ≡ released (opening old.opener.key) n s.segment ++ bytes → new.text ≡ old.text ++ bytes
      → IsReplayAt opening n new (record s { segment = next })
  held_step s next bytes h key okey refused stands more text = grind (arith, common_steps)

  pub replay_step : (s : Standing) (piece : List ℕ) (ts : List (List ℕ)) → IsReplayAt opening n old s → new.key ≡ old.key → new.opener.key ≡ old.opener.key
      → new.refused ≡ old.refused → Stands opening n new.opener (with_piece s.segment piece)
      → (outcome (opening old.opener.key) n (with_piece s.segment piece)).texts ≡ (outcome (opening old.opener.key) n s.segment).texts ++ ts
      → new.text ≡ old.text ++ flat_map (λ (t : List ℕ). t) ts → IsReplayAt opening n new (with_bytes s piece)
  replay_step s piece ts h key okey refused stands texts text = grind (arith, common_steps)

  -- a restart is accepted if the text that is held reaches it
  reached : (s : Standing) (k : ℕ) → IsReplayAt opening n old s → accepts (opening old.key) n s k ≡ (nat_lt k chunk_limit && nat_le (k * n) (length old.text))
  reached s k h = ap (λ (t : List ℕ). nat_lt k chunk_limit && nat_le (k * n) (length t)) (sym h.text)

  pub restart_step : (s : Standing) (k : ℕ) → IsReplayAt opening n old s → new.key ≡ old.key
      → (nat_lt k chunk_limit && nat_le (k * n) (length old.text)) ≡ true
      → new.opener.key ≡ old.key → Stands opening n new.opener (fresh k) → new.text ≡ take (k * n) old.text → new.refused ≡ old.refused
      → IsReplayAt opening n new (after_delivery (opening old.key) n s (Restart k))
  restart_step s k h key sure okey stands text refused = grind (arith, common_steps, append-nil, cond-true, fresh_outcome, reached)

  -- one delivery more
  pub replays_more : new.key ≡ old.key → (ds : List Delivery) (d : Delivery) → Replays opening n old ds
      → ((s : Standing) → IsReplayAt opening n old s → IsReplayAt opening n new (after_delivery (opening old.key) n s d)) → Replays opening n new (ds ++ d ∷ [])
  replays_more key ds d h f = grind (arith, common_steps, standing_more)

-- the headline of what a replay holds
pub written : {B : Type 0} (sealing : B → Seals) (opening : B → OpensBlock) (n : ℕ) (key : B) (r : ReplayView B) → IsChunkBox (sealing key) (opening key)
    → 0 < n → r.key ≡ key → (ds : List Delivery) → Replays opening n r ds → HoldsWritten (sealing key) (opening key) n ds r.text r.opener.status
written sealing opening n key r valid positive same ds h text few auth =
    let op = opening key in
    let k : reader_state (opening r.key) n ds ≡ reader_state op n ds = ap (λ k. reader_state (opening k) n ds) same in
    let is : r.text ≡ released_text op n (reader_state op n ds) =
    h.text ∙ (ap (λ s. released_text (opening r.key) n s) k ∙ ap (λ k. released_text (opening k) n (reader_state op n ds)) same) in
    let status : r.opener.status ≡ (outcome op n (reader_state op n ds).segment).status =
    h.segment.status ∙ (ap (λ k. (outcome (opening k) n (reader_state (opening r.key) n ds).segment).status) (h.key ∙ same)
    ∙ ap (λ s. (outcome op n s.segment).status) k) in
    let Right : List ℕ → Status → Type 0 = IsRight (sealing key) op n text ((k : ℕ) × IsUndamaged (sealing key) op n text k ds) (reader_state op n ds).segment in
    subst (λ (t : List ℕ). Right t r.opener.status) (sym is)
    (subst (Right (released_text op n (reader_state op n ds))) (sym status) (held_right (sealing key) op valid n text few positive ds auth))

-- what `take` does with a delivery, by what it does with the state
pub taken : {B : Type 0} {n : ℕ} {g : _} (sealing : B → Seals) (opening : B → OpensBlock) (old new : ReplayState B n g) (d : Delivery)
    (answer : Result (Unit {0}) Memory) → IsChunkBox (sealing old.key.now) (opening old.key.now) → Delivers opening old d answer new
    → TakesDelivery sealing opening (text_length n) (replay_view old) d answer (replay_view new)
taken {B} {n} {g} sealing opening old new d (Ok u) valid a =
    let m = text_length n in
    let key = ap (λ k. k.now) a.goes.key in
    let positive : 0 < m = omega (arith, old.sizes) in
    let held = λ (ds : List Delivery) (h : Replays opening m (replay_view old) ds). replays_more opening m (replay_view old) (replay_view new) key ds d h a.goes.stands in
    record {
      held = held;
      written = λ ds h. written sealing opening m old.key.now (replay_view new) valid positive key (ds ++ d ∷ []) (held ds h);
      err = tt;
      memory = tt;
      capacity = a.goes.capacity;
      key = key;
    }
taken sealing opening old new d (Err e) valid a =
    record { held = tt; written = tt; err = a.err; memory = a.memory; capacity = omega (arith, ap (λ v. v.capacity) a.err); key = ap (λ v. v.key) a.err }

-- ---- How much room a text needs.

-- what is left to come needs the room that is left
pub room_left : (n h t p : ℕ) (held : List ℕ) (chunk : Option (Bor (List ℕ)))
    → IfSome chunk (λ chunk. (length chunk.now ≡ n) × (h + t ≡ n + tag_length) × (held ≡ [])) → IfNone chunk (length held ≡ h + t) → t ≤ p
    → length (chunk_bytes chunk) + whole_text n (length held + (p - t)) ≤ whole_text n (h + p)
room_left n h t p held None some none le =
    let e : length held + (p - t) ≡ h + p = omega (arith, none, le) in
    omega (arith, ap (λ (k : ℕ). k / (n + tag_length) * n) e)
room_left n h t p held (Some chunk) some none le =
    let z = n + tag_length in
    let pos : 0 < z = omega arith in
    let k = length held + (p - t) in
    let none : length held ≡ 0 = ap length some.2 in
    let e : h + p ≡ k + z * 1 = omega (arith, some.1, none, le) in
    let d : (h + p) / z ≡ k / z + 1 = ap (λ (x : ℕ). x / z) e ∙ add-mul-div_left k 1 pos in
    let m : (k / z + 1) * n ≡ k / z * n + n = omega arith in
    omega (arith, some.0, ap (λ (x : ℕ). x * n) d, m)

-- a part of each whole block is no more than all bytes
pub part_within : (len size part : ℕ) → part ≤ size → len / size * part ≤ len
part_within len size part le = omega (arith, mul-le (len / size) part (len / size) size (omega arith) le, div-mul-le_self len size)

-- ---- If more room is asked for, more bytes than a tag has came.

module _ (opening : OpensBlock) (n : ℕ) where
  -- a segment has no more bytes than were delivered
  pub segment_len : (ds : List Delivery) (s : Standing) → length (standing_from opening n s ds).segment.bytes
      ≤ length s.segment.bytes + length (flat_map bytes_in ds)
  segment_len [] s = grind (arith, common_steps, length-append)
  segment_len (d ∷ ds) s = grind (arith, common_steps, length-append, segment_len ds (after_delivery opening n s d))

pub came : (ds : List Delivery) (i : ℕ) (d : Delivery) → take (i + 1) ds ≡ take i ds ++ d ∷ []
    → length (flat_map bytes_in (take i ds)) + length (bytes_in d) ≤ length (flat_map bytes_in ds)
came ds i d more =
    let f = flat_map bytes_in in
    let all : f ds ≡ f (take (i + 1) ds) ++ f (drop (i + 1) ds) = ap f (sym (take-append-drop (i + 1) ds))
    ∙ flat_map-append bytes_in (take (i + 1) ds) (drop (i + 1) ds) in
    let front : f (take (i + 1) ds) ≡ f (take i ds) ++ (bytes_in d ++ []) = ap f more ∙ flat_map-append bytes_in (take i ds) (d ∷ []) in
    omega (
      arith,
      ap length all,
      length-append (f (take (i + 1) ds)) (f (drop (i + 1) ds)),
      ap length front,
      length-append (f (take i ds)) (bytes_in d ++ []),
      ap length (append-nil (bytes_in d)),
    )

pub cramped_at : {B : Type 0} (opening : B → OpensBlock) (n : ℕ) (r : ReplayView B) (ds : List Delivery) (i : ℕ) (d : Delivery) → i < length ds
    → Replays opening n r (take i ds) → IsCramped n r (get_or ds i d) → tag_length < length (flat_map bytes_in ds)
cramped_at opening n r ds i d lt at c = grind (arith, common_steps, came, segment_len, take_more)
