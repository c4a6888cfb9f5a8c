-- The plaintext that a replay has after any deliveries, and the result of a drill.
use Rattle.std.specs.Prelude.{◌≡◌, ◌<◌, ◌≤◌, ◌+◌, ℕ, List, [], ◌∷◌, ◌++◌, length, vec_capacity, Result, OnOk}
use Rattle.std.specs.Prelude.{OnErr}
use Rattle.age_chunk.specs.{Seals, OpensBlock}
use Rattle.age_chunk.specs.declared.fault.Memory.{Memory}
use Rattle.age_stream.specs.Segment.{Standing, reader_state, released_text, outcome}
use Rattle.age_stream.specs.Headline.{HoldsWritten}
use Rattle.age_stream.specs.Opener.{OpenerView, Stands, text_of_piece, text_at_end}
use Rattle.age_stream.specs.declared.delivery.Delivery.{Delivery}
use Rattle.age_stream.specs.declared.delivery.Delivery.TheVariants.{Piece, End, Restart}
use Rattle.age_stream.specs.declared.replay.Drill.{Drill}
use Rattle.age_stream.specs.declared.replay.ReplayState.{ReplayState}

-- ---- The contract view of a replay. A chunk has n bytes.

-- the view of a replay
pub record ReplayView (B : Type 0) : Type 0 where
  pub key : B
  -- the opener of the current segment
  pub opener : OpenerView B
  -- the plaintext that was released and kept
  pub text : List ℕ
  -- the number of bytes of plaintext that fit without more memory
  pub capacity : ℕ
  -- the number of restarts that were refused
  pub refused : ℕ

-- the view of a replay's state, for any box and chunk
module _ {B : Type 0} {n : _} {g : _} where
  -- the view of a replay's state
  abbrev pub replay_view : ReplayState B n g → ReplayView B
  replay_view r =
      record {
        key = r.key.now;
        opener = r.opener;
        text = r.text.items;
        capacity = vec_capacity r.text;
        refused = r.refused;
      }

module _ {B : Type 0} (opening : B → OpensBlock) (n : ℕ) where
  -- a replay is in the state of a standing
  pub record IsReplayAt (r : ReplayView B) (s : Standing) : Type 0 where
    pub key : r.opener.key ≡ r.key
    pub segment : Stands opening n r.opener s.segment
    pub text : r.text ≡ released_text (opening r.key) n s
    pub refused : r.refused ≡ s.refused

  -- a replay was given these deliveries
  abbrev pub Replays : ReplayView B → List Delivery → Type 0
  Replays r deliveries = IsReplayAt r (reader_state (opening r.key) n deliveries)

-- the greatest number of bytes of plaintext that a delivery releases: room for no more is asked for
abbrev pub could_release : {B : Type 0} → ℕ → OpenerView B → Delivery → ℕ
could_release n o (Piece piece) = text_of_piece n o (length piece.now)
could_release n o End = text_at_end o
could_release n o (Restart k) = 0

-- the delivery could release some plaintext, and there is no room for as much of it as it could: so
-- it is never a restart
pub record IsCramped {B : Type 0} (n : ℕ) (r : ReplayView B) (delivery : Delivery) : Type 0 where
  pub some : 0 < could_release n r.opener delivery
  pub full : r.capacity < length r.text + could_release n r.opener delivery

-- the result of `take`, and the replay after it
module _ {B : Type 0} (sealing : B → Seals) (opening : B → OpensBlock) (n : ℕ) where
  -- the result of `take` for a delivery, and the replay after it
  pub record TakesDelivery (old : ReplayView B) (delivery : Delivery)
      (answer : Result (Unit {0}) Memory) (new : ReplayView B) : Type 0 where
    -- whatever deliveries it was given before, it was then given these and this one
    pub held : OnOk answer ((deliveries : List Delivery) → Replays opening n old deliveries
        → Replays opening n new (deliveries ++ delivery ∷ []))
    -- the headline: while no block opens except as the writer of a plaintext sealed it, what is
    -- held is a prefix of that plaintext, the end is reported only with all of it, an undamaged
    -- payload, or its rest, gives all of it, and each block stands in its place
    pub written : OnOk answer ((deliveries : List Delivery) → Replays opening n old deliveries
        → HoldsWritten (sealing old.key) (opening old.key) n (deliveries ++ delivery ∷ [])
        new.text new.opener.status)
    -- the replay is unchanged if memory runs out
    pub err : OnErr answer (new ≡ old)
    -- memory runs out only if the delivery could release more plaintext than there is room for:
    -- never at a restart, nor after the last chunk or a fault
    pub memory : OnErr answer (IsCramped n old delivery)
    -- the room for plaintext doesn't shrink
    pub capacity : old.capacity ≤ new.capacity
    -- the key stays
    pub key : new.key ≡ old.key

-- ---- The result of a drill. A chunk has n bytes.

-- the bytes of a delivery
abbrev pub bytes_in : Delivery → List ℕ
bytes_in (Piece piece) = piece.now
bytes_in End = []
bytes_in (Restart k) = []

-- a drill returns what the definitions give after these deliveries
pub record IsHeldAfter (opening : OpensBlock) (n : ℕ) (deliveries : List Delivery)
    (drill : Drill) : Type 0 where
  pub text : drill.text.items ≡ released_text opening n (reader_state opening n deliveries)
  pub status : drill.status ≡ (outcome opening n (reader_state opening n deliveries).segment).status
  pub index : drill.index ≡ (outcome opening n (reader_state opening n deliveries).segment).index
  pub refused : drill.refused ≡ (reader_state opening n deliveries).refused
