-- What each step of an opener, of a replay and of a sealer does. Private: no public contract cites
-- this module.
use Rattle.std.specs.Prelude.{ℕ, ◌+◌, Bool, true, false, nat_lt, List, [], ◌∷◌, ◌++◌, length, Option, Some}
use Rattle.std.specs.Prelude.{None, ◌≡◌, ◌≤◌, take, Result, Ok, Err, MatchResult, if◌then◌else◌, ◌-◌, ◌<◌}
use Rattle.std.specs.Prelude.{IfSome, IfNone, vec_len, vec_capacity, MatchOption, IfOk, OnOk, IfErr, OnErr}
use Rattle.std.specs.Borrow.{Bor}
use Rattle.std.specs.List.{flat_map}
use Rattle.age_chunk.specs.{Seals, OpensBlock, text_length}
use Rattle.age_chunk.specs.declared.fault.StreamFault.{StreamFault}
use Rattle.age_chunk.specs.declared.fault.StreamKind.TheVariants.{ChunkDamaged, Trailing}
use Rattle.age_chunk.specs.{nonce_bytes, chunk_limit, chunk_count, payload}
use Rattle.age_chunk.specs.declared.fault.StreamKind.TheVariants.{TooManyChunks}
use Rattle.age_stream.specs.Segment.{Outcome, failed, first_line, text_before_last, verdict, Standing}
use Rattle.age_stream.specs.Segment.{with_piece, after_delivery}
use Rattle.age_stream.specs.Opener.{IsFed, Feeds, has_failed, text_at_end, held_bytes, opener_view}
use Rattle.age_stream.specs.Opener.{whole_text}
use Rattle.age_stream.specs.Replay.{IsReplayAt, replay_view, IsCramped}
use Rattle.age_stream.specs.Sealer.{SealerView, held_text, sealer_view, step_len, needs_too_many, too_many}
use Rattle.age_stream.specs.Sealer.{IsRefused, SealRefuses}
use Rattle.age_chunk.specs.declared.fault.Memory.{Memory}
use Rattle.age_stream.specs.declared.delivery.Delivery.{Delivery}
use Rattle.age_stream.specs.declared.opener.OpenerState.{OpenerState}
use Rattle.age_stream.specs.declared.step.Status.{Status}
use Rattle.age_stream.specs.declared.step.Status.TheVariants.{Open, LastSeen, Done, Failed}
use Rattle.age_stream.specs.declared.step.Step.{Step}
use Rattle.age_stream.specs.declared.replay.ReplayState.{ReplayState}
use Rattle.age_stream.specs.declared.sealer.SealerState.{SealerState}
use Rattle.age_stream.specs.declared.whole_text.SealFault.TheVariants.{Stream}

-- ---- The steps of an opener's outcome, as more bytes or an end come.

-- the status once bytes came, or none
abbrev pub status_after : Bool → ℕ → Status → Status
status_after some i (Failed f) = Failed f
status_after true i LastSeen = failed Trailing i
status_after true i Done = failed Trailing i
status_after true i Open = Open
status_after false i LastSeen = LastSeen
status_after false i Done = Done
status_after false i Open = Open

-- the status once an end came
abbrev pub status_ended : Status → Status
status_ended (Failed f) = Failed f
status_ended LastSeen = Done
status_ended Done = Done
status_ended Open = Open

module _ (opening : OpensBlock) where
  -- what the last bytes of a segment give after these plaintexts, if they make no full block
  abbrev pub final_block : List (List ℕ) → ℕ → List ℕ → Bool → Bool → Outcome
  final_block texts i rest late ended = verdict opening (record {
    texts = texts;
    index = i;
    block = rest;
    whole = false;
    followed = late;
    ended = ended;
  })

  -- tried as the last block, with its plaintext if it opened, whether bytes followed it, and
  -- whether the input ended
  abbrev pub after_last : List (List ℕ) → ℕ → Option (List ℕ) → Bool → Bool → Outcome
  after_last texts i None followed ended =
      record { texts = texts; index = i; status = failed ChunkDamaged i }
  after_last texts i (Some text) followed ended =
      record {
        texts = texts ++ text ∷ [];
        index = i;
        status = first_line ((followed, failed Trailing i) ∷ (ended, Done) ∷ []) LastSeen;
      }

  -- a full block, with its plaintext if it opened as one before the last: then its number is the
  -- greatest; else it is tried as the last
  abbrev pub at_block : List (List ℕ) → ℕ → List ℕ → Bool → Bool → Option (List ℕ)
      → Outcome
  at_block texts i block followed ended (Some text) =
      record { texts = texts; index = i; status = failed TooManyChunks i }
  at_block texts i block followed ended None =
      after_last texts i (opening (nonce_bytes i true) block) followed ended

  -- what one full block alone gives, at number i
  abbrev pub after_front : Option (List ℕ) → ℕ → List ℕ → Outcome
  after_front (Some text) i block = record { texts = text ∷ []; index = i + 1; status = Open }
  after_front None i block = at_block [] i block false false (opening (nonce_bytes i false) block)

  abbrev pub one_block : ℕ → List ℕ → Outcome
  one_block i block = after_front (text_before_last opening i block) i block

-- ---- The steps of an opener on its buffer.

-- this many bytes in front of the buffer
abbrev pub front_bytes : Result ℕ StreamFault → List ℕ → List ℕ
front_bytes (Ok len) buffer = take len buffer
front_bytes (Err fault) buffer = []

module _ {B : Type 0} {n : ℕ} {g : _} where
  -- the opener stands where the outcome says; it has its plaintext in front of the buffer, or none,
  -- and the answer says which
  pub record IsTried (outcome : Outcome) (old : OpenerState B n g)
      (answer : Result (Unit {0}) StreamFault) (new : OpenerState B n g) : Type 0 where
    pub key : new.key ≡ old.key
    pub index : new.index ≡ outcome.index
    pub status : new.status ≡ outcome.status
    pub answered : MatchResult answer
        (λ _. (new.lent ≡ true) × (length new.buffer.items ≡ n) × (has_failed new.status ≡ false)
        × (outcome.texts ≡ take (text_length n) new.buffer.items ∷ []))
        (λ fault. (new.status ≡ Failed fault) × (outcome.texts ≡ []))

  -- what `take_closed` does with a piece: Ok comes only for an empty one, and only if no call
  -- before was refused
  pub record TakesNone (old : OpenerState B n g) (piece : List ℕ)
      (answer : Result (ℕ × Bool) StreamFault) (new : OpenerState B n g) : Type 0 where
    pub key : new.key ≡ old.key
    pub index : new.index ≡ old.index
    pub status : new.status ≡ status_after (nat_lt 0 (length piece)) old.index old.status
    pub answered : MatchResult answer
        (λ s. (s.0 ≡ 0) × (s.1 ≡ false) × (length piece ≡ 0) × (has_failed old.status ≡ false))
        (λ fault. new.status ≡ Failed fault)

  -- an end came: Ok only if no call before was refused, and then this many bytes in front of the
  -- buffer are the plaintext that it gave
  pub record OpenerEndsAs (outcome : Outcome) (old : OpenerState B n g) (answer : Result ℕ StreamFault)
      (new : OpenerState B n g) : Type 0 where
    pub key : new.key ≡ old.key
    pub index : new.index ≡ outcome.index
    pub status : new.status ≡ outcome.status
    pub answered : MatchResult answer
        (λ len. (new.status ≡ Done) × (len ≤ length new.buffer.items)
        × (flat_map (λ (text : List ℕ). text) outcome.texts ≡ take len new.buffer.items)
        × (len ≡ text_at_end (opener_view old)) × (has_failed old.status ≡ false))
        (λ fault. (new.status ≡ Failed fault) × (outcome.texts ≡ []))

module _ {B : Type 0} {n : ℕ} {g : _} (opening : B → OpensBlock) (old : OpenerState B n g) where
  -- what an end gives while a block is open
  abbrev pub end_of_open : Outcome
  end_of_open = final_block (opening old.key.now) [] old.index (held_bytes old) false true

  -- and if none is
  abbrev pub end_of_closed : Outcome
  end_of_closed = record { texts = []; index = old.index; status = status_ended old.status }

-- the answer of `end` for one of `close`: it lends this
abbrev pub lending : Bor (List ℕ) → Result ℕ StreamFault → Result (Bor (List ℕ)) StreamFault
lending text (Ok len) = Ok text
lending text (Err fault) = Err fault

-- the step that `feed` returns for an answer of `advance`: it lends this, if a chunk was finished
abbrev pub stepped : Bor (List ℕ) → ℕ → Result (ℕ × Bool) StreamFault → Result Step StreamFault
stepped chunk index (Ok a) =
    Ok (record { taken = a.0; index = index; chunk = if a.1 then Some chunk else None })
stepped chunk index (Err fault) = Err fault

module _ {B : Type 0} {n : ℕ} {g : _} (sealing : B → Seals) (opening : B → OpensBlock)
    (old : OpenerState B n g) where
  -- what `advance` does with a piece: what `feed` ensures of its step, which lends the plaintext in
  -- front of the buffer
  pub record OpenerAdvances (piece : List ℕ) (answer : Result (ℕ × Bool) StreamFault)
      (new : OpenerState B n g) : Type 0 where
    pub fed : (chunk : Bor (List ℕ)) → chunk.now ≡ take (text_length n) new.buffer.items
        → IsFed sealing opening (text_length n) (opener_view old) piece
        (stepped chunk new.index answer) (opener_view new)
    pub feeds : (chunk : Bor (List ℕ)) → chunk.now ≡ take (text_length n) new.buffer.items
        → Feeds opening n (opener_view old) piece (stepped chunk new.index answer)

-- ---- The steps of a replay.

-- more bytes came to the current segment
abbrev pub with_bytes : Standing → List ℕ → Standing
with_bytes s piece = record s { segment = with_piece s.segment piece }

module _ {B : Type 0} {n : ℕ} {g : _} (opening : B → OpensBlock) where
  -- a replay that stood where a standing says then stands where the step from it leads
  pub record Goes (old new : ReplayState B n g) (step : Standing → Standing) : Type 0 where
    pub stands : (s : Standing) → IsReplayAt opening (text_length n) (replay_view old) s
        → IsReplayAt opening (text_length n) (replay_view new) (step s)
    -- what room there is stays
    pub capacity : vec_capacity old.text ≤ vec_capacity new.text
    -- the key stays
    pub key : new.key ≡ old.key

  -- what a delivery does: it is taken, or memory runs out and nothing changes
  pub record Delivers (old : ReplayState B n g) (delivery : Delivery)
      (answer : Result (Unit {0}) Memory) (new : ReplayState B n g) : Type 0 where
    pub goes : OnOk answer (Goes old new
        (λ s. after_delivery (opening old.key.now) (text_length n) s delivery))
    pub err : OnErr answer (replay_view new ≡ replay_view old)
    pub memory : OnErr answer (IsCramped (text_length n) (replay_view old) delivery)

  -- what `feed_once` does with a piece: it takes this many bytes, unless the opener refuses it
  pub record ReplayFeeds (old : ReplayState B n g) (piece : List ℕ) (answer : Option ℕ)
      (new : ReplayState B n g) : Type 0 where
    -- some bytes are taken, at most the piece
    pub taken : IfSome answer (λ taken. (0 < taken) × (taken ≤ length piece))
    -- the segment is then that with the bytes that were taken
    pub fed : IfSome answer (λ taken. Goes old new (λ s. with_bytes s (take taken piece)))
    -- there is room for all plaintext that the rest of the piece may release
    pub room : IfSome answer (λ taken. vec_len new.text
        + whole_text (text_length n) (length new.opener.held + (length piece - taken))
        ≤ vec_capacity new.text)
    -- of a piece that is refused the segment is given all bytes
    pub refused : IfNone answer (Goes old new (λ s. with_bytes s piece))

-- ---- The steps of a sealer on its buffer.

-- the bytes of a block, or none
abbrev pub block_or_none : Option (List ℕ) → List ℕ
block_or_none None = []
block_or_none (Some block) = block

module _ {B : Type 0} (sealing : B → List ℕ → List ℕ → List ℕ) (n : ℕ) where
  -- the held plaintext grew by what was taken
  pub record Grows (old : SealerView B) (piece : List ℕ) (taken : ℕ)
      (new : SealerView B) : Type 0 where
    pub room : length old.held + taken ≤ n
    pub held : new.held ≡ old.held ++ take taken piece
    pub index : new.index ≡ old.index

  -- the held plaintext became a block that isn't the last, and the byte that was taken is the next
  -- plaintext
  pub record SealerCloses (old : SealerView B) (piece : List ℕ) (taken : ℕ) (block : List ℕ)
      (new : SealerView B) : Type 0 where
    pub full : length old.held ≡ n
    pub more : 0 < length piece
    pub one : taken ≡ 1
    pub sealed : block ≡ sealing old.key (nonce_bytes old.index false) old.held
    pub held : new.held ≡ take taken piece
    pub index : new.index ≡ old.index + 1

  -- the sealer took that much of the piece, and made that block, if any
  pub record IsStep (old : SealerView B) (piece : List ℕ) (taken : ℕ) (block : Option (List ℕ))
      (new : SealerView B) : Type 0 where
    pub key : new.key ≡ old.key
    pub finished : new.finished ≡ old.finished
    pub failed : new.failed ≡ false
    pub count : taken ≡ step_len n old.held piece
    pub cases : MatchOption block (Grows old piece taken new)
        (λ block. SealerCloses old piece taken block new)

-- the block in the buffer, if there is one, of an answer: what was taken, and whether there is
abbrev pub block_lent : List ℕ → ℕ × Bool → Option (List ℕ)
block_lent buffer answer = if answer.1 then Some buffer else None

module _ {B : Type 0} {n : ℕ} {g : _} (sealing : B → Seals) (old : SealerState B n g) where
  -- what `step` does with a piece
  pub record Steps (piece : List ℕ) (answer : Result (ℕ × Bool) StreamFault)
      (new : SealerState B n g) : Type 0 where
    -- bytes are taken, and the buffer may then be a block to lend
    pub ok : IfOk answer (λ s. IsStep sealing (text_length n) (sealer_view old) piece s.0
        (block_lent new.buffer.items s) (sealer_view new))
    -- the block is a full one
    pub whole : IfOk answer (λ s. s.1 ≡ true → length new.buffer.items ≡ n)
    -- no byte that is taken needs a chunk too many
    pub fits : IfOk answer
        (λ _. needs_too_many (text_length n) (sealer_view old) piece ≡ false)
    -- a byte that is refused needs a chunk too many
    pub refused : OnErr answer (needs_too_many (text_length n) (sealer_view old) piece ≡ true)
    -- the fault names the chunk that is open
    pub fault : IfErr answer (λ fault. fault ≡ too_many old.index)
    -- and all else stays
    pub err : OnErr answer (IsRefused (sealer_view old) (sealer_view new))
    -- an empty piece changes nothing
    pub still : length piece ≡ 0 → sealer_view new ≡ sealer_view old

-- what sealing the last chunk leaves, whichever plaintext it is of
module _ {B : Type 0} {n : ℕ} {g : _} (old : SealerState B n g) where
  pub record SealerSealsLast (answer : Result (Unit {0}) StreamFault)
      (new : SealerState B n g) : Type 0 where
    -- it finishes a sealer that wasn't refused
    pub ok : OnOk answer ((new.finished ≡ true) × (old.failed ≡ false))
    -- which holds the block
    pub after : OnOk answer ((new.failed ≡ false) × (new.index ≡ old.index)
        × (held_text new ≡ new.buffer.items))
    -- it is refused if a feed was, with the same fault
    pub fault : IfErr answer (λ fault. (old.failed ≡ true) × (fault ≡ too_many old.index))
    -- and all else stays
    pub err : OnErr answer (IsRefused (sealer_view old) (sealer_view new))
    -- the key stays
    pub key : new.key ≡ old.key

-- ---- The steps of sealing a complete plaintext.

module _ (sealing : Seals) (n : ℕ) (text : List ℕ) where
  -- what `seal_within` does with the bytes before the call
  pub record SealsWithin (old : List ℕ) (answer : Result (Unit {0}) StreamFault)
      (new : List ℕ) : Type 0 where
    -- the payload is appended
    pub sealed : OnOk answer (new ≡ old ++ payload sealing n text)
    -- Ok comes only for a plaintext of at most 2^48 chunks
    pub few : OnOk answer (chunk_count n text ≤ chunk_limit)
    -- any other is refused, at the last chunk that a payload may have
    pub refused : IfErr answer (λ fault. SealRefuses n text 0 (Stream fault))
    -- a refusal leaves the bytes before the call in front
    pub begun : OnErr answer (take (length old) new ≡ old)
