-- The contract view of an opener, the results of its calls, and the opener after them.
use Rattle.std.specs.Prelude.{ℕ, List, [], Option, Some, None, ◌≡◌, ◌+◌, ◌*◌, ◌/◌, ◌∷◌, length, take, Bool}
use Rattle.std.specs.Prelude.{true, false, Result, Ok, Err, if◌then◌else◌, ◌-◌, ◌<◌, ◌++◌, min, IfOk, IfErr}
use Rattle.std.specs.Prelude.{OnOk, OnErr, IfSome, IfNone}
use Rattle.std.specs.Borrow.{Bor}
use Rattle.std.specs.List.{flat_map}
use Rattle.age_chunk.specs.{OpensBlock, tag_length, text_length, Seals, chunk_limit}
use Rattle.age_chunk.specs.declared.fault.StreamFault.{StreamFault}
use Rattle.age_stream.specs.Segment.{Segment, outcome, rest_bytes, released, with_piece, with_end}
use Rattle.age_stream.specs.Headline.{ReleasesWritten}
use Rattle.age_stream.specs.declared.opener.OpenerState.{OpenerState}
use Rattle.age_stream.specs.declared.step.Status.{Status}
use Rattle.age_stream.specs.declared.step.Status.TheVariants.{Open, Failed, Done}
use Rattle.age_stream.specs.declared.step.Step.{Step}

-- ---- The bytes that a call lends.

-- the bytes of the block or plaintext that is lent, or none
abbrev pub chunk_bytes : Option (Bor (List ℕ)) → List ℕ
chunk_bytes None = []
chunk_bytes (Some chunk) = chunk.now

-- the plaintext that is lent, or none
abbrev pub chunk_texts : Option (Bor (List ℕ)) → List (List ℕ)
chunk_texts None = []
chunk_texts (Some chunk) = chunk.now ∷ []

-- ---- The contract view of an opener, and the results of its calls. A chunk has n bytes.

-- the view of an opener: its key, the bytes of the block that is open, the number of its chunk, and
-- its status
pub record OpenerView (B : Type 0) : Type 0 where
  pub key : B
  pub held : List ℕ
  pub index : ℕ
  pub status : Status

module _ {B : Type 0} {n : ℕ} {g : _} where
  -- the bytes of the block that is open
  abbrev pub held_bytes : OpenerState B n g → List ℕ
  held_bytes o = if o.lent then [] else o.buffer.items

  -- the view of an opener's state
  abbrev pub opener_view : OpenerState B n g → OpenerView B
  opener_view o =
      record { key = o.key.now; held = held_bytes o; index = o.index; status = o.status }

-- the opener refused a call
abbrev pub has_failed : Status → Bool
has_failed (Failed fault) = true
has_failed other = false

-- an opener was given this segment: it stands where the outcome says, and holds what is left after
-- all full blocks
pub record Stands {B : Type 0} (opening : B → OpensBlock) (n : ℕ) (o : OpenerView B)
    (s : Segment) : Type 0 where
  pub index : o.index ≡ (outcome (opening o.key) n s).index
  pub status : o.status ≡ (outcome (opening o.key) n s).status
  pub held : o.status ≡ Open → o.held ≡ rest_bytes n s.bytes
  pub timely : s.ended ≡ false → s.late ≡ false

-- the part of a piece that an opener was given: the bytes that it took, or all of them if it
-- refused
abbrev pub given : {T : Type 0} → (T → ℕ) → Result T StreamFault → List ℕ → List ℕ
given taken (Ok step) piece = take (taken step) piece
given taken (Err fault) piece = piece

-- the plaintexts that a call lends, by its result
abbrev pub handed : {T : Type 0} → (T → List (List ℕ)) → Result T StreamFault → List (List ℕ)
handed texts (Ok step) = texts step
handed texts (Err fault) = []

-- the bytes that a call lends, by its result
abbrev pub handed_bytes : Result (Bor (List ℕ)) StreamFault → List ℕ
handed_bytes (Ok text) = text.now
handed_bytes (Err fault) = []

-- the number while the opener is open, or else 0
abbrev pub while_open : Status → ℕ → ℕ
while_open Open len = len
while_open other len = 0

-- the number of bytes of plaintext in the full blocks of this many bytes
abbrev pub whole_text : ℕ → ℕ → ℕ
whole_text n len = len / (n + tag_length) * n

-- the number of bytes of plaintext that an end releases, if it releases any: those in the buffer,
-- without the tag
abbrev pub text_at_end : {B : Type 0} → OpenerView B → ℕ
text_at_end o = while_open o.status (text_length (length o.held))

-- the greatest number of bytes of plaintext that a piece releases
abbrev pub text_of_piece : {B : Type 0} → ℕ → OpenerView B → ℕ → ℕ
text_of_piece n o len = while_open o.status (whole_text n (length o.held + len))

-- ---- The results of an opener's calls, and the opener once a call returned and the loan ended. A
-- chunk has n bytes.

-- the segment with what a call took of the piece added, or all of it if the call refused
abbrev pub fed : Segment → List ℕ → Result Step StreamFault → Segment
fed s piece answer = with_piece s (given (λ (step : Step). step.taken) answer piece)

module _ {B : Type 0} (sealing : B → Seals) (opening : B → OpensBlock) (n : ℕ) (old : OpenerView B) where
  -- an opener after `feed`
  pub record IsFed (piece : List ℕ) (answer : Result Step StreamFault)
      (new : OpenerView B) : Type 0 where
    -- the key stays
    pub key : new.key ≡ old.key
    -- the opener stands for each segment that it stood for, with what was taken added
    pub stands : (s : Segment) → Stands opening n old s
        → Stands opening n new (fed s piece answer)
    -- the answer says at which chunk it stands
    pub index : IfOk answer (λ step. step.index ≡ new.index)
    -- a refusal is its status
    pub fault : IfErr answer (λ fault. new.status ≡ Failed fault)
    -- after Ok it isn't refused
    pub unfailed : OnOk answer (has_failed new.status ≡ false)
    -- a plaintext that is lent is a full chunk and ended the block that was open; nothing is held
    pub lent : IfOk answer (λ step. IfSome step.chunk (λ chunk. (length chunk.now ≡ n)
        × (length old.held + step.taken ≡ n + tag_length) × (new.held ≡ [])))
    -- all that was taken is in the buffer if nothing is lent
    pub unlent : IfOk answer (λ step. IfNone step.chunk
        (length new.held ≡ length old.held + step.taken))
    -- a refusal leaves nothing held
    pub refused : OnErr answer (new.held ≡ [])
    -- an empty piece changes nothing
    pub unchanged : length piece ≡ 0 → new ≡ old
    -- the headline: while what opens is the writer's, what was released is a prefix of the
    -- plaintext
    pub written : (s : Segment) → Stands opening n old s
        → ReleasesWritten (sealing old.key) (opening old.key) n (fed s piece answer)
        (released (opening old.key) n s
        ++ flat_map (λ (text : List ℕ). text)
        (handed (λ (step : Step). chunk_texts step.chunk) answer)) new.status

  -- an opener after `end`
  pub record IsEnded (answer : Result (Bor (List ℕ)) StreamFault)
      (new : OpenerView B) : Type 0 where
    -- the key stays
    pub key : new.key ≡ old.key
    -- the opener stands for each segment that it stood for, ended
    pub stands : (s : Segment) → Stands opening n old s → Stands opening n new (with_end s)
    -- a refusal is its status
    pub fault : IfErr answer (λ fault. new.status ≡ Failed fault)
    -- after Ok it is done
    pub done : OnOk answer (new.status ≡ Done)
    -- the buffer is empty
    pub nothing_held : new.held ≡ []
    -- the headline: while what opens is the writer's, Ok comes only with all of the plaintext
    pub written : (s : Segment) → Stands opening n old s
        → ReleasesWritten (sealing old.key) (opening old.key) n (with_end s)
        (released (opening old.key) n s ++ handed_bytes answer) new.status

-- the results of `feed` and `end`, for blocks of `size` bytes
module _ {B : Type 0} (opening : B → OpensBlock) (size : ℕ) (old : OpenerView B) where
  -- the result of `feed`
  pub record Feeds (piece : List ℕ) (answer : Result Step StreamFault) : Type 0 where
    -- the outcome gains the plaintext that is lent
    pub texts : (s : Segment) → Stands opening (text_length size) old s
        → (outcome (opening old.key) (text_length size) (fed s piece answer)).texts
        ≡ (outcome (opening old.key) (text_length size) s).texts
        ++ handed (λ (step : Step). chunk_texts step.chunk) answer
    -- bytes are taken up to the end of the block that is open
    pub taken : IfOk answer (λ step. step.taken ≡ min (size - length old.held) (length piece))
    -- some are taken of a piece that isn't empty
    pub some : IfOk answer (λ step. 0 < length piece → 0 < step.taken)
    -- the opener then stands at a chunk that a payload may have
    pub limit : IfOk answer (λ step. step.index < chunk_limit)
    -- an empty piece lends nothing
    pub nothing : length piece ≡ 0 → IfOk answer (λ step. chunk_texts step.chunk ≡ [])
    -- a fault that came before comes again
    pub again : IfErr answer
        (λ fault. (earlier : StreamFault) → old.status ≡ Failed earlier → fault ≡ earlier)
    -- Ok comes only if no call before was refused
    pub unfailed : OnOk answer (has_failed old.status ≡ false)
    -- bytes are taken only while a block is open
    pub was_open : OnOk answer (0 < length piece → old.status ≡ Open)

  -- the result of `end`
  pub record Ends (answer : Result (Bor (List ℕ)) StreamFault) : Type 0 where
    -- the plaintext that is lent is what the segment releases at its end
    pub text : (s : Segment) → Stands opening (text_length size) old s
        → released (opening old.key) (text_length size) (with_end s)
        ≡ released (opening old.key) (text_length size) s ++ handed_bytes answer
    -- the plaintext that is lent is as long as what was held, without a tag; empty if no block was
    -- open
    pub len : IfOk answer (λ text. length text.now ≡ text_at_end old)
    -- a fault that came before comes again
    pub again : IfErr answer
        (λ fault. (earlier : StreamFault) → old.status ≡ Failed earlier → fault ≡ earlier)
    -- Ok comes only if no call before was refused
    pub unfailed : OnOk answer (has_failed old.status ≡ false)
