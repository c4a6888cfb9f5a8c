-- The promise of several calls together: a decryption and its resumptions, or both directions.
use Rattle.age_io.specs.Supply.{Supply}
use Rattle.age_io.specs.{Consumes, IsAtEnd}
use Rattle.age_io.specs.Taken.{Appends}
use Rattle.std.specs.Prelude.{◌≡◌, ◌⊎◌, ℕ, List, [], ◌∷◌, ◌≤◌, Option, Some, None, IfSome, ◌<◌}
use Rattle.std.specs.Prelude.{IsSomeAnd, Result, MatchResult, ◌*◌, take, drop, length, ◌++◌, IfOk}
use Rattle.std.specs.Prelude.{IfErr}
use Rattle.age_stanza.specs.declared.header.Header.{Header}
use Rattle.age_fault.specs.declared.head.HeadFault.{HeadFault}
use Rattle.age_chunk.specs.{chunk_count, chunk_length, chunk_limit, block_length, payload}
use Rattle.age_stream.specs.{IsPrefixOf}
use Rattle.age_stream.specs.declared.step.Status.TheVariants.{Done as AllDone}
use Rattle.age_keys.specs.{box, Opens, FileOf}
use Rattle.age_fault.specs.declared.key.KeyFault.{KeyFault}
use Rattle.age_file_decrypt.specs.Runs.{Run, IsFromStart, run_outcome, run_text, held, IsTexts}
use Rattle.age_file_decrypt.specs.Runs.{IsAuthenticRun, IsPositionOf, IsPositionWithin, CarriesText}
use Rattle.age_file_decrypt.specs.Runs.{IsRun, IsDone, OpenedFile, Reads, BelongsTo}
use Rattle.age_file_input.specs.{Ports, IsHeadFault, ReportsFault, pull_room}
use Rattle.age_file_decrypt.specs.Resumes.{IsOldText, Resumption, IsBoundTo, IsUndamagedRest}
use Rattle.age_file_decrypt.specs.Resumes.{from_either}
use Rattle.age_file_decrypt.specs.Decrypts.{DecryptAnswers, Decrypts, IsUndamagedFile, StopsOutside}
use Rattle.age_file_decrypt.specs.Decrypts.{WritesText, from_start}
use Rattle.age_file_position.specs.declared.position.Position.{Position}
use Rattle.age_file_decrypt.specs.declared.decryption.Done.{Done}
use Rattle.age_file_decrypt.specs.declared.decryption.Stopped.{Stopped}
use Rattle.age_file_position.specs.declared.position.PositionPolicy.{PositionPolicy}

-- ---- Runs in a row, each from the file's start, or with the output of the run before as its
-- earlier output.

-- a run, and the position that it began from, if any; it has no bytes if it stopped in the blocks
-- that are skipped
pub record BegunRun : Type 0 where
  pub from : Option Position
  pub run : Run

-- the output of the last run; the last comes first in the list
abbrev pub held_last : List BegunRun → List ℕ
held_last [] = []
held_last (r ∷ earlier) = held r.run

-- two positions have the same fields
pub record IsSame (p next : Position) : Type 0 where
  pub index : next.index ≡ p.index
  pub file_id_is : next.file_id ≡ p.file_id
  pub chain_is : next.chain ≡ p.chain
  pub tag_is : next.tag ≡ p.tag

-- a position of a run: of its stop, or within a part of what it wrote
abbrev pub YieldsPosition : Run → Position → Type 0
YieldsPosition r p = (bytes : ℕ) × IsPositionWithin r bytes p

-- a run begins at the file's start, or from a position; the bytes that it copied are a prefix of
-- the earlier output, and have the position's hash chain
abbrev pub BeginsAfter : (before : List ℕ) → Option Position → Run → Type 0
BeginsAfter before None r = IsFromStart r
BeginsAfter before (Some p) r = (r.first ≡ p.index) × IsPrefixOf r.copied before × IsOldText p r.copied

-- a run follows on earlier ones
pub record FollowsOn (text : List ℕ) (earlier : List BegunRun) (r : BegunRun) : Type 0 where
  pub begins : BeginsAfter (held_last earlier) r.from r.run
  -- after its earlier output it wrote a prefix of the plaintext that it released
  pub prefix : IsPrefixOf r.run.out (run_text r.run)
  -- no block that came and is tried opens, except as the writer of this plaintext sealed it
  pub authentic : IsTexts text r.run

-- each run follows on those before it
abbrev pub AllFollow : List ℕ → List BegunRun → Type 0
AllFollow text [] = Unit {0}
AllFollow text (r ∷ earlier) = FollowsOn text earlier r × AllFollow text earlier

-- the output of the last of such runs, and the positions that it returned
pub record WritesRight (text : List ℕ) (r : BegunRun) : Type 0 where
  -- the output is a prefix of the plaintext
  pub prefix : IsPrefixOf (held r.run) text
  -- the output of one more run, which stopped while it copied that output, is a prefix of the
  -- plaintext too
  pub in_copy : (copied : List ℕ) → IsPrefixOf copied (held r.run) → IsPrefixOf copied text
  -- the output is all of the plaintext if the run ended with all of its plaintext written
  pub all : r.run.out ≡ run_text r.run → (run_outcome r.run).status ≡ AllDone → held r.run ≡ text
  -- each position that the run returned, or began from, has the hash chain over the plaintext's
  -- first chunks
  pub carries : (p : Position) → YieldsPosition r.run p ⊎ IsSomeAnd r.from (λ from. IsSame from p)
      → CarriesText text p

-- the law of runs in a row: the last one writes right
abbrev pub RunsInARow : Type 0
RunsInARow = (text : List ℕ) (last : BegunRun) (earlier : List BegunRun)
    → chunk_count chunk_length text ≤ chunk_limit → AllFollow text (last ∷ earlier)
    → WritesRight text last

-- ---- Calls in a row, each from the file's start, or with what the sink of the call before took,
-- or its beginning, as its earlier output. What each call did is what its contract promises.

-- the sink took all of the plaintext if the call is done, and else a prefix of it; and a position
-- that is returned is right
abbrev pub AnswersRight : List ℕ → List ℕ → Result Done Stopped → Type 0
AnswersRight text took result = MatchResult result (λ done. took ≡ text)
    (λ stopped. IsPrefixOf took text × IfSome stopped.position (CarriesText text))

-- the law is about any unlockers, and the keys and faults that they allow
module _ (Who : Type 0) (Allows : Who → Header → List ℕ → Type 0)
    (Refused : Who → Header → KeyFault → Type 0) where
  -- a call, from a file's start or from a position, and what its sink took
  pub record DecryptCall : Type 0 where
    pub keep : PositionPolicy
    pub who : Who
    pub from : Option Resumption
    pub old : Ports
    pub new : Ports
    pub result : Result Done Stopped
    pub run : Option Run
    pub took : List ℕ
    pub wrote : Appends old.sink.taken new.sink.taken took
    pub answers : DecryptAnswers keep (Allows who) (from_either (Allows who) (Refused who) from) old new run
        result

  -- the bytes that the last call's sink took; the last comes first in the list
  abbrev pub last_took : List DecryptCall → List ℕ
  last_took [] = []
  last_took (c ∷ earlier) = c.took

  -- the source of the earlier output gave a prefix of what the sink of the call before took, from
  -- whatever position the call begins
  abbrev pub AreInARow : List DecryptCall → Type 0
  AreInARow [] = Unit {0}
  AreInARow (c ∷ earlier) = IfSome c.from (λ e. (given : List ℕ)
      → Consumes e.first.supply e.last.supply given → IsPrefixOf given (last_took earlier))
      × AreInARow earlier

  -- the run of each call, if it came to its payload, is authentic for one plaintext
  abbrev pub AreTexts : List ℕ → List DecryptCall → Type 0
  AreTexts text [] = Unit {0}
  AreTexts text (c ∷ earlier) = IfSome c.run (IsTexts text) × AreTexts text earlier

  -- each of the calls returns a right result
  abbrev pub AllAnswerRight : List ℕ → List DecryptCall → Type 0
  AllAnswerRight text [] = Unit {0}
  AllAnswerRight text (c ∷ earlier) = AnswersRight text c.took c.result × AllAnswerRight text earlier

  -- the law of calls in a row: each of them returns a right result
  abbrev pub CallsInARow : Type 0
  CallsInARow = (text : List ℕ) (calls : List DecryptCall) → chunk_count chunk_length text ≤ chunk_limit
      → AreInARow calls → AreTexts text calls → AllAnswerRight text calls

-- ---- Bound positions: what a position that carries a plaintext's chain says of a resumed run.

-- the position binds a run that begins from it to this plaintext
pub record BindsTo (text : List ℕ) (p : Position) (r : Run) : Type 0 where
  pub few : chunk_count chunk_length text ≤ chunk_limit
  pub index : r.first ≡ p.index
  pub old_text : IsOldText p r.copied
  -- the position carries the chain over the plaintext's first chunks, and the bytes that were
  -- copied have that chain only if they are these chunks
  pub to : IsBoundTo p r.copied text
  -- no block that came and is tried opens, except as the writer of this plaintext sealed it
  pub authentic : IsTexts text r

-- the copied bytes are the plaintext's, and the output is a prefix of it
pub record Bound (text : List ℕ) (p : Position) (r : Run) : Type 0 where
  pub copied : r.copied ≡ take (p.index * chunk_length) text
  pub begins : IsPrefixOf (held r) text

-- the law of bound positions, for any unlockers
module _ (Who : Type 0) (Allows : Who → Header → List ℕ → Type 0) where
  -- every run that a position binds to a plaintext is bound
  abbrev pub RunsAreBound : Type 0
  RunsAreBound = (who : Who) (text : List ℕ) (p : Position) (old new : Ports) (written : ℕ) (r : Run)
      → BindsTo text p r → IsRun (Allows who) old new written r → Bound text p r

  -- a call that is done, in a run that a position binds to a plaintext, wrote all of that plaintext
  abbrev pub DoneIsBound : Type 0
  DoneIsBound = (who : Who) (text : List ℕ) (p : Position) (old new : Ports) (written : ℕ) (r : Run)
      → BindsTo text p r → IsDone (Allows who) old new written r → held r ≡ text

-- ---- The laws of one run, and of one call.

-- the law of a run that is authentic: its output is a prefix of the plaintext, each of its
-- positions has the hash chain over the plaintext's first chunks, and if it is done, all of the
-- plaintext was written
abbrev pub AuthenticRuns : (Who : Type 0) → (Who → Header → List ℕ → Type 0) → Type 0
AuthenticRuns Who Allows = (who : Who) (old new : Ports) (written : ℕ) (r : Run) (text : List ℕ)
    → r.first < chunk_limit → IsAuthenticRun r text
    → (IsRun (Allows who) old new written r → IsPrefixOf (held r) text
    × ((p : Position) → IsPositionOf r p ⊎ YieldsPosition r p → CarriesText text p))
    × (IsDone (Allows who) old new written r → held r ≡ text)

-- a header's fault that was found in what was read is the fault of all that the source had
abbrev pub HeadFaultsStay : Type 0
HeadFaultsStay = (old new : Supply) (fault : HeadFault) → ReportsFault old new fault
    → IfSome old.left (λ all. IsHeadFault all fault)

-- a file is undamaged, and a resumption fits it
abbrev pub IsUndamagedFrom : (Header → List ℕ → Type 0) → (Header → KeyFault → Type 0) → Option Resumption
    → Supply → List ℕ → Type 0
IsUndamagedFrom Allows Refused None coming text = IsUndamagedFile Allows Refused coming text
IsUndamagedFrom Allows Refused (Some e) coming text = IsUndamagedRest Allows Refused e coming text

-- the plaintext of an age file that is undamaged is written, unless reading, writing or memory
-- fails
abbrev pub UndamagedIsWritten : (Who : Type 0) → (Who → Header → List ℕ → Type 0)
    → (Who → Header → KeyFault → Type 0) → Type 0
UndamagedIsWritten Who Allows Refused = (keep : PositionPolicy) (who : Who) (from : Option Resumption)
    (old new : Ports) (result : Result Done Stopped) (text : List ℕ)
    → Decrypts keep (Allows who) (from_either (Allows who) (Refused who) from) old new result
    → IsUndamagedFrom (Allows who) (Refused who) from old.source.supply text
    → MatchResult result (λ done. WritesText old.sink.taken new.sink.taken done.written text)
    (λ stopped. StopsOutside stopped.fault)

-- ---- The bytes that a source gave, whatever it is over.

-- the source gave the age file of this plaintext, which the unlocker opens, and is at its end
pub record GaveFile (Allows : Header → List ℕ → Type 0) (old new : Supply) (text : List ℕ)
    : Type 0 where
  pub header : Header
  pub key : List ℕ
  pub nonce : List ℕ
  pub bytes : List ℕ
  pub read : Consumes old new bytes
  pub file : FileOf header key nonce text bytes
  pub opens : Opens Allows header key
  pub at_end : IsAtEnd new

-- the earlier output gave this plaintext's chunks before the position, which have the position's
-- chain, and at most one pull more
pub record GaveOld (p : Position) (old new : Supply) (text : List ℕ) : Type 0 where
  pub more : List ℕ
  pub read : Consumes old new (take (p.index * chunk_length) text ++ more)
  pub few : length more ≤ pull_room
  pub carries : CarriesText text p

-- a source gave the header and the nonce of the position's file, which the unlocker opens, the
-- blocks before the position's chunk, and then the payload of this plaintext from that chunk on, to
-- its end
pub record GaveRest (Allows : Header → List ℕ → Type 0) (p : Position) (old new : Supply)
    (text : List ℕ) : Type 0 where
  pub file : OpenedFile
  pub own : BelongsTo p file
  -- the blocks before are counted, and not opened
  pub skipped : List ℕ
  pub size : length skipped ≡ p.index * block_length
  -- the plaintext has that chunk
  pub below : p.index < chunk_count chunk_length text
  pub few : chunk_count chunk_length text ≤ chunk_limit
  pub read : Reads Allows old new file (skipped
      ++ drop (p.index * block_length) (payload (box file.key file.nonce) chunk_length text))
  pub at_end : IsAtEnd new

-- the sources gave this plaintext: its age file; or, if it was resumed, its chunks before the
-- position and the rest of its payload
abbrev pub GaveText : (Header → List ℕ → Type 0) → Option Resumption → Supply → Supply → List ℕ → Type 0
GaveText Allows None old new text = GaveFile Allows old new text
GaveText Allows (Some e) old new text = GaveOld e.position e.first.supply e.last.supply text
    × GaveRest Allows e.position old new text

module _ (Who : Type 0) (Allows : Who → Header → List ℕ → Type 0)
    (Refused : Who → Header → KeyFault → Type 0) where
  -- the sources of a decryption that is done gave a plaintext, and what its sink took is exactly
  -- that
  abbrev pub DoneGaveText : Type 0
  DoneGaveText = (keep : PositionPolicy) (who : Who) (from : Option Resumption) (old new : Ports)
      (result : Result Done Stopped)
      → Decrypts keep (Allows who) (from_either (Allows who) (Refused who) from) old new result
      → IfOk result (λ done. (text : List ℕ)
      × GaveText (Allows who) from old.source.supply new.source.supply text
      × WritesText old.sink.taken new.sink.taken done.written text)

  -- the source of a decryption that is done, if it shows its bytes from its start, had the age file
  -- of the plaintext; and a sink that shows its contents has the plaintext after its earlier
  -- contents
  abbrev pub DoneIsFile : Type 0
  DoneIsFile = (keep : PositionPolicy) (who : Who) (old new : Ports) (result : Result Done Stopped)
      (coming held : List ℕ)
      → Decrypts keep (Allows who) (from_start (Allows who) (Refused who)) old new result
      → old.source.supply.left ≡ Some coming → old.sink.taken.contents ≡ Some held
      → IfOk result (λ done. (text : List ℕ) × (header : Header) × (key : List ℕ) × (nonce : List ℕ)
      × FileOf header key nonce text coming × (new.sink.taken.contents ≡ Some (held ++ text)))

-- a source gave the header and the nonce of the position's file, which the unlocker opens, and at
-- least the blocks before the position's chunk: they begin the payload of each plaintext that
-- begins with this plaintext's chunks before the position, and has more
pub record GaveFront (Allows : Header → List ℕ → Type 0) (p : Position) (old new : Supply)
    (text : List ℕ) : Type 0 where
  pub file : OpenedFile
  pub own : BelongsTo p file
  pub carries : CarriesText text p
  pub rest : List ℕ
  pub read : Reads Allows old new file rest
  pub blocks : (whole : List ℕ) → IsPrefixOf (take (p.index * chunk_length) text) whole
      → p.index < chunk_count chunk_length whole → chunk_count chunk_length whole ≤ chunk_limit
      → IsPrefixOf (take (p.index * block_length)
      (payload (box file.key file.nonce) chunk_length whole)) rest

-- the source of a decryption that stopped at a position gave the blocks before it, of the plaintext
-- that its sink took
abbrev pub StoppedGaveFront : (Who : Type 0) → (Who → Header → List ℕ → Type 0)
    → (Who → Header → KeyFault → Type 0) → Type 0
StoppedGaveFront Who Allows Refused = (keep : PositionPolicy) (who : Who) (old new : Ports)
    (result : Result Done Stopped)
    → Decrypts keep (Allows who) (from_start (Allows who) (Refused who)) old new result
    → IfErr result (λ stopped. IfSome stopped.position (λ p. (text : List ℕ)
    × GaveFront (Allows who) p old.source.supply new.source.supply text
    × WritesText old.sink.taken new.sink.taken stopped.written text))

-- the source of a resumed decryption that is done gave the age file of all that its sink took, if
-- an earlier decryption stopped at the position, in the same file by the same key, over the same
-- blocks and after the same plaintext
abbrev pub RestIsFile : (Who : Type 0) → (Who → Header → List ℕ → Type 0) → Type 0
RestIsFile Who Allows = (first next : Who) (p : Position) (was became old new : Supply)
    (before text : List ℕ) (front : GaveFront (Allows first) p was became before)
    (rest : GaveRest (Allows next) p old new text) → rest.file ≡ front.file
    → IsPrefixOf rest.skipped front.rest → IsPrefixOf (take (p.index * chunk_length) before) text
    → GaveFile (Allows next) old new text
