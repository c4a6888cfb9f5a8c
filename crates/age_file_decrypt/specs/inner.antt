-- What private functions do, step by step. No public contract cites this module.
use Rattle.std.specs.Prelude.{◌≡◌, ℕ, ◌+◌, ◌*◌, ◌^◌, ◌<◌, ◌≤◌, List, [], ◌++◌, length, Option}
use Rattle.std.specs.Prelude.{Result, Ok, Err, Bool, true, false, ◌⊎◌, Some, None, ◌/◌, ◌≢◌, IsSome}
use Rattle.std.specs.Prelude.{MatchResult, ◌-◌, min, OnOk, IsSomeAnd, ◌↔◌}
use Rattle.age_io.specs.Supply.{Supply}
use Rattle.age_io.specs.{IsAtEnd, SourceView, SinkView, HasFailed}
use Rattle.age_stanza.specs.{HeadText}
use Rattle.age_stanza.specs.declared.header.Header.{Header}
use Rattle.age_fault.specs.declared.fault.FileFault.{FileFault}
use Rattle.age_fault.specs.declared.fault.FileFault.TheVariants.{Read, ReadNeverEnds, NonceCut}
use Rattle.age_fault.specs.declared.fault.FileFault.TheVariants.{Stream, ShortText, Write}
use Rattle.age_fault.specs.declared.fault.FileFault.TheVariants.{OldTextDiffers, OtherFile}
use Rattle.age_fault.specs.declared.fault.FileFault.TheVariants.{PositionForged}
use Rattle.age_file_input.specs.{Ports, ports, pull_room, NoneFailed, ReadFailed, WriteFailed, Unread}
use Rattle.age_file_input.specs.{ReaderView, reader_view, view_of_reader, Start, start_at, Pulled}
use Rattle.age_file_input.specs.{PullFails, Uses, Passes}
use Rattle.age_file_decrypt.specs.Runs.{IsTagged, MarksView}
use Rattle.age_file_position.specs.{link_if, chain_if, file_id, chain, position_tag}
use Rattle.age_file_position.specs.declared.run_progress.RunProgress.{RunProgress}
use Rattle.age_file_input.specs.declared.reader.Reader.{Reader}
use Rattle.age_file_position.specs.declared.writer.Writer.{Writer}
use Rattle.std.specs.Simd.{first_chunks}
use Rattle.age_chunk.specs.{chunk_limit, chunk_length, block_length}
use Rattle.age_chunk.specs.declared.fault.StreamKind.TheVariants.{Truncated}
use Rattle.age_stream.specs.{IsPrefixOf, outcome, released, with_piece, has_failed, OpenerView}
use Rattle.age_stream.specs.{Stands}
use Rattle.age_stream.specs.declared.step.Status.TheVariants.{Failed, Done as AllDone}
use Rattle.age_keys.specs.{Opens, payload_key, position_key}
use Rattle.age_fault.specs.declared.key.KeyFault.{KeyFault}
use Rattle.age_file_position.specs.declared.position.Position.{Position}
use Rattle.age_file_position.specs.declared.position.PositionPolicy.{PositionPolicy}
use Rattle.age_file_position.specs.declared.position.PositionPolicy.TheVariants.{Kept}
use Rattle.age_file_decrypt.specs.declared.start.Unlocked.{Unlocked}
use Rattle.age_stream.specs.Segment.{Segment}
use Rattle.age_keys.specs.inner.{opens}
use Rattle.age_file_decrypt.specs.declared.decryption.Done.{Done}
use Rattle.age_file_decrypt.specs.declared.decryption.Stopped.{Stopped}
use Rattle.age_file_decrypt.specs.Decrypts.{StartFails}
use Rattle.age_file_position.specs.inner.{WriterView, Wrote, view_of_writer}

-- ---- Where a run stands, by its reader and its writer.

-- where a run stands
pub record Stage : Type 0 where
  pub reader : ReaderView
  pub writer : WriterView

abbrev pub stage : ReaderView → WriterView → Stage
stage reader writer = record { reader = reader; writer = writer }

abbrev pub ports_at : Stage → Ports
ports_at s = ports s.reader.source s.writer.sink

abbrev pub stage_of : {S O : Type 0} → (S → SourceView) → (O → SinkView) → Reader S → Writer O
    → Stage
stage_of source sink r w = stage (view_of_reader source r) (view_of_writer sink w)

-- ---- What pulls into the intake did.

-- the pulls that gave these bytes of another source are counted too
abbrev pub start_after : List ℕ → Supply → Start
start_after front source = record { source = source; before = length front }

-- ---- What was read up to a payload.

-- why no more came: the source is at its end, which is this fault, or a pull gave nothing
abbrev pub NoMore : FileFault → ReaderView → ReaderView → FileFault → Type 0
NoMore at_end old new fault = ((fault ≡ at_end) × IsAtEnd new.source.supply
    × (new.source.failed ≡ old.source.failed)) ⊎ PullFails old new fault

-- no more came, and all that was pulled was used
pub record Dries (at_end : FileFault) (old new : ReaderView) (bytes : List ℕ) (fault : FileFault)
    : Type 0 where
  pub uses : Uses old new bytes
  pub used : new.unread.bytes ≡ []
  pub why : NoMore at_end old new fault

-- some byte is there
pub record HasSome (old new : ReaderView) : Type 0 where
  pub passes : Passes old new []
  pub some : 0 < length new.unread.bytes
  pub few : length new.unread.bytes ≤ pull_room

abbrev pub NonceFails : ReaderView → ReaderView → FileFault → Type 0
NonceFails old new fault = (short : List ℕ) × (length short < 16)
    × Dries NonceCut old new short fault

-- the nonce was read; what follows it came with the last pull
pub record TakesNonce (old new : ReaderView) (nonce : List ℕ) : Type 0 where
  pub passes : Passes old new nonce
  pub few : length new.unread.bytes ≤ pull_room

-- a header was read and opened, and the nonce after it was read
pub record StartsAt (Allows : Header → List ℕ → Type 0) (old : SourceView) (new : ReaderView)
    (unlocked : Unlocked) : Type 0 where
  pub header : Header
  pub front : List ℕ
  pub text : HeadText header front
  pub opens : Opens Allows header unlocked.key
  pub size : length unlocked.nonce ≡ 16
  pub id : unlocked.id ≡ file_id front unlocked.nonce
  pub few : length new.unread.bytes ≤ pull_room
  pub pulled : Pulled (start_at old.supply) new.source.supply new.unread.pulls
      ((front ++ unlocked.nonce) ++ new.unread.bytes)
  pub unfailed : new.source.failed ≡ old.failed
  pub goes_on : new.source.supply.is_at_end ≡ false

-- ---- What of a source was passed over, and what of an earlier output was copied.

-- the source ended after a number of full blocks of n bytes, or failed before all were passed over
abbrev pub SkipFails : ℕ → ℕ → ReaderView → ReaderView → FileFault → Type 0
SkipFails n blocks old new fault = (bytes : List ℕ) × (length bytes < blocks * n)
    × Dries (Stream (record { kind = Truncated; chunk = length bytes / n })) old new bytes fault

-- this many blocks of n bytes were passed over
abbrev pub SkipsBlocks : ℕ → ℕ → ReaderView → ReaderView → Result (Unit {0}) FileFault → Type 0
SkipsBlocks n blocks old new (Ok done) = (bytes : List ℕ) × (length bytes ≡ blocks * n)
    × Passes old new bytes
SkipsBlocks n blocks old new (Err fault) = SkipFails n blocks old new fault

-- ---- What was copied of an earlier output. A chunk has n bytes.

-- one chunk more can be copied
pub record CanCopy (t : RunProgress) : Type 0 where
  -- its bytes can be counted
  pub room : t.written ≤ 2 ^ 64
  -- a payload may have a chunk after it
  pub limit : t.index + 1 < chunk_limit
  -- there is a chain that goes on
  pub kept : IsSome t.chain

-- why a copy stopped, after these bytes were written: all that the source gave, or its front if the
-- sink failed
pub record FailsInCopy (old new : ReaderView) (was now : WriterView) (out : List ℕ)
    (fault : FileFault) : Type 0 where
  pub pulled : List ℕ
  pub read : (start : Start) (used : List ℕ)
      → Pulled start old.source.supply old.unread.pulls (used ++ old.unread.bytes)
      → Pulled start new.source.supply new.unread.pulls (used ++ pulled)
  pub front : IsPrefixOf out pulled
  pub few : length pulled ≤ length out + pull_room
  pub why : ((out ≡ pulled) × NoMore ShortText old new fault × (now.sink.failed ≡ was.sink.failed))
      ⊎ ((fault ≡ Write) × HasFailed was.sink.failed now.sink.failed now.sink.failing
      × (new.source.failed ≡ old.source.failed))

-- a chunk was copied, and counted with its link
abbrev pub ChunkGoes : ℕ → ReaderView → ReaderView → WriterView → WriterView → List ℕ → Type 0
ChunkGoes n old new was now out = (length out ≡ n) × Passes old new out
    × (now.sink.failed ≡ was.sink.failed)
    × (now.tally.index ≡ was.tally.index + 1)
    × (now.tally.chain ≡ link_if was.tally.chain out)

-- this many chunks were copied, and the chain is over them
abbrev pub ChunksGo : ℕ → ℕ → ReaderView → ReaderView → WriterView → WriterView → List ℕ → Type 0
ChunksGo n chunks old new was now out = (length out ≡ chunks * n) × Passes old new out
    × (now.sink.failed ≡ was.sink.failed)
    × (now.tally.index ≡ chunks)
    × (now.tally.chain ≡ chain_if Kept (first_chunks n chunks out))

-- these bytes were written, and it went on so or failed so
pub record Copies (Goes : List ℕ → Type 0) (Fails : List ℕ → FileFault → Type 0) (was now : WriterView)
    (result : Result (Unit {0}) FileFault) : Type 0 where
  pub out : List ℕ
  pub wrote : Wrote was now out
  pub answered : MatchResult result (λ _. Goes out) (Fails out)

-- fewer bytes than these were written
abbrev pub ShortCopy : ℕ → ReaderView → ReaderView → WriterView → WriterView → List ℕ → FileFault → Type 0
ShortCopy size old new was now out fault = (length out < size) × FailsInCopy old new was now out fault

-- a chunk was copied
abbrev pub CopiesChunk : ℕ → ReaderView → ReaderView → WriterView → WriterView
    → Result (Unit {0}) FileFault → Type 0
CopiesChunk n old new was now result = Copies (ChunkGoes n old new was now) (ShortCopy n old new was now)
    was now result

-- a number of chunks was copied
abbrev pub CopiesAll : ℕ → ℕ → ReaderView → ReaderView → WriterView → WriterView
    → Result (Unit {0}) FileFault → Type 0
CopiesAll n chunks old new was now result = Copies (ChunksGo n chunks old new was now)
    (ShortCopy (chunks * n) old new was now) was now result

-- why the earlier output was not copied, or is not the one whose chain this is
abbrev pub TextFails : ℕ → ℕ → List ℕ → ReaderView → ReaderView → WriterView → WriterView
    → List ℕ → FileFault → Type 0
TextFails n chunks links old new was now out fault = ShortCopy (chunks * n) old new was now out fault
    ⊎ ((fault ≡ OldTextDiffers) × ChunksGo n chunks old new was now out
    × (chain (first_chunks n chunks out) ≢ links) × (length new.unread.bytes ≤ pull_room))

-- this many chunks were copied, which have this chain; it goes on if positions are kept
abbrev pub TextGoes : PositionPolicy → ℕ → ℕ → List ℕ → ReaderView → ReaderView → WriterView
    → WriterView → List ℕ → Type 0
TextGoes keep n chunks links old new was now out = (length out ≡ chunks * n) × Passes old new out
    × (now.sink.failed ≡ was.sink.failed) × (now.tally.index ≡ chunks)
    × (now.tally.chain ≡ chain_if keep (first_chunks n chunks out))
    × (chain (first_chunks n chunks out) ≡ links) × (length new.unread.bytes ≤ pull_room)

-- the earlier output was copied, and has this chain; its pulls are counted together with the file's
pub record CopiesOld (keep : PositionPolicy) (p : Position) (old new : SourceView)
    (before after : Unread) (was now : WriterView) (result : Result (Unit {0}) FileFault)
    : Type 0 where
  pub first : Unread
  pub none : first.bytes ≡ []
  pub counted_on : first.pulls ≡ before.pulls
  pub last : Unread
  pub copied : Copies (λ out. TextGoes keep chunk_length p.index p.chain (reader_view old first)
      (reader_view new last) was now out × (after.pulls ≡ last.pulls)) (TextFails chunk_length
      p.index p.chain (reader_view old first) (reader_view new last) was now) was now result
  pub kept : after.bytes ≡ before.bytes

-- ---- How a run's tally counts the chunks that were written. A chunk has n bytes.

-- all of the plaintext except for a part was written: the chunks that are counted are the full ones
-- that were released as not last, and the chain is over them, whatever bytes follow
pub record CountsChunks (keep : PositionPolicy) (opening : List ℕ → List ℕ → Option (List ℕ)) (n : ℕ)
    (base : List ℕ) (s : Segment) (unwritten : List ℕ) (p : RunProgress) : Type 0 where
  pub index : (more : List ℕ) → p.index
      ≡ min ((length (base ++ released opening n s) - length unwritten) / n)
      (outcome opening n (with_piece s more)).index
  pub chain_is : p.chain ≡ chain_if keep (first_chunks n p.index (base ++ released opening n s))

-- all of this plaintext was written, for this segment
pub record HasCounted (keep : PositionPolicy) (opening : List ℕ → List ℕ → Option (List ℕ)) (n : ℕ)
    (text : List ℕ) (s : Segment) (p : RunProgress) : Type 0 where
  pub index : p.index ≡ min (length text / n) (outcome opening n s).index
  pub chain_is : p.chain ≡ chain_if keep (first_chunks n p.index text)

-- ---- What was made of the bytes after a nonce. A chunk has n bytes.

-- one piece from a start, with an end or without
abbrev pub segment : ℕ → List ℕ → Bool → Segment
segment start bytes ended = record { start = start; bytes = bytes; ended = ended; late = false }

-- there is room for what is unread: few bytes for the pulls that were made
abbrev pub HasPlace : Stage → Type 0
HasPlace s = (s.writer.tally.written + length s.reader.unread.bytes
    ≤ 2 ^ 64 + pull_room * s.reader.unread.pulls) × (s.reader.unread.pulls ≤ 2 ^ 63)

module _ (opening : List ℕ → List ℕ → Option (List ℕ)) (n : ℕ) where
  -- the end was not seen, and so far there is no fault
  abbrev pub IsUnderWay : Segment → Type 0
  IsUnderWay s = (s.ended ≡ false) × (has_failed (outcome opening n s).status ≡ false)

  -- all of the plaintext was written, and the fault is where the segment stands; unless the sink
  -- failed
  abbrev pub SegmentFails : Stage → Stage → Segment → List ℕ → FileFault → Type 0
  SegmentFails old new s out (Stream fault) = ((outcome opening n s).status ≡ Failed fault)
      × (out ≡ released opening n s) × NoneFailed (ports_at old) (ports_at new)
  SegmentFails old new s out Write =
      ((length out < length (released opening n s)) ⊎ ((outcome opening n s).status ≡ AllDone))
      × WriteFailed (ports_at old) (ports_at new)
  SegmentFails old new s out Read = (out ≡ released opening n s) × IsUnderWay s
      × ReadFailed (ports_at old) (ports_at new)
  SegmentFails old new s out ReadNeverEnds = (out ≡ released opening n s) × IsUnderWay s
      × (new.reader.unread.pulls ≡ 2 ^ 63)
      × NoneFailed (ports_at old) (ports_at new)
  SegmentFails old new s out other = ⊥

  abbrev pub SegmentDone : Stage → Stage → Segment → List ℕ → Type 0
  SegmentDone old new s out = (s.ended ≡ true) × ((outcome opening n s).status ≡ AllDone)
      × (out ≡ released opening n s) × NoneFailed (ports_at old) (ports_at new)

  -- the bytes that were pulled are a segment, and a prefix of its plaintext was written
  pub record DecryptsPayload (start : ℕ) (old new : Stage) (result : Result (Unit {0}) FileFault)
      : Type 0 where
    pub bytes : List ℕ
    pub ended : Bool
    pub out : List ℕ
    pub fresh : List ℕ
    pub parts : old.reader.unread.bytes ++ fresh ≡ bytes
    pub pulled : (from : Start) (all : List ℕ)
        → Pulled from old.reader.source.supply old.reader.unread.pulls all
        → Pulled from new.reader.source.supply new.reader.unread.pulls (all ++ fresh)
    pub at_end : ended ≡ true ↔ IsAtEnd new.reader.source.supply
    pub wrote : Wrote old.writer new.writer out
    pub prefix : IsPrefixOf out (released opening n (segment start bytes ended))
    pub counts : (keep : PositionPolicy) (base : List ℕ) → length base ≡ start * n
        → old.writer.tally.index ≡ start
        → old.writer.tally.chain ≡ chain_if keep (first_chunks n start base)
        → HasCounted keep opening n (base ++ out) (segment start bytes ended) new.writer.tally
    pub answered : MatchResult result (λ _. SegmentDone old new (segment start bytes ended) out)
        (SegmentFails old new (segment start bytes ended) out)
    -- after Ok the sink has passed on what it took
    pub flushed : OnOk result (new.writer.sink.flushed ≡ true)

-- ---- What an opener was fed, and what of its plaintext was written. A chunk has n bytes.

module _ {B : Type 0} (opening : B → List ℕ → List ℕ → Option (List ℕ)) (n : ℕ) where
  -- since the first of these, an opener of this key was given a segment, whose plaintext was
  -- written, except for a part; after any base, the tally counts the chunks that were written
  pub record HasReleased (key : B) (first : WriterView) (o : OpenerView B) (now : WriterView)
      (s : Segment) (unwritten : List ℕ) : Type 0 where
    pub out : List ℕ
    pub key_is : o.key ≡ key
    pub stands : Stands opening n o s
    pub wrote : Wrote first now out
    pub text : released (opening key) n s ≡ out ++ unwritten
    pub counts : (keep : PositionPolicy) (base : List ℕ) → length base ≡ s.start * n
        → first.tally.index ≡ s.start
        → first.tally.chain ≡ chain_if keep (first_chunks n s.start base)
        → CountsChunks keep (opening key) n base s unwritten now.tally

  -- a fault of the opener, or of the sink, with what was left of the piece and not written: some
  -- plaintext, unless the opener came to the end
  abbrev pub FeedFails : OpenerView B → WriterView → WriterView → List ℕ → List ℕ → FileFault
      → Type 0
  FeedFails new was now left unwritten (Stream fault) = (new.status ≡ Failed fault) × (left ≡ [])
      × (unwritten ≡ []) × (now.sink.failed ≡ was.sink.failed)
  FeedFails new was now left unwritten Write =
      HasFailed was.sink.failed now.sink.failed now.sink.failing
      × ((0 < length unwritten) ⊎ ((left ≡ []) × (new.status ≡ AllDone)))
  FeedFails new was now left unwritten other = ⊥

  -- no fault; what the opener holds and what was written is no more than what it held, and was fed
  abbrev pub FeedGoes : OpenerView B → OpenerView B → WriterView → WriterView → List ℕ → Type 0
  FeedGoes old new was now fed = (length new.held + now.tally.written
      ≤ length old.held + was.tally.written + length fed)
      × (now.sink.failed ≡ was.sink.failed) × (has_failed new.status ≡ false)

  -- a prefix of these bytes was fed since the opener was made, and then it stopped
  pub record StopsFeed (key : B) (k : ℕ) (first : WriterView) (o : OpenerView B)
      (was now : WriterView) (bytes : List ℕ) (fault : FileFault) : Type 0 where
    pub fed : List ℕ
    pub left : List ℕ
    pub unwritten : List ℕ
    pub parts : bytes ≡ fed ++ left
    pub released : HasReleased key first o now (segment k fed false) unwritten
    pub why : FeedFails o was now left unwritten fault

  -- a piece was fed after any bytes
  abbrev pub FeedsPiece : OpenerView B → OpenerView B → WriterView → WriterView → List ℕ
      → Result (Unit {0}) FileFault → Type 0
  FeedsPiece old new was now piece result = (key : B) (k : ℕ) (first : WriterView) (fed : List ℕ)
      → HasReleased key first old was (segment k fed false) []
      → MatchResult result
      (λ _. HasReleased key first new now (segment k (fed ++ piece) false) [])
      (StopsFeed key k first new was now (fed ++ piece))

  -- the end came, after any bytes
  pub record ClosesPayload (key : B) (k : ℕ) (first : WriterView) (o : OpenerView B)
      (was now : WriterView) (fed : List ℕ) (result : Result (Unit {0}) FileFault) : Type 0 where
    pub unwritten : List ℕ
    pub released : HasReleased key first o now (segment k fed true) unwritten
    pub answered : MatchResult result
        (λ _. (o.status ≡ AllDone) × (unwritten ≡ []) × (now.sink.failed ≡ was.sink.failed))
        (FeedFails o was now [] unwritten)

  abbrev pub EndsFeed : OpenerView B → OpenerView B → WriterView → WriterView
      → Result (Unit {0}) FileFault → Type 0
  EndsFeed old new was now result = (key : B) (k : ℕ) (first : WriterView) (fed : List ℕ)
      → HasReleased key first old was (segment k fed false) []
      → ClosesPayload key k first new was now fed result

-- ---- What a decryption did.

-- if it is known: the position of this index and chain, in the file that was unlocked
pub record IsPositionAt (unlocked : Unlocked) (index : ℕ) (links : List ℕ) (p : Position)
    : Type 0 where
  pub index_is : p.index ≡ index
  pub file_id_is : p.file_id ≡ unlocked.id
  pub chain_is : p.chain ≡ links
  pub tag_is : p.tag ≡ position_tag (position_key unlocked.key unlocked.nonce) p.index p.file_id
      p.chain

abbrev pub PositionAt : Unlocked → ℕ → Option (List (List ℕ)) → Option Position → Type 0
PositionAt unlocked index (Some chunks) position =
    IsSomeAnd position (IsPositionAt unlocked index (chain chunks))
PositionAt unlocked index None position = position ≡ None

-- how a run ended: with what was written, and a position if it stopped
abbrev pub EndsAs : Unlocked → RunProgress → Result (Unit {0}) FileFault → Result Done Stopped → Type 0
EndsAs unlocked p (Ok done) result = result ≡ Ok (record { written = p.written })
EndsAs unlocked p (Err fault) result =
    (next : Option Position) × PositionAt unlocked p.index p.chain next
    × (result ≡ Err (record { fault = fault; written = p.written; position = next }))

-- a payload was opened from a chunk on, and its run ended so
pub record OpensPayload (unlocked : Unlocked) (start : ℕ) (old new : Stage)
    (result : Result Done Stopped) : Type 0 where
  pub run : Result (Unit {0}) FileFault
  -- the run released what the payload's key opens
  pub decrypts : DecryptsPayload (opens (payload_key unlocked.key unlocked.nonce)) chunk_length
      start old new run
  -- the answer is how it ended
  pub ended : EndsAs unlocked new.writer.tally run result

-- ---- How a decryption goes on at a position of its file.

-- there is room for what follows, if this many blocks are passed over
abbrev pub HasRoomAfter : ℕ → Stage → Type 0
HasRoomAfter blocks at = (now : ReaderView) (passed : List ℕ) → length passed ≡ blocks * block_length
    → Passes at.reader now passed → HasPlace (stage now at.writer)

-- the blocks were passed over, and the payload was opened from there on
pub record OpensRest (unlocked : Unlocked) (blocks : ℕ) (old new : Stage)
    (result : Result Done Stopped) : Type 0 where
  pub now : ReaderView
  pub passed : List ℕ
  pub size : length passed ≡ blocks * block_length
  pub passes : Passes old.reader now passed
  pub opened : OpensPayload unlocked blocks (stage now old.writer) new result

-- or not all of them were, and nothing was written
abbrev pub ResumesRest : Unlocked → ℕ → Stage → Stage → Result (Result Done Stopped) FileFault → Type 0
ResumesRest unlocked blocks old new result = MatchResult result (OpensRest unlocked blocks old new)
    (λ fault. SkipFails block_length blocks old.reader new.reader fault × (new.writer ≡ old.writer))

-- the marks of a run, if a chain was kept
abbrev pub marks_over : Unlocked → Option (List (List ℕ)) → Option MarksView
marks_over unlocked (Some chunks) = Some (record {
  key = position_key unlocked.key unlocked.nonce;
  file_id = unlocked.id;
  chunks = chunks;
})
marks_over unlocked None = None

-- ---- Whether a position is a file's, and was made under its key.

-- why a position is refused, for a file of this id, key and nonce
abbrev pub PositionRefused : Position → List ℕ → List ℕ → List ℕ → FileFault → Type 0
PositionRefused p id key nonce OtherFile = p.file_id ≢ id
PositionRefused p id key nonce PositionForged = (p.file_id ≡ id) × ¬ IsTagged p key nonce
PositionRefused p id key nonce other = ⊥

abbrev pub VerdictOn : Position → List ℕ → List ℕ → List ℕ → Result (Unit {0}) FileFault
    → Type 0
VerdictOn p id key nonce result = MatchResult result
    (λ _. (p.file_id ≡ id) × IsTagged p key nonce) (PositionRefused p id key nonce)

-- a file was read up to its payload, and the position is its
pub record StartsFor (Allows : Header → List ℕ → Type 0) (p : Position) (old : SourceView)
    (new : ReaderView) (unlocked : Unlocked) : Type 0 where
  pub starts : StartsAt Allows old new unlocked
  pub own : p.file_id ≡ unlocked.id
  pub tagged : IsTagged p unlocked.key unlocked.nonce

-- it wasn't, or the position is refused
abbrev pub StartForFails : (Header → List ℕ → Type 0) → (Header → KeyFault → Type 0) → Position
    → SourceView → ReaderView → FileFault → Type 0
StartForFails Allows Refused p old new fault = StartFails Allows Refused old new.source fault
    ⊎ ((unlocked : Unlocked) × StartsAt Allows old new unlocked
    × PositionRefused p unlocked.id unlocked.key unlocked.nonce fault)
