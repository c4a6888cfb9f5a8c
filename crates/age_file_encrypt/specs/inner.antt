-- What private functions do, step by step. No public contract cites this module.
use Rattle.std.specs.Prelude.{◌≡◌, ℕ, ◌+◌, ◌*◌, ◌^◌, ◌<◌, ◌≤◌, List, ◌++◌, length}
use Rattle.std.specs.Prelude.{Result, true, false, MatchResult, ◌-◌, OnOk, IfOk, IfErr}
use Rattle.age_io.specs.{Consumes, IsAtEnd, SourceView, SinkView, HasFailed}
use Rattle.age_io.specs.Taken.{Appends}
use Rattle.age_fault.specs.declared.fault.FileFault.{FileFault}
use Rattle.age_fault.specs.declared.fault.FileFault.TheVariants.{Read, ReadNeverEnds, Stream, Write}
use Rattle.age_file_input.specs.{Ports, ports, NoneFailed, ReadFailed, WriteFailed, IsByAllPulls}
use Rattle.age_file_input.specs.declared.reader.Reader.{Reader}
use Rattle.age_file_position.specs.declared.writer.Writer.{Writer}
use Rattle.age_chunk.specs.{chunk_limit, sealed_before_last, block_bytes, payload, chunk_count}
use Rattle.age_stream.specs.{IsPrefixOf, SealerView, Holds, too_many}
use Rattle.age_file_encrypt.specs.declared.encryption.Written.{Written}
use Rattle.age_file_position.specs.inner.{WriterView, Wrote}

-- ---- Where a run stands, by its reader and its writer.

abbrev pub ports_of : {S O : Type 0} → (S → SourceView) → (O → SinkView) → Reader S → Writer O
    → Ports
ports_of source sink r w = ports (source r.source.now) (sink w.sink.now)

-- ---- What stands before the payload.

-- these bytes were written, the first of a call
pub record WroteFront (front : List ℕ) (was now : WriterView) : Type 0 where
  pub wrote : Appends was.sink.taken now.sink.taken front
  pub count : now.tally.written ≡ length front
  pub failed : now.sink.failed ≡ was.sink.failed

-- the sink failed in them
pub record CutFront (front : List ℕ) (was now : WriterView) : Type 0 where
  pub out : List ℕ
  pub unwritten : List ℕ
  pub parts : front ≡ out ++ unwritten
  pub wrote : Appends was.sink.taken now.sink.taken out
  pub failed : HasFailed was.sink.failed now.sink.failed now.sink.failing

abbrev pub WritesFront : List ℕ → WriterView → WriterView → Result (Unit {0}) FileFault → Type 0
WritesFront front was now result = MatchResult result (λ _. WroteFront front was now)
    (λ fault. (fault ≡ Write) × CutFront front was now)

-- ---- What a sealer was fed, and what of its blocks was written.

-- the blocks before the last, joined
abbrev pub front_of : (List ℕ → List ℕ → List ℕ) → ℕ → List ℕ → List ℕ
front_of sealing n text = block_bytes (sealed_before_last sealing n text)

-- a sealer that may be fed: neither finished nor refused
pub record IsFeeding {B : Type 0} (s : SealerView B) : Type 0 where
  pub unfinished : s.finished ≡ false
  pub sound : s.failed ≡ false

-- why a plaintext wasn't sealed: it has more than 2^48 chunks, or the sink failed
abbrev pub SealFails : ℕ → WriterView → WriterView → List ℕ → FileFault → Type 0
SealFails n first now text (Stream fault) = (chunk_limit * n < length text)
    × (fault ≡ too_many (chunk_limit - 1)) × (now.sink.failed ≡ first.sink.failed)
SealFails n first now text Write = HasFailed first.sink.failed now.sink.failed now.sink.failing
SealFails n first now text other = ⊥

module _ {B : Type 0} (sealing : B → List ℕ → List ℕ → List ℕ) (n : ℕ) where
  -- since the first of these, a sealer of this key was fed a plaintext, and its blocks before the
  -- last were written
  pub record HasSealedFront (key : B) (first : WriterView) (s : SealerView B) (now : WriterView)
      (text : List ℕ) : Type 0 where
    pub key_is : s.key ≡ key
    pub feeding : IsFeeding s
    pub holds : Holds n s text
    pub wrote : Wrote first now (front_of (sealing key) n text)
    pub same : now.sink.failed ≡ first.sink.failed

  -- a prefix of the payload of a plaintext was written, and then it stopped
  pub record CutsPayload (key : B) (first now : WriterView) (text : List ℕ) (fault : FileFault)
      : Type 0 where
    pub out : List ℕ
    pub wrote : Wrote first now out
    pub prefix : IsPrefixOf out (payload (sealing key) n text)
    pub why : SealFails n first now text fault

  -- what was written and is still to be written fits its count: the blocks of a plaintext that
  -- isn't too long, and something before them
  pub record HasRoom (s : SealerView B) (now : WriterView) (more : ℕ) : Type 0 where
    pub key : B
    pub first : WriterView
    pub text : List ℕ
    pub sealed : HasSealedFront key first s now text
    pub small : length text + more ≤ 2 ^ 96
    pub count : first.tally.written ≤ 2 ^ 126

  -- a piece was fed after any plaintext
  abbrev pub SealsPiece : SealerView B → SealerView B → WriterView → WriterView → List ℕ
      → Result (Unit {0}) FileFault → Type 0
  SealsPiece old new was now piece result = (key : B) (first : WriterView) (text : List ℕ)
      → HasSealedFront key first old was text
      → MatchResult result (λ _. HasSealedFront key first new now (text ++ piece))
      (CutsPayload key first now (text ++ piece))

  -- the last block of any plaintext was written, or a prefix of it
  abbrev pub SealsRest : SealerView B → WriterView → WriterView → Result (Unit {0}) FileFault
      → Type 0
  SealsRest old was now result = (key : B) (first : WriterView) (text : List ℕ)
      → HasSealedFront key first old was text → (chunk_count n text ≤ chunk_limit)
      × MatchResult result (λ _. Wrote first now (payload (sealing key) n text)
      × (now.sink.failed ≡ first.sink.failed)) (CutsPayload key first now text)

-- ---- A source, to its end.

-- this much was read from a source, and this much written
pub record ReadsWrites (old new : Ports) (written_old written_new : ℕ) (text out : List ℕ)
    : Type 0 where
  pub read : Consumes old.source.supply new.source.supply text
  pub wrote : Appends old.sink.taken new.sink.taken out
  pub count : written_new ≡ written_old + length out
  pub small : length text ≤ 2 ^ 80

module _ (sealing : List ℕ → List ℕ → List ℕ) (n : ℕ) where
  -- why a source wasn't sealed to its end; if no more came of it, the blocks of what did come were
  -- written, except for the last
  abbrev pub SealingFails : Ports → Ports → (text out : List ℕ) → FileFault → Type 0
  SealingFails old new text out (Stream fault) = (chunk_limit * n < length text)
      × (fault ≡ too_many (chunk_limit - 1)) × NoneFailed old new
  SealingFails old new text out Read = (out ≡ front_of sealing n text) × ReadFailed old new
  SealingFails old new text out Write = WriteFailed old new
  SealingFails old new text out ReadNeverEnds = (out ≡ front_of sealing n text)
      × IsByAllPulls (length text) × NoneFailed old new
  SealingFails old new text out other = ⊥

  -- a source was read to its end, and its plaintext was sealed and written
  pub record SealsAll (old new : Ports) (written_old written_new plain : ℕ) : Type 0 where
    pub text : List ℕ
    pub few : chunk_count n text ≤ chunk_limit
    pub moved : ReadsWrites old new written_old written_new text (payload sealing n text)
    pub at_end : IsAtEnd new.source.supply
    pub plain_is : plain ≡ length text
    pub none_failed : NoneFailed old new

  -- a source wasn't sealed to its end, and a prefix of the payload of what was read was written
  pub record SealsFront (old new : Ports) (written_old written_new : ℕ) (fault : FileFault)
      : Type 0 where
    pub text : List ℕ
    pub out : List ℕ
    pub moved : ReadsWrites old new written_old written_new text out
    pub prefix : IsPrefixOf out (payload sealing n text)
    pub fails : SealingFails old new text out fault

  -- a source was sealed, to its end or up to a fault
  pub record SealsSource (old new : Ports) (written_old written_new : ℕ)
      (result : Result Written FileFault) : Type 0 where
    -- after Ok all of its plaintext was sealed and written, and its length is answered
    pub done : IfOk result (λ w. SealsAll old new written_old written_new w.plain)
    -- after Ok the count of all bytes that were written is answered
    pub counted : IfOk result (λ w. w.file ≡ written_new)
    -- after a fault, a prefix of the payload was written
    pub fails : IfErr result (SealsFront old new written_old written_new)
    -- after Ok the sink sent on what it took
    pub flushed : OnOk result (new.sink.flushed ≡ true)
