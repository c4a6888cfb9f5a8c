-- Sealing a source, call by call, and what of an age file was written.
use Rattle.std.proofs.lemmas.Grind.{common_steps, flat_map-append}
use Rattle.std.proofs.Common.{◌≡◌, ℕ, ◌≤◌, List, [], ◌++◌, length, Option, Some, None, refl, sym, ap, subst, ◌∙◌, append_assoc, append-nil, arith}
use Rattle.std.proofs.Common.{◌<◌, ◌*◌, ◌+◌, ◌-◌, ◌^◌, false, true, ◌∷◌, IfOk}
use Rattle.std.specs.Prelude.{Result, Ok, Err, IfErr, IfSome}
use Rattle.age_io.specs.{SourceView, SinkView, HasFailed}
use Rattle.std.proofs.lemmas.List.{length-append, length-drop}
use Rattle.age_io.proofs.{Consumes-nil, Appends-trans}
use Rattle.age_stream.specs.{IsPrefixOf, SealerView, Holds, needs_too_many, too_many}
use Rattle.age_file_input.specs.{Ports, ports, start_at, Pulled, PullFails, ReaderView, NoneFailed}
use Rattle.age_fault.specs.declared.fault.FileFault.{FileFault}
use Rattle.age_fault.specs.declared.fault.FileFault.TheVariants.{Stream, Write, Memory}
use Rattle.age_file_position.specs.inner.{WriterView, Wrote}
use Rattle.age_file_position.proofs.MarkLemmas.{wrote_then}
use Rattle.std.proofs.Math.Nat.{div-le_self, div-mul-le_self}
use Rattle.std.proofs.lemmas.Nat.{mul-le}
use Rattle.std.specs.Borrow.{Bor}
use Rattle.std.specs.Option.{unwrap_or}
use Rattle.std.proofs.lemmas.Bool.{ltb-true, eqb-true, and_parts}
use Rattle.age_chunk.specs.{IsChunkBox, chunk_limit, last_index, block_length, pair, block_bytes, payload, sealed_before_last, last_chunk, chunk_length}
use Rattle.age_chunk.specs.declared.fault.StreamFault.{StreamFault}
use Rattle.age_stream.proofs.LawLemmas.{payload_is_longer}
use Rattle.age_stream.proofs.ChunkLemmas.{sealed_grows}
use Rattle.age_stream.proofs.{prefix_trans}
use Rattle.age_file_encrypt.specs.inner.{front_of, IsFeeding, HasSealedFront, CutsPayload, SealFails, HasRoom, SealingFails, SealsFront, SealsSource, CutFront}
use Rattle.age_file_encrypt.specs.inner.{WroteFront, SealsAll, ReadsWrites}
use Rattle.age_file_encrypt.specs.Encrypts.{AgeFile, BeginsFile, EncryptsFront, EncryptFails, WhyStopped, without_last, SecretView, Encrypts}
use Rattle.age_file_encrypt.specs.declared.encryption.Written.{Written}
use Rattle.age_keys.specs.{box}
use Rattle.age_keys.proofs.PassphraseLemmas.{mac_holds}

-- ---- One feed of a sealer, and what then was written.

pub lent_few : (chunk : Option (Bor (List ℕ))) (none : Bor (List ℕ)) (size : ℕ) → none.now ≡ [] → IfSome chunk (λ block. length block.now ≡ size)
    → length (unwrap_or chunk none).now ≤ size
lent_few None none size e whole = omega (arith, ap length e)
lent_few (Some block) none size e whole = omega (arith, whole)

-- a sealer that was never refused is refused only at the last chunk that a payload may have, if
-- it is full and more comes
record IsAtLimit {B : Type 0} (n : ℕ) (s : SealerView B) (piece : List ℕ) : Type 0 where
  more : 0 < length piece
  full : length s.held ≡ n
  index : s.index ≡ chunk_limit - 1

at_limit : {B : Type 0} (n : ℕ) (s : SealerView B) (piece : List ℕ) → s.failed ≡ false → needs_too_many n s piece ≡ true → IsAtLimit n s piece
at_limit n s piece sound refused = grind (arith, common_steps, and_parts, eqb-true, ltb-true)

too_long : {B : Type 0} (n : ℕ) (s : SealerView B) (piece text : List ℕ) → 0 < n → IsAtLimit n s piece → Holds n s text
    → chunk_limit * n < length (text ++ piece)
too_long n s piece text positive limit holds = grind (arith, common_steps, div-mul-le_self, length-append, length-drop)

-- ---- sizes

-- the blocks before the last of a text
module _ (sealing : List ℕ → List ℕ → List ℕ) (opening : List ℕ → List ℕ → Option (List ℕ)) (valid : IsChunkBox sealing opening) (n : ℕ) where
  pub front_small : (text : List ℕ) → n + 16 ≤ block_length → length (front_of sealing n text) ≤ length text * block_length
  front_small text most =
      let q = last_index n text in
      let few : q ≤ length text = omega (arith, div-le_self (length text - 1) n) in
      omega (arith, (payload_is_longer sealing opening valid n text).1, mul-le q (n + 16) (length text) block_length few most)

-- the count of what was written has room for a block
pub room_left : {B : Type 0} (sealing : B → List ℕ → List ℕ → List ℕ) (opening : B → List ℕ → List ℕ → Option (List ℕ)) {n : ℕ} {s : SealerView B}
    {was : WriterView} {more : ℕ} → ((key : B) → IsChunkBox (sealing key) (opening key)) → n + 16 ≤ block_length → HasRoom sealing n s was more
    → was.tally.written ≤ 2 ^ 127
room_left {B} sealing opening {n} {s} {was} {more} valid most room =
    let fits = front_small (sealing room.key) (opening room.key) (valid room.key) n room.text most in
    let product : length room.text * block_length ≤ 2 ^ 96 * block_length =
    mul-le (length room.text) block_length (2 ^ 96) block_length (omega (arith, room.small)) (omega arith) in
    omega (arith, room.sealed.wrote.count, room.count, fits, product)

-- ---- A source's text, piece by piece, and what of its payload was written.

-- the blocks before the last begin the payload
pub front_begins : (sealing : List ℕ → List ℕ → List ℕ) (n : ℕ) (text : List ℕ) → IsPrefixOf (front_of sealing n text) (payload sealing n text)
front_begins sealing n text = (
  block_bytes (pair sealing true (last_index n text, last_chunk n text) ∷ []),
  sym (flat_map-append (λ (p : List ℕ × List ℕ). p.1) (sealed_before_last sealing n text)
      (pair sealing true (last_index n text, last_chunk n text) ∷ [])),
)

-- no text has no such blocks
pub no_front : (sealing : List ℕ → List ℕ → List ℕ) (n : ℕ) → 0 < n → front_of sealing n [] ≡ []
no_front sealing n positive = grind (arith, common_steps)

-- and those of what came so far begin the payload of more
begins_more : (sealing : List ℕ → List ℕ → List ℕ) (n : ℕ) (text more : List ℕ) → 0 < n → IsPrefixOf (front_of sealing n text) (payload sealing n
    (text ++ more))
begins_more sealing n text more positive = prefix_trans _ _ _ (sealed_grows sealing n text more positive) (front_begins sealing n (text ++ more))

module _ {B : Type 0} {sealing : B → List ℕ → List ℕ → List ℕ} {n : ℕ} (positive : 0 < n) {key : B} {first was : WriterView} {s : SealerView B}
    {text : List ℕ} (h : HasSealedFront sealing n key first s was text) where
  -- more was refused
  pub seal_refused : (piece : List ℕ) (fault : StreamFault) → s.failed ≡ false → needs_too_many n s piece ≡ true → fault ≡ too_many s.index
      → CutsPayload sealing n key first was (text ++ piece) (Stream fault)
  seal_refused piece fault sound refused is =
      let limit = at_limit n s piece sound refused in
      record {
        out = front_of (sealing key) n text;
        wrote = h.wrote;
        prefix = begins_more (sealing key) n text piece positive;
        why = (too_long n s piece text positive limit h.holds, is ∙ ap too_many limit.index, h.same);
      }

  module _ {now : WriterView} (fed out unwritten : List ℕ) (wrote : Wrote was now out)
      (blocks : front_of (sealing s.key) n (text ++ fed) ≡ front_of (sealing s.key) n text ++ (out ++ unwritten)) where
    brought : front_of (sealing key) n (text ++ fed) ≡ (front_of (sealing key) n text ++ out) ++ unwritten
    brought = rw h.key_is at blocks ∙ sym (append_assoc (front_of (sealing key) n text) out unwritten)

    -- more was taken, and the block that it brought was written, if one came
    pub seal_on : {s' : SealerView B} → s'.key ≡ s.key → IsFeeding s' → Holds n s' (text ++ fed) → unwritten ≡ []
        → now.sink.failed ≡ was.sink.failed → HasSealedFront sealing n key first s' now (text ++ fed)
    seal_on {s'} key_is feeding holds none same = record {
      key_is = key_is ∙ h.key_is;
      feeding = feeding;
      holds = holds;
      wrote = subst (Wrote first now) (sym (brought ∙ ap (λ (t : List ℕ). (front_of (sealing key) n text ++ out) ++ t) none ∙ append-nil _))
          (wrote_then h.wrote wrote);
      same = same ∙ h.same;
    }

    -- the sink failed in it
    pub seal_cut : (left : List ℕ) → HasFailed was.sink.failed now.sink.failed now.sink.failing
        → CutsPayload sealing n key first now ((text ++ fed) ++ left) Write
    seal_cut left failed = record {
      out = front_of (sealing key) n text ++ out;
      wrote = wrote_then h.wrote wrote;
      prefix = prefix_trans _ _ _ (unwritten, sym brought) (begins_more (sealing key) n (text ++ fed) left positive);
      why = subst (λ (k : ℕ). HasFailed k now.sink.failed now.sink.failing) h.same failed;
    }

  module _ {now : WriterView} (out unwritten : List ℕ) (wrote : Wrote was now out)
      (last : payload (sealing s.key) n text ≡ front_of (sealing s.key) n text ++ (out ++ unwritten)) where
    whole : payload (sealing key) n text ≡ (front_of (sealing key) n text ++ out) ++ unwritten
    whole = rw h.key_is at last ∙ sym (append_assoc (front_of (sealing key) n text) out unwritten)

    -- the last block was written
    pub last_on : unwritten ≡ [] → Wrote first now (payload (sealing key) n text)
    last_on none = subst (Wrote first now) (sym (whole ∙ ap (λ (t : List ℕ). (front_of (sealing key) n text ++ out) ++ t) none ∙ append-nil _))
        (wrote_then h.wrote wrote)

    -- the sink failed in it, or in the flush
    pub last_cut : HasFailed was.sink.failed now.sink.failed now.sink.failing → CutsPayload sealing n key first now text Write
    last_cut failed = grind (arith, common_steps, whole, wrote_then)

-- what was pulled and what was written
pub moved : {old new : SourceView} {pulls : ℕ} {was now : WriterView} {text out : List ℕ} → Pulled (start_at old.supply) new.supply pulls text
    → Wrote was now out → ReadsWrites (ports old was.sink) (ports new now.sink) was.tally.written now.tally.written text out
moved p w = record { read = p.consumed; wrote = w.bytes; count = w.count; small = omega (arith, p.small, p.most) }

-- why no more came
pub source_fails : (sealing : List ℕ → List ℕ → List ℕ) (n : ℕ) (old : Ports) (x z : ReaderView) (sink : SinkView) (text : List ℕ) (fault : FileFault)
    → NoneFailed old (ports x.source sink) → Pulled (start_at old.source.supply) z.source.supply z.unread.pulls text → PullFails x z fault
    → SealingFails sealing n old (ports z.source sink) text (front_of sealing n text) fault
source_fails sealing n old x z sink text fault h0 h1 h2 = grind (arith, common_steps)

-- a source wasn't sealed to its end
pub sealing_failed : {sealing : List ℕ → List ℕ → List ℕ} {n : ℕ} {old new : Ports} {was now : ℕ} {fault : FileFault}
    → SealsFront sealing n old new was now fault → SealsSource sealing n old new was now (Err fault)
sealing_failed front = record { done = tt; counted = tt; fails = front; flushed = tt }

-- it stopped where its payload was cut
pub cut_source : {B : Type 0} {sealing : B → List ℕ → List ℕ → List ℕ} {n : ℕ} {key : B} {a source : SourceView} {pulls : ℕ} {first now : WriterView}
    {text : List ℕ} {fault : FileFault} → source.failed ≡ a.failed → Pulled (start_at a.supply) source.supply pulls text
    → CutsPayload sealing n key first now text fault
    → SealsSource (sealing key) n (ports a first.sink) (ports source now.sink) first.tally.written now.tally.written (Err fault)
cut_source {B} {sealing} {n} {key} {a} {source} {pulls} {first} {now} {text} {fault} same pulled cut =
    sealing_failed (record { text = text; out = cut.out; moved = moved pulled cut.wrote; prefix = cut.prefix; fails = fails fault cut.why }) where
      fails : (fault : FileFault) → SealFails n first now text fault
          → SealingFails (sealing key) n (ports a first.sink) (ports source now.sink) text cut.out fault
      fails (Stream f) why = (why.0, why.1, (same, why.2))
      fails Write why = (why, same)
      fails other why = absurd why

-- ---- A file's front, and what of the file was written.

file_of : {s : SecretView} {front : List ℕ} → BeginsFile s front → (text : List ℕ) → AgeFile s text (front ++ payload (box s.key s.nonce) chunk_length text)
file_of {s} {front} begins text = record {
  front = begins.front;
  head = begins.head;
  mac = mac_holds s.pass s.log s.salt s.key;
  size = begins.size;
  parts = ap (λ (t : List ℕ). t ++ payload (box s.key s.nonce) chunk_length text) begins.parts;
}

-- what stands before the payload was not written
pub front_fails : (s : SecretView) (front : List ℕ) → BeginsFile s front → (source : SourceView) (was now : WriterView) → CutFront front was now
    → EncryptsFront s (ports source was.sink) (ports source now.sink) Write
unfolding file_of
front_fails s front begins source was now f =
    let none = payload (box s.key s.nonce) chunk_length [] in
    record {
      text = [];
      file = front ++ none;
      out = f.out;
      is = file_of begins [];
      read = Consumes-nil source.supply;
      wrote = f.wrote;
      prefix = (f.unwritten ++ none, sym (append_assoc f.out f.unwritten none) ∙ ap (λ (t : List ℕ). t ++ none) (sym f.parts));
      why = (f.failed, refl);
    }

-- what is written after its front stops as all of it does: it lacks no memory
front_only : (s : SecretView) (old new : Ports) (fault : FileFault) → EncryptsFront s old new fault → EncryptFails s old new fault
front_only s old new Memory e = absurd e.why
front_only s old new fault e = e

pub after_fails : (s : SecretView) (old new : Ports) (r : Result Written FileFault) → IfErr r (EncryptsFront s old new) → IfErr r (EncryptFails s old new)
after_fails s old new (Ok w) e = tt
after_fails s old new (Err fault) e = front_only s old new fault e

-- it was, and the payload followed
module _ {s : SecretView} {bytes : List ℕ} (begins : BeginsFile s bytes) {was mid : WriterView} (front : WroteFront bytes was mid) (source : SourceView) (new : Ports) (total : ℕ) where
  abbrev before : Ports
  before = ports source was.sink

  abbrev between : Ports
  between = ports source mid.sink

  abbrev seal : List ℕ → List ℕ → List ℕ
  seal = box s.key s.nonce

  pub file_done : (result : Result Written FileFault) → IfOk result (λ w. w.file ≡ total)
      → IfOk result (λ w. SealsAll seal chunk_length between new mid.tally.written total w.plain) → IfOk result (Encrypts s before new)
  file_done (Ok w) all a =
      let sealed = payload seal chunk_length a.text in
      record {
        text = a.text;
        file = bytes ++ sealed;
        few = a.few;
        is = file_of begins a.text;
        read = a.moved.read;
        at_end = a.at_end;
        wrote = Appends-trans was.sink.taken mid.sink.taken new.sink.taken bytes sealed front.wrote a.moved.wrote;
        plain_is = a.plain_is;
        file_is = omega (arith, all, a.moved.count, front.count, length-append bytes sealed);
        none_failed = (a.none_failed.0, a.none_failed.1 ∙ front.failed);
      }
  file_done (Err fault) all a = tt

  -- the blocks before the last, after what stands before them
  last_missing : (text out : List ℕ) → out ≡ front_of seal chunk_length text → bytes ++ out ≡ without_last s begins.front text
  last_missing text out e = ap (λ (t : List ℕ). bytes ++ t) e ∙ ap (λ (t : List ℕ). t ++ front_of seal chunk_length text) begins.parts

  why_stopped : (text out : List ℕ) (fault : FileFault) → SealingFails seal chunk_length between new text out fault
      → WhyStopped s before new begins.front text (bytes ++ out) fault
  why_stopped text out fault h0 = grind (arith, common_steps, last_missing)

  stopped : (fault : FileFault) → SealsFront seal chunk_length between new mid.tally.written total fault → EncryptsFront s before new fault
  unfolding file_of
  stopped fault a =
      record {
        text = a.text;
        file = bytes ++ payload seal chunk_length a.text;
        out = bytes ++ a.out;
        is = file_of begins a.text;
        read = a.moved.read;
        wrote = Appends-trans was.sink.taken mid.sink.taken new.sink.taken bytes a.out front.wrote a.moved.wrote;
        prefix = (a.prefix.0, append_assoc bytes a.out a.prefix.0 ∙ ap (λ (t : List ℕ). bytes ++ t) a.prefix.1);
        why = why_stopped a.text a.out fault a.fails;
      }

  pub file_stopped : (result : Result Written FileFault)
      → IfErr result (SealsFront seal chunk_length between new mid.tally.written total) → IfErr result (EncryptsFront s before new)
  file_stopped result h0 = grind (arith, common_steps, stopped)
