-- From what was read, copied and decrypted to what a decryption did, from the start or from a position on.
use Rattle.std.proofs.lemmas.Grind.{common_steps}
use Rattle.std.proofs.Common.{Some, None, refl, ◌≡◌, ℕ, List, [], ◌++◌, ap, arith, append_assoc, suc, ◌+◌, ◌*◌, ◌<◌, Err, ◌∷◌, length, take, drop, sym, subst}
use Rattle.std.proofs.Common.{◌∙◌, append-nil, ◌≤◌, Option, inl, inr, ◌^◌, ◌/◌}
use Rattle.std.specs.Prelude.{Result, ◌⊎◌, IfSome}
use Rattle.age_io.specs.{SourceView, SinkView, Consumes, HasFailed}
use Rattle.age_stanza.specs.declared.header.Header.{Header}
use Rattle.age_fault.specs.declared.key.KeyFault.{KeyFault}
use Rattle.age_fault.specs.declared.fault.FileFault.{FileFault}
use Rattle.age_fault.specs.declared.fault.FileFault.TheVariants.{ShortText, Read, Write, ReadNeverEnds, OldTextDiffers, Stream, OtherFile, PositionForged}
use Rattle.age_file_decrypt.specs.Decrypts.{StartFails, Beginning, DecryptsMarked, from_start}
use Rattle.age_file_decrypt.specs.Resumes.{from_position, HasOpened, Resumption, resumption, WritesOld, IsFrom, BeginsWith, IsOldText, NeverEndTogether}
use Rattle.age_file_decrypt.specs.Resumes.{BeforeOldFails, InOldFails, StopsInOld, InSkippedFails, StopsInSkipped}
use Rattle.age_file_input.specs.{Ports, ports, pull_room, Unread, Passes, Uses, start_at, ReaderView, reader_view, Start, Pulled}
use Rattle.age_file_decrypt.specs.Runs.{OpenedFile}
use Rattle.age_file_decrypt.specs.declared.decryption.Done.{Done}
use Rattle.age_file_decrypt.specs.declared.decryption.Stopped.{Stopped}
use Rattle.age_file_position.specs.declared.position.PositionPolicy.{PositionPolicy}
use Rattle.age_file_decrypt.specs.declared.start.Unlocked.{Unlocked}
use Rattle.age_file_position.specs.{chain, chain_if}
use Rattle.age_file_position.specs.declared.position.Position.{Position}
use Rattle.age_file_decrypt.specs.inner.{StartsAt, NoMore, FailsInCopy, CopiesChunk, CopiesAll, TextFails, CopiesOld, TextGoes, SkipFails, marks_over, OpensPayload}
use Rattle.age_file_decrypt.specs.inner.{PositionRefused, StartsFor, StartForFails, Stage, ports_at, stage, start_after, HasPlace}
use Rattle.age_file_position.specs.inner.{WriterView, Wrote}
use Rattle.age_chunk.specs.{block_length, chunk_length}
use Rattle.age_chunk.specs.declared.fault.StreamKind.TheVariants.{Truncated}
use Rattle.age_file_decrypt.proofs.RunLemmas.{BeginsAt, run, answered, opened, place_at}
use Rattle.std.proofs.lemmas.List.{length-append, take_all, take-append-drop, length-take}
use Rattle.std.proofs.Math.Seq.{drop-append_seam}
use Rattle.std.specs.Simd.{first_chunks}
use Rattle.age_chunk.proofs.{first_chunks-append, first_chunks_more}
use Rattle.age_stream.specs.{IsPrefixOf}
use Rattle.age_stream.proofs.{prefix_trans}
use Rattle.sha2.specs.Hashers.{Holds256}
use Rattle.sha2.specs.declared.Sha256.{Sha256}
use Rattle.age_file_decrypt.proofs.StartLemmas.{within, longer, counted_on, counted_back, no_more_since}
use Rattle.age_file_input.proofs.ReadLemmas.{left_of}
use Rattle.age_file_position.proofs.MarkLemmas.{wrote_then}
use Rattle.age_io.specs.Supply.{Supply}

-- ---- From what was read and decrypted from a file's start on to what a decryption did.

module _ (keep : PositionPolicy) (Allows : Header → List ℕ → Type 0) where
  -- a call that came to no payload
  stopped_with : (begun : Beginning) (old new : Ports) (stopped : Stopped) → begun.early old new stopped → new.sink.taken.label ≡ old.sink.taken.label
      → DecryptsMarked keep Allows begun old new (Err stopped) None
  stopped_with begun old new stopped early named = record {
    is = record { run = None; answers = early; flushed = tt; named = named };
    found = refl;
  }

  -- no payload came to be opened
  pub stopped_at_start : (Refused : Header → KeyFault → Type 0) (old new : Ports) (fault : FileFault) → new.sink ≡ old.sink
      → StartFails Allows Refused old.source new.source fault
      → DecryptsMarked keep Allows (from_start Allows Refused) old new (Err (record { fault = fault; written = 0; position = None })) None
  stopped_at_start Refused old new fault same f =
      stopped_with (from_start Allows Refused) old new _ (record { sink = same; written = refl; position = refl }, f) (ap (λ (s : SinkView). s.taken.label) same)

  -- it was opened from its first chunk on
  pub run_ended : (Refused : Header → KeyFault → Type 0) {a : SourceView} {unlocked : Unlocked} {old new : Stage} {result : Result Done Stopped}
      → old.writer.tally.written ≡ 0 → old.writer.tally.index ≡ 0 → old.writer.tally.chain ≡ chain_if keep []
      → StartsAt Allows a old.reader unlocked → OpensPayload unlocked 0 old new result
      → DecryptsMarked keep Allows (from_start Allows Refused) (ports a old.writer.sink) (ports_at new) result (marks_over unlocked new.writer.tally.chain)
  run_ended Refused {a} {unlocked} {old} {new} {result} written index chain_is s o =
      let q = o.decrypts in
      let begins : BeginsAt keep (start_at a.supply) (s.front ++ unlocked.nonce) old 0 [] [] = record {
        limit = omega arith;
        copied_size = omega arith;
        skipped_size = omega arith;
        pulled = s.pulled;
        written = written;
        index = index;
        chain_is = chain_is;
      } in
      answered s [] begins q (from_start Allows Refused) (record { zero = refl; none_copied = refl; none_skipped = refl }) old.writer.sink q.wrote.bytes
      s.unfailed refl (λ bytes h full. (bytes, h.consumed, (omega (arith, h.each_gave, full), omega (arith, h.small, full)))) result o.ended

-- ---- What was copied, one step after another.

-- a digest was fed the chain, if there is one, and then these bytes
abbrev Hashed : Option (List (List ℕ)) → Sha256 → List ℕ → Type 0
Hashed links digest bytes = IfSome links (λ chunks. Holds256 digest (chain chunks ++ bytes))

pub hashed_none : (links : Option (List (List ℕ))) (digest : Sha256) → IfSome links (λ chunks. Holds256 digest (chain chunks)) → Hashed links digest []
hashed_none None digest fed = tt
hashed_none (Some chunks) digest fed = subst (Holds256 digest) (sym (append-nil (chain chunks))) fed

pub hashed_more : (now later : Sha256) (links : Option (List (List ℕ))) (bytes more : List ℕ)
    → ((held : List ℕ) → Holds256 now held → Holds256 later (held ++ more)) → Hashed links now bytes → Hashed links later (bytes ++ more)
hashed_more now later None bytes more feeds fed = tt
hashed_more now later (Some chunks) bytes more feeds fed =
    subst (Holds256 later) (append_assoc (chain chunks) bytes more) (feeds (chain chunks ++ bytes) fed)

-- one chunk more
pub chunks_more : (n i : ℕ) (out chunk : List ℕ) → length out ≡ i * n → length chunk ≡ n
    → first_chunks n (suc i) (out ++ chunk) ≡ first_chunks n i out ++ chunk ∷ []
chunks_more n i out chunk whole size = grind (arith, common_steps, drop-append_seam, first_chunks-append, first_chunks_more, take_all)

copy_fails : (x y z : ReaderView) (a b c : WriterView) (p q : List ℕ) (fault : FileFault) → Passes x y p → b.sink.failed ≡ a.sink.failed
    → FailsInCopy y z b c q fault → FailsInCopy x z a c (p ++ q) fault
copy_fails x y z a b c p q fault f same g = record {
  pulled = p ++ g.pulled;
  read = λ start used h. subst (λ (t : List ℕ). Pulled start z.source.supply z.unread.pulls t) (append_assoc used p g.pulled)
      (g.read start (used ++ p) (subst (λ (t : List ℕ). Pulled start y.source.supply y.unread.pulls t) (sym (append_assoc used p y.unread.bytes))
      (f.uses start used h)));
  front = (g.front.0, append_assoc p q g.front.0 ∙ ap (λ (t : List ℕ). p ++ t) g.front.1);
  few = omega (arith, g.few, length-append p q, length-append p g.pulled);
  why = elim g.why [
    | inl w ↦ inl (ap (λ (t : List ℕ). p ++ t) w.0, no_more_since ShortText x y z fault f.unfailed w.1, w.2 ∙ same)
    | inr w ↦ inr (w.0, subst (λ (m : ℕ). HasFailed m c.sink.failed c.sink.failing) same w.1, w.2 ∙ f.unfailed)
  ];
}

-- whole chunks, and then one that was not copied
pub chunk_failed : (n chunks i : ℕ) (x y z : ReaderView) (a b c : WriterView) (p : List ℕ)
    (fault : FileFault) → length p ≡ i * n → i < chunks → Passes x y p → Wrote a b p → b.sink.failed ≡ a.sink.failed
    → CopiesChunk n y z b c (Err fault) → CopiesAll n chunks x z a c (Err fault)
chunk_failed n chunks i x y z a b c p fault size lt f wrote same g = record {
  out = p ++ g.out;
  wrote = wrote_then wrote g.wrote;
  answered = (within n chunks i p g.out size lt g.answered.0, copy_fails x y z a b c p g.out fault f same g.answered.1);
}

-- the front of a piece was written after what was used
pub front_written : (used out unwritten bytes : List ℕ) (n : ℕ) → take n bytes ≡ out ++ unwritten → IsPrefixOf (used ++ out) (used ++ bytes)
front_written used out unwritten bytes n parts = (
  unwritten ++ drop n bytes,
  append_assoc used out (unwritten ++ drop n bytes) ∙ ap (λ (t : List ℕ). used ++ t) (sym (append_assoc out unwritten (drop n bytes))
      ∙ ap (λ (t : List ℕ). t ++ drop n bytes) (sym parts) ∙ take-append-drop n bytes),
)

-- ---- the old text

-- what was written of an old text is the beginning of the text that it is of
old_of : (p : Position) (coming now : Supply) (pulled copied : List ℕ) → Consumes coming now pulled → IsPrefixOf copied pulled → length copied
    ≤ p.index * chunk_length → (text : List ℕ) → BeginsWith p coming text → IsPrefixOf copied text
old_of p coming now pulled copied read front le text b =
    let part = left_of coming now b.all pulled b.shown read in
    let size : length (take (p.index * chunk_length) text) ≡ p.index * chunk_length =
    omega (arith, length-take (p.index * chunk_length) text, b.within) in
    let before = prefix_trans copied pulled b.all front (part.0, sym part.1) in
    let begins = longer copied (take (p.index * chunk_length) text) before.0 b.begins.0 (before.1 ∙ sym b.begins.1) (omega (arith, size, le)) in
    prefix_trans copied (take (p.index * chunk_length) text) text (begins.0, sym begins.1)
    (drop (p.index * chunk_length) text, take-append-drop (p.index * chunk_length) text)

-- ---- a run that stopped in the old text, or before it

module _ (keep : PositionPolicy) (Allows : Header → List ℕ → Type 0) (Refused : Header → KeyFault → Type 0) (p : Position) where
  -- what is promised of a stop without a run
  abbrev Resumes : Ports → Ports → SourceView → SourceView → Result Done Stopped → Type 0
  Resumes old new l l' result = DecryptsMarked keep Allows (from_position Allows Refused (resumption p l l')) old new result None

  -- the file was opened, and no more than one pull gives was read after its nonce
  has_opened : (l l' : SourceView) (old new : Ports) (u : Unread) (unlocked : Unlocked)
      (s : StartsAt Allows old.source (reader_view new.source u) unlocked) → HasOpened Allows (resumption p l l') old new (opened s)
  has_opened l l' old new u unlocked s = (u.bytes, s.few, record { text = s.text; opens = s.opens; size = s.size; read = s.pulled.consumed })

  -- before the old text
  before_fails : (l : SourceView) (old new : Ports) (fault : FileFault) → StartFails Allows Refused old.source new.source fault
      → BeforeOldFails Allows (resumption p l l) old new Refused fault
  before_fails l old new fault h0 = grind (arith, common_steps)

  verdict_fails : (l : SourceView) (old new : Ports) (u : Unread) (unlocked : Unlocked) (fault : FileFault)
      → StartsAt Allows old.source (reader_view new.source u) unlocked → PositionRefused p unlocked.id unlocked.key unlocked.nonce fault
      → BeforeOldFails Allows (resumption p l l) old new Refused fault
  verdict_fails l old new u unlocked OtherFile s f = (_, has_opened l l old new u unlocked s, λ own. f (own ∙ sym s.id))
  verdict_fails l old new u unlocked PositionForged s f = (_, has_opened l l old new u unlocked s, f.0 ∙ s.id, f.1)
  verdict_fails l old new u unlocked other s f = absurd f

  stopped_before : (l : SourceView) (old new : Ports) (fault : FileFault) → new.sink ≡ old.sink
      → BeforeOldFails Allows (resumption p l l) old new Refused fault → Resumes old new l l (Err (record { fault = fault; written = 0; position = None }))
  stopped_before l old new fault same f =
      stopped_with keep Allows (from_position Allows Refused (resumption p l l)) old new _
      (inl (record { sink = same; written = refl; position = refl }, refl, f)) (ap (λ (s : SinkView). s.taken.label) same)

  -- no payload came to be opened
  pub stopped_early : (l : SourceView) (old new : Ports) (fault : FileFault) → new.sink ≡ old.sink
      → StartFails Allows Refused old.source new.source fault → Resumes old new l l (Err (record { fault = fault; written = 0; position = None }))
  stopped_early l old new fault same f = stopped_before l old new fault same (before_fails l old new fault f)

  -- or the position was refused
  pub refused : (l : SourceView) (old new : Ports) (u : Unread) (fault : FileFault) → new.sink ≡ old.sink
      → StartForFails Allows Refused p old.source (reader_view new.source u) fault
      → Resumes old new l l (Err (record { fault = fault; written = 0; position = None }))
  refused l old new u fault same (inl f) = stopped_early l old new fault same f
  refused l old new u fault same (inr f) = stopped_before l old new fault same (verdict_fails l old new u f.0 fault f.1 f.2)

  -- the file was started, and the old text was copied, or a front of it; the pulls of both count together
  module _ {a : SourceView} {unlocked : Unlocked} (s1 : Stage) {u : Unread} (st : StartsFor Allows p a (reader_view s1.reader.source u) unlocked)
      {first : WriterView} (zero : first.tally.written ≡ 0) {l l' : SourceView} {result : Result (Unit {0}) FileFault}
      (cb : CopiesOld keep p l l' u s1.reader.unread first s1.writer result) where
    abbrev s : StartsAt Allows a (reader_view s1.reader.source u) unlocked
    s = st.starts

    abbrev file : OpenedFile
    file = opened s

    abbrev head : List ℕ
    head = s.front ++ unlocked.nonce

    abbrev x : ReaderView
    x = reader_view l cb.first

    abbrev z : ReaderView
    z = reader_view l' cb.last

    -- what was written of the old text
    abbrev out : List ℕ
    out = cb.copied.out

    abbrev e : Resumption
    e = resumption p l l'

    abbrev begun : Beginning
    begun = from_position Allows Refused e

    abbrev old : Ports
    old = ports a first.sink

    -- nothing more was written, and the file was read up to here
    abbrev new : ReaderView → Ports
    new m = ports m.source s1.writer.sink

    abbrev stop : FileFault → Option Position → Stopped
    stop fault position = record { fault = fault; written = s1.writer.tally.written; position = position }

    -- what was pulled of the file before the old text
    abbrev started : List ℕ
    started = head ++ u.bytes

    abbrev old_start : Start
    old_start = start_after started l.supply

    -- what was pulled of the old text, from its start
    old_read : (pulled : List ℕ) → ((start : Start) (used : List ℕ) → Pulled start l.supply x.unread.pulls (used ++ x.unread.bytes)
        → Pulled start l'.supply z.unread.pulls (used ++ pulled)) → Pulled old_start l'.supply z.unread.pulls pulled
    old_read pulled read =
        let none = counted_on a.supply s1.reader.source.supply l.supply u.pulls started s.pulled in
        read old_start [] (rw (cb.none, cb.counted_on) none)

    -- no more than these bytes of the old text was written
    writes_old : (m : ReaderView) (pulled : List ℕ) → length out ≤ p.index * chunk_length
        → Consumes l.supply l'.supply pulled → length pulled ≤ p.index * chunk_length + pull_room
        → IsPrefixOf out pulled → WritesOld e old (new m) s1.writer.tally.written out
    writes_old m pulled le read short front = record {
      pulled = pulled;
      read = read;
      few = short;
      front = front;
      wrote = cb.copied.wrote.bytes;
      count = omega (arith, cb.copied.wrote.count, zero);
      of = old_of p l.supply l'.supply pulled out read front le;
    }

    -- the copy of the old text stopped
    stops_in_old : (fault : FileFault) (pulled : List ℕ) → length out ≤ p.index * chunk_length
        → Consumes l.supply l'.supply pulled → length pulled ≤ p.index * chunk_length + pull_room
        → IsPrefixOf out pulled → InOldFails Allows e old (new s1.reader) pulled out fault → StopsInOld Allows e old (new s1.reader) (stop fault None)
    unfolding writes_old
    stops_in_old fault pulled le read short front why = record {
      file = file;
      opened = has_opened l l' old (new s1.reader) u unlocked s;
      own = (st.own ∙ s.id, st.tagged);
      copied = out;
      writes = writes_old s1.reader pulled le read short front;
      nowhere = refl;
      why = why;
    }

    -- why it was not all copied
    abbrev Fails : List ℕ → FileFault → Type 0
    Fails pulled fault = InOldFails Allows e old (new s1.reader) pulled out fault

    less_copied : (pulled : List ℕ) → Pulled old_start l'.supply z.unread.pulls pulled → length out < p.index * chunk_length → (fault : FileFault)
        → ((out ≡ pulled) × NoMore ShortText x z fault × (s1.writer.sink.failed ≡ first.sink.failed))
        ⊎ ((fault ≡ Write) × HasFailed first.sink.failed s1.writer.sink.failed s1.writer.sink.failing × (l'.failed ≡ l.failed)) → Fails pulled fault
    less_copied pulled h0 h1 fault h2 = grind (arith, common_steps, length-append)

    text_fails_in_old : (fault : FileFault) → TextFails chunk_length p.index p.chain x z first s1.writer out fault
        → StopsInOld Allows e old (new s1.reader) (stop fault None)
    text_fails_in_old fault (inl (short, f)) =
        let all = old_read f.pulled f.read in
        stops_in_old fault f.pulled (omega (arith, short)) all.consumed (omega (arith, short, f.few)) f.front (less_copied f.pulled all short fault
        f.why)
    text_fails_in_old fault (inr (is, goes, differs, few)) =
        let le : length out ≤ p.index * chunk_length = omega (arith, goes.0) in
        subst (λ (f : FileFault). StopsInOld Allows e old (new s1.reader) (stop f None)) (sym is) (stops_in_old OldTextDiffers (out ++
        z.unread.bytes) le
        (old_read (out ++ z.unread.bytes) goes.1.uses).consumed (omega (arith, le, few, length-append out z.unread.bytes)) (z.unread.bytes, refl)
        (goes.0, differs))

    pub copy_stopped : (fault : FileFault) → TextFails chunk_length p.index p.chain x z first s1.writer out fault
        → Resumes (ports a first.sink) (ports s1.reader.source s1.writer.sink) l l' (Err (stop fault None))
    copy_stopped fault f =
        stopped_with keep Allows begun old (new s1.reader) (stop fault None) (inr (inl (text_fails_in_old fault f))) cb.copied.wrote.bytes.named

    -- ---- a run that went on after the old text

    -- the old text was copied, and is the position's
    module _ (g : TextGoes keep chunk_length p.index p.chain x z first s1.writer out) (counted : s1.reader.unread.pulls ≡ z.unread.pulls) where
      old_text : IsOldText p out
      old_text = record { size = g.0; same = g.5 }

      -- what was pulled of the old text, and then of the file, whose pulls are counted on from there
      abbrev old_bytes : List ℕ
      old_bytes = out ++ z.unread.bytes

      abbrev start : Start
      start = start_after old_bytes a.supply

      old_used : Pulled old_start l'.supply z.unread.pulls old_bytes
      old_used = old_read old_bytes g.1.uses

      again : Pulled start s1.reader.source.supply s1.reader.unread.pulls (head ++ s1.reader.unread.bytes)
      again = grind (arith, common_steps, counted_back, old_used)

      never_end : (now : ReaderView) (sink : SinkView) (y : List ℕ) → Pulled start now.source.supply now.unread.pulls y
          → now.unread.pulls ≡ 2 ^ 63 → NeverEndTogether e old (ports now.source sink)
      never_end now sink y h all = grind (arith, common_steps, length-append, old_used)

      -- the run stopped in the blocks that are skipped
      stops_in_skipped : (m : ReaderView) (fault : FileFault) (skipped : List ℕ)
          → length skipped < p.index * block_length → Consumes a.supply m.source.supply (head ++ skipped)
          → InSkippedFails Allows e old (new m) skipped fault → StopsInSkipped Allows e old (new m) (stop fault (Some p))
      stops_in_skipped m fault skipped short read why =
          let le : length out ≤ p.index * chunk_length = omega (arith, g.0) in
          record {
            file = file;
            skipped = skipped;
            reads = record { text = s.text; opens = s.opens; size = s.size; read = read };
            own = (st.own ∙ s.id, st.tagged);
            short = short;
            copied = out;
            old_text = old_text;
            writes = writes_old m old_bytes le old_used.consumed (omega (arith, le, g.6, length-append out z.unread.bytes)) (z.unread.bytes, refl);
            unfailed = g.1.unfailed;
            here = refl;
            why = why;
          }

      dried : (m : ReaderView) (skipped : List ℕ) → m.unread.bytes ≡ [] → Uses s1.reader m skipped
          → Pulled start m.source.supply m.unread.pulls (head ++ skipped)
      dried m skipped empty uses = rw (empty, append-nil skipped) at (uses start head again)

      skipped_fails : (m : ReaderView) (fault : FileFault) → SkipFails block_length p.index s1.reader m fault
          → StopsInSkipped Allows e old (new m) (stop fault (Some p))
      skipped_fails m fault (skipped, short, d) = by fault d.why where
        cut : FileFault
        cut = Stream (record { kind = Truncated; chunk = length skipped / block_length })

        all : Pulled start m.source.supply m.unread.pulls (head ++ skipped)
        all = dried m skipped d.used d.uses

        by : (fault : FileFault) → NoMore cut s1.reader m fault → StopsInSkipped Allows e old (new m) (stop fault (Some p))
        by fault (inl ended) = subst (λ (f : FileFault). StopsInSkipped Allows e old (new m) (stop f (Some p))) (sym ended.0)
            (stops_in_skipped m cut skipped short all.consumed (refl, refl, ended.1, (ended.2 ∙ s.unfailed, g.2)))
        by Read (inr f) = stops_in_skipped m Read skipped short all.consumed
            (subst (λ (k : ℕ). HasFailed k m.source.failed m.source.failing) s.unfailed f, g.2)
        by ReadNeverEnds (inr f) =
            stops_in_skipped m ReadNeverEnds skipped short all.consumed
            (never_end m s1.writer.sink (head ++ skipped) all f.0, (f.1 ∙ s.unfailed, g.2))
        by other (inr f) = absurd f

      -- the blocks before were not all passed over
      pub skip_stopped : (m : ReaderView) (fault : FileFault) → SkipFails block_length p.index s1.reader m fault
          → Resumes old (new m) l l' (Err (stop fault (Some p)))
      skip_stopped m fault f =
          stopped_with keep Allows begun old (new m) (stop fault (Some p)) (inr (inr (skipped_fails m fault f))) cb.copied.wrote.bytes.named

      -- they were
      module _ (m : ReaderView) (passed : List ℕ) (size : length passed ≡ p.index * block_length) (passes : Passes s1.reader m passed) where
        abbrev before_rest : Stage
        before_rest = stage m s1.writer

        begins : BeginsAt keep start head before_rest p.index out passed
        begins = record {
          limit = p.within;
          copied_size = g.0;
          skipped_size = size;
          pulled = passes.uses start head again;
          written = omega (arith, cb.copied.wrote.count, zero);
          index = g.3;
          chain_is = g.4;
        }

        -- there is room for what is after them
        pub place_after : HasPlace before_rest
        place_after = place_at head passed before_rest p.index p.within (omega (arith, begins.written, begins.copied_size)) begins.pulled

        -- the whole run
        pub rest_ended : (s2 : Stage) (result : Result Done Stopped) → OpensPayload unlocked p.index before_rest s2 result
            → DecryptsMarked keep Allows begun old (ports_at s2) result (marks_over unlocked s2.writer.tally.chain)
        rest_ended s2 result o =
            let q = o.decrypts in
            let from : IsFrom e (run s old_bytes begins q) = record {
              index = refl;
              own = (st.own ∙ s.id, st.tagged);
              old_text = old_text;
              more = z.unread.bytes;
              old_read = old_used.consumed;
              few = g.6;
              unfailed = g.1.unfailed;
            } in
            let wrote = wrote_then cb.copied.wrote q.wrote in
            answered s old_bytes begins q begun from first.sink wrote.bytes (passes.unfailed ∙ s.unfailed) g.2
            (never_end s2.reader s2.writer.sink) result o.ended
