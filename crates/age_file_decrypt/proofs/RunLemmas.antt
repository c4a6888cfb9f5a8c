-- A run: what it read, what it wrote of a text, its positions, and runs in a row.
use Rattle.std.proofs.lemmas.Grind.{common_steps}
use Rattle.std.proofs.Common.{◌≡◌, ℕ, ◌*◌, ◌<◌, ◌≤◌, List, ◌++◌, length, take, sym, ap, subst, ◌∙◌, arith, append_assoc, Some, refl, ◌^◌, Option, inl, inr, []}
use Rattle.std.proofs.Common.{◌∷◌, None, ⊎_elim}
use Rattle.std.specs.Prelude.{true, IsSomeAnd, ◌⊎◌, Result, MatchResult, OnOk, Ok, Err}
use Rattle.std.specs.Simd.{first_chunks}
use Rattle.std.proofs.lemmas.List.{length-append, length-take, take_at}
use Rattle.std.proofs.Math.Nat.{le-div_iff_mul-le}
use Rattle.age_chunk.specs.{chunk_count, chunk_length, chunk_limit, block_length}
use Rattle.age_chunk.proofs.{first_chunks-append, length-first_chunks}
use Rattle.age_file_decrypt.proofs.CountLemmas.{take-first_chunks, index_is}
use Rattle.age_stream.specs.{IsPrefixOf}
use Rattle.age_stream.specs.declared.step.Status.TheVariants.{Done as AllDone}
use Rattle.age_stream.proofs.SegmentLemmas.{segment_right as released_is_written}
use Rattle.age_keys.specs.{payload_key, box, unbox, position_key}
use Rattle.age_keys.specs.inner.{box_valid, opens}
use Rattle.age_file_position.specs.{chain, chain_if}
use Rattle.age_file_decrypt.specs.Runs.{Run, IsFromStart, segment_of, run_outcome, run_text, held, IsTexts, CarriesText, IsAuthenticRun, IsPositionOf, OpenedFile}
use Rattle.age_file_decrypt.specs.Runs.{IsRun, GivesPosition, PayloadFails, StopsInPayload, IsDone, IsMarked, IsPositionWithin, FindsMarks}
use Rattle.age_file_input.specs.{Ports, ports, NoneFailed, ReaderView, Start, Pulled}
use Rattle.age_file_position.specs.declared.position.Position.{Position}
use Rattle.age_file_decrypt.specs.declared.decryption.Done.{Done}
use Rattle.age_file_decrypt.specs.declared.decryption.Stopped.{Stopped}
use Rattle.age_file_position.specs.declared.position.PositionPolicy.{PositionPolicy}
use Rattle.age_file_position.specs.declared.position.PositionPolicy.TheVariants.{Kept, Dropped}
use Rattle.age_file_decrypt.specs.declared.start.Unlocked.{Unlocked}
use Rattle.age_file_decrypt.specs.InARow.{IsSame, BegunRun, BeginsAfter, held_last, AllFollow, WritesRight, YieldsPosition, BindsTo, Bound}
use Rattle.age_file_decrypt.specs.Resumes.{IsOldText, BeginsWith, IsFrom, Resumption, WritesOld}
use Rattle.age_file_decrypt.specs.Decrypts.{Beginning, DecryptsMarked}
use Rattle.age_file_input.proofs.ReadLemmas.{left_of, same_front}
use Rattle.age_stream.proofs.{prefix_trans}
use Rattle.age_io.specs.{Consumes, SourceView, SinkView}
use Rattle.age_io.specs.Taken.{Appends}
use Rattle.age_stanza.specs.declared.header.Header.{Header}
use Rattle.age_fault.specs.declared.fault.FileFault.{FileFault}
use Rattle.age_file_decrypt.specs.inner.{marks_over, StartsAt, IsPositionAt, PositionAt, EndsAs, HasPlace, HasCounted, DecryptsPayload, SegmentDone}
use Rattle.age_file_decrypt.specs.inner.{SegmentFails, Stage, ports_at, start_after}

-- ---- What a run wrote of a text, if what opens is the writer's; and its position.

-- the text of a run, after its old text
held_text : (r : Run) (text : List ℕ) → IsAuthenticRun r text → r.first < chunk_limit → IsPrefixOf (r.copied ++ run_text r) text
    × ((run_outcome r).status ≡ AllDone → r.copied ++ run_text r ≡ text)
held_text r text auth limit =
    let seal = box r.file.key r.file.nonce in
    let open_box = unbox r.file.key r.file.nonce in
    let positive : 0 < chunk_length = omega arith in
    let valid = box_valid (payload_key r.file.key r.file.nonce) in
    let o = released_is_written seal open_box valid chunk_length positive (segment_of r) text auth.few limit auth.authentic in (
      subst (λ (t : List ℕ). IsPrefixOf (t ++ run_text r) text) (sym auth.old_text) o.prefix,
      λ done. ap (λ (t : List ℕ). t ++ run_text r) auth.old_text ∙ o.done done,
    )

-- what was written begins the text of which the run is authentic
abbrev pub WritesOf : Run → Type 0
WritesOf r = (text : List ℕ) → IsAuthenticRun r text → IsPrefixOf (held r) text

pub writes_of : (r : Run) → r.first < chunk_limit → IsPrefixOf r.out (run_text r) → WritesOf r
writes_of r limit begins text auth =
    prefix_trans (held r) (r.copied ++ run_text r) text
    (begins.0, append_assoc r.copied r.out begins.0 ∙ ap (λ (t : List ℕ). r.copied ++ t) begins.1) (held_text r text auth limit).0

pub writes_all : (r : Run) → r.first < chunk_limit → r.out ≡ run_text r → (run_outcome r).status ≡ AllDone → (text : List ℕ) → IsAuthenticRun r text
    → held r ≡ text
writes_all r limit whole done text auth = ap (λ (t : List ℕ). r.copied ++ t) whole ∙ (held_text r text auth limit).1 done

-- before a file's first chunk there is no text
pub none_before : (r : Run) → IsFromStart r → (text : List ℕ) → r.copied ≡ take (r.first * chunk_length) text
none_before r from text = grind (arith, common_steps)

pub authentic_start : (r : Run) → IsFromStart r → (text : List ℕ) → chunk_count chunk_length text ≤ chunk_limit → IsTexts text r → IsAuthenticRun r text
authentic_start r from text few auth = record { few = few; old_text = none_before r from text; authentic = auth }

-- its position carries the text of which the run is authentic
pub position_carries : (r : Run) (p : Position) → r.first < chunk_limit → IsPrefixOf r.out (run_text r)
    → IsPositionOf r p → (text : List ℕ) → IsAuthenticRun r text → CarriesText text p
position_carries r p limit begins at text auth = grind (arith, common_steps, first_chunks-append, le-div_iff_mul-le, length-append, writes_of)

-- and so does one within a part of what was written
pub within_carries : (r : Run) (bytes : ℕ) (p : Position) → r.first < chunk_limit → IsPrefixOf r.out (run_text r)
    → IsPositionWithin r bytes p → (text : List ℕ) → IsAuthenticRun r text → CarriesText text p
within_carries r bytes p limit begins at text auth = grind (arith, common_steps, first_chunks-append, le-div_iff_mul-le, length-append, writes_of)

pub hands_carry : (r : Run) → r.first < chunk_limit → IsPrefixOf r.out (run_text r) → (text : List ℕ) → IsAuthenticRun r text
    → (p : Position) → IsPositionOf r p ⊎ YieldsPosition r p → CarriesText text p
hands_carry r limit begins text auth p (inl at) = position_carries r p limit begins at text auth
hands_carry r limit begins text auth p (inr at) = within_carries r at.0 p limit begins at.1 text auth

-- ---- A run from its first chunk on: what was read of its file, what was written, and how it ended.

-- the file that was started
abbrev pub opened : {Allows : Header → List ℕ → Type 0} {a : SourceView} {b : ReaderView} {unlocked : Unlocked} → StartsAt Allows a b unlocked → OpenedFile
opened {Allows} {a} {b} {unlocked} s = record { header = s.header; header_bytes = s.front; key = unlocked.key; nonce = unlocked.nonce }

-- there is room for what follows the blocks before this chunk
pub place_at : {start : Start} (head passed : List ℕ) (m : Stage) (k : ℕ) → k < chunk_limit → m.writer.tally.written ≡ k * chunk_length
    → Pulled start m.reader.source.supply m.reader.unread.pulls (head ++ (passed ++ m.reader.unread.bytes)) → HasPlace m
place_at head passed m k limit written p = grind (arith, common_steps, length-append)

-- a run begins with this chunk, after this text and these blocks; its tally counts the text
pub record BeginsAt (keep : PositionPolicy) (start : Start) (head : List ℕ) (m : Stage) (k : ℕ) (copied passed : List ℕ) : Type 0 where
  pub limit : k < chunk_limit
  pub copied_size : length copied ≡ k * chunk_length
  pub skipped_size : length passed ≡ k * block_length
  pub pulled : Pulled start m.reader.source.supply m.reader.unread.pulls (head ++ (passed ++ m.reader.unread.bytes))
  pub written : m.writer.tally.written ≡ length copied
  pub index : m.writer.tally.index ≡ k
  pub chain_is : m.writer.tally.chain ≡ chain_if keep (first_chunks chunk_length k copied)

module _ {keep : PositionPolicy} {Allows : Header → List ℕ → Type 0} {a : SourceView} {b : ReaderView} {unlocked : Unlocked}
    (s : StartsAt Allows a b unlocked) (front : List ℕ) {m : Stage} {k : ℕ} {copied passed : List ℕ}
    (begins : BeginsAt keep (start_after front a.supply) (s.front ++ unlocked.nonce) m k copied passed) {s2 : Stage}
    {end : Result (Unit {0}) FileFault} (q : DecryptsPayload (opens (payload_key unlocked.key unlocked.nonce)) chunk_length k m s2 end) where
  abbrev pub run : Run
  run = record {
    file = opened s;
    first = k;
    copied = copied;
    skipped = passed;
    bytes = q.bytes;
    ended = q.ended;
    out = q.out;
  }

  -- all that was pulled, from the file's start
  all_pulled : Pulled (start_after front a.supply) s2.reader.source.supply s2.reader.unread.pulls ((s.front ++ unlocked.nonce) ++ (passed ++ q.bytes))
  all_pulled =
      rw (
        append_assoc (s.front ++ unlocked.nonce) (passed ++ m.reader.unread.bytes) q.fresh,
        append_assoc passed m.reader.unread.bytes q.fresh,
        q.parts,
      ) at
      (q.pulled (start_after front a.supply) _ begins.pulled)

  pub is_run : (old new : SinkView) → Appends old.taken new.taken (copied ++ q.out)
      → IsRun Allows (ports a old) (ports s2.reader.source new) s2.writer.tally.written run
  is_run old new wrote = grind (arith, common_steps, all_pulled, length-append)

  -- the tally counts what was written
  counted : HasCounted keep (unbox unlocked.key unlocked.nonce) chunk_length (copied ++ q.out) (segment_of run) s2.writer.tally
  counted = q.counts keep copied begins.copied_size begins.index begins.chain_is

  abbrev chunks : List (List ℕ)
  chunks = first_chunks chunk_length s2.writer.tally.index (copied ++ q.out)

  position_is : (p : Position) → IsPositionAt unlocked s2.writer.tally.index (chain chunks) p → IsPositionOf run p
  position_is p at = grind (arith, common_steps, counted, index_is)

  given_if : (how : PositionPolicy) (position : Option Position) → PositionAt unlocked s2.writer.tally.index (chain_if how chunks) position
      → GivesPosition how (IsPositionOf run) position
  given_if how position h0 = grind (arith, common_steps, position_is)

  -- its position is the run's, if it is handed out
  pub given : (position : Option Position) → PositionAt unlocked s2.writer.tally.index s2.writer.tally.chain position
      → GivesPosition keep (IsPositionOf run) position
  given position at =
      given_if keep position (subst (λ (c : Option (List (List ℕ))). PositionAt unlocked s2.writer.tally.index c position) counted.chain_is at)

  -- and so are those within a part of what was written, which its marks give
  within_is : (bytes : ℕ) (p : Position) → IsMarked (record {
    key = position_key unlocked.key unlocked.nonce;
    file_id = unlocked.id;
    chunks = chunks;
  }) bytes p → IsPositionWithin run bytes p
  within_is bytes p m = grind (arith, common_steps, counted, length-first_chunks, take-first_chunks)

  pub marked : FindsMarks (Some run) keep (marks_over unlocked s2.writer.tally.chain)
  marked = rw counted.chain_is (found keep) where
    found : (how : PositionPolicy) → FindsMarks (Some run) how (marks_over unlocked (chain_if how chunks))
    found Kept = within_is
    found Dropped = refl

  -- begun so, since its sink was as in the first of these ports, and its source too
  module _ (begun : Beginning) (from : begun.run run) (sink : SinkView) (wrote : Appends sink.taken s2.writer.sink.taken (copied ++ q.out))
      (read_failed : m.reader.source.failed ≡ a.failed) (write_failed : m.writer.sink.failed ≡ sink.failed)
      (all : (bytes : List ℕ) → Pulled (start_after front a.supply) s2.reader.source.supply s2.reader.unread.pulls bytes → s2.reader.unread.pulls ≡ 2 ^ 63
      → begun.never (ports a sink) (ports_at s2)) where
    abbrev old : Ports
    old = ports a sink

    abbrev new : Ports
    new = ports_at s2

    abbrev never : Type 0
    never = begun.never old new

    fails : (fault : FileFault) → SegmentFails (unbox unlocked.key unlocked.nonce) chunk_length m s2 (segment_of run) q.out fault
        → PayloadFails never old new run fault
    fails fault h0 = grind (arith, common_steps, all_pulled)

    -- what holds of each end of the run holds of its answer
    module _ (P : Result Done Stopped → Type 0) (done : (written : ℕ) → IsDone Allows old new written run → NoneFailed old new
        → s2.writer.sink.flushed ≡ true → P (Ok (record { written = written })))
        (stopped : (s : Stopped) → StopsInPayload keep Allows never old new s run → P (Err s)) where
      ended_as : (how : Result (Unit {0}) FileFault) (result : Result Done Stopped) → OnOk how (s2.writer.sink.flushed ≡ true) → MatchResult how
          (λ _. SegmentDone (unbox unlocked.key unlocked.nonce) chunk_length m s2 (segment_of run) q.out)
          (SegmentFails (unbox unlocked.key unlocked.nonce) chunk_length m s2 (segment_of run) q.out)
          → EndsAs unlocked s2.writer.tally how result → P result
      ended_as how result h0 h1 h2 = grind (arith, common_steps, fails, given, is_run)

    pub answered : (result : Result Done Stopped) → EndsAs unlocked s2.writer.tally end result
        → DecryptsMarked keep Allows begun old new result (marks_over unlocked s2.writer.tally.chain)
    answered result is =
        ended_as (λ e. DecryptsMarked keep Allows begun old new e (marks_over unlocked s2.writer.tally.chain))
        (λ written d none flushed. record { is = record { run = Some run; answers = (from, d, none); flushed = flushed; named = wrote.named }; found = marked })
        (λ stop d. record { is = record { run = Some run; answers = (from, d); flushed = tt; named = wrote.named }; found = marked })
        end result q.flushed q.answered is

-- ---- Runs in a row, by the number of runs.

-- what was copied of a text's beginning is the text's beginning
old_taken : (text : List ℕ) (p : Position) (r : Run) → r.first ≡ p.index → IsOldText p r.copied → IsPrefixOf r.copied text
    → r.copied ≡ take (r.first * chunk_length) text
old_taken text p r at old c = grind (arith, common_steps, take_at)

-- as far as it was copied, the old text begins this text
pub record Fits (text : List ℕ) (e : Resumption) : Type 0 where
  pub copied : (old new : Ports) (written : ℕ) (out : List ℕ) → WritesOld e old new written out → IsPrefixOf out text
  pub taken : (r : Run) → IsFrom e r → r.copied ≡ take (r.first * chunk_length) text

-- if all that it gave begins the text
pub given_fits : (text : List ℕ) (e : Resumption) → ((given : List ℕ) → Consumes e.first.supply e.last.supply given → IsPrefixOf given text) → Fits text e
given_fits text e begins = record {
  copied = λ old new written out w. prefix_trans out w.pulled text w.front (begins w.pulled w.read);
  taken = λ r from. old_taken text e.position r from.index from.old_text
      (prefix_trans r.copied (r.copied ++ from.more) text (from.more, refl) (begins (r.copied ++ from.more) from.old_read));
}

-- if it begins with the text's chunks before the position
pub begins_fits : (text : List ℕ) (e : Resumption) → BeginsWith e.position e.first.supply text → Fits text e
begins_fits text e b = record { copied = λ old new written out w. w.of text b; taken = taken } where
  taken : (r : Run) → IsFrom e r → r.copied ≡ take (r.first * chunk_length) text
  taken r from =
      let start = take (e.position.index * chunk_length) text in
      let t = left_of e.first.supply e.last.supply b.all (r.copied ++ from.more) b.shown from.old_read in
      let size : length start ≡ e.position.index * chunk_length = omega (arith, length-take (e.position.index * chunk_length) text, b.within) in
      let both : r.copied ++ (from.more ++ t.0) ≡ start ++ b.begins.0 = sym (append_assoc r.copied from.more t.0) ∙ (sym t.1 ∙ sym b.begins.1) in
      (same_front r.copied start (from.more ++ t.0) b.begins.0 (from.old_text.size ∙ sym size) both).0
      ∙ ap (λ (k : ℕ). take (k * chunk_length) text) (sym from.index)

-- the position that a run began from, if the old text begins a text
pub old_carries : (p : Position) (copied text : List ℕ) → IsOldText p copied → IsPrefixOf copied text → CarriesText text p
old_carries p copied text o c = grind (arith, common_steps, first_chunks-append, length-append)

same_carries : (p q : Position) (text : List ℕ) → IsSame p q → CarriesText text p → CarriesText text q
same_carries p q text s c = grind (arith, common_steps)

module _ (text : List ℕ) (few : chunk_count chunk_length text ≤ chunk_limit) where
  -- a run that follows on what begins the text is authentic
  follows : (before : List ℕ) → IsPrefixOf before text → (from : Option Position) (r : Run) → BeginsAfter before from r → IsTexts text r
      → (r.first < chunk_limit) × IsAuthenticRun r text × ((p : Position) → IsSomeAnd from (λ q. IsSame q p) → CarriesText text p)
  follows before front None r begun auth = (omega (arith, begun.zero), authentic_start r begun text few auth, (λ p none. absurd none))
  follows before front (Some q) r begun auth =
      let begins = prefix_trans r.copied before text begun.1 front in (
        omega (arith, begun.0, q.within),
        record { few = few; old_text = old_taken text q r begun.0 begun.2 begins; authentic = auth },
        (λ p same. same_carries q p text same (old_carries q r.copied text begun.2 begins)),
      )

  -- what the last of such runs wrote begins the text
  front_of : (runs : List BegunRun) → AllFollow text runs → IsPrefixOf (held_last runs) text
  front_of [] none = (text, refl)
  front_of (r ∷ earlier) a =
      let at = follows (held_last earlier) (front_of earlier a.1) r.from r.run a.0.begins a.0.authentic in
      writes_of r.run at.0 a.0.prefix text at.1

  pub in_a_row : (r : BegunRun) (earlier : List BegunRun) → AllFollow text (r ∷ earlier) → WritesRight text r
  in_a_row r earlier a =
      let at = follows (held_last earlier) (front_of earlier a.1) r.from r.run a.0.begins a.0.authentic in
      let begins = front_of (r ∷ earlier) a in
      record {
        prefix = begins;
        in_copy = λ copied front. prefix_trans copied (held r.run) text front begins;
        all = λ whole done. writes_all r.run at.0 whole done text at.1;
        carries = λ p. ⊎_elim (λ h. within_carries r.run h.0 p at.0 a.0.prefix h.1 text at.1) (at.2 p);
      }

-- ---- Bound positions.

-- the old text is the beginning of each text that the position is bound to
bound_old : {text : List ℕ} {p : Position} {r : Run} → BindsTo text p r → r.copied ≡ take (p.index * chunk_length) text
bound_old {text} {p} {r} b = b.to.distinct (b.old_text.same ∙ b.to.carries.1)

authentic : {text : List ℕ} {p : Position} {r : Run} → BindsTo text p r → IsAuthenticRun r text
authentic {text} {p} {r} b = record {
  few = b.few;
  old_text = bound_old b ∙ ap (λ (k : ℕ). take (k * chunk_length) text) (sym b.index);
  authentic = b.authentic;
}

pub bound : (Allows : Header → List ℕ → Type 0) (text : List ℕ) (p : Position) (old new : Ports) (written : ℕ) (r : Run) → BindsTo text p r
    → IsRun Allows old new written r → Bound text p r
bound Allows text p was now written r b is = record {
  copied = bound_old b;
  begins = writes_of r (omega (arith, b.index, p.within)) is.prefix text (authentic b);
}

pub bound_done : (Allows : Header → List ℕ → Type 0) (text : List ℕ) (p : Position) (old new : Ports) (written : ℕ) (r : Run) → BindsTo text p r
    → IsDone Allows old new written r → held r ≡ text
bound_done Allows text p was now written r b d = writes_all r (omega (arith, b.index, p.within)) d.whole d.done text (authentic b)
