-- What a command leaves that isn't done, from what its engine did.
use Rattle.std.proofs.Common.{◌≡◌, ◌∙◌, ◌++◌, ◌≤◌, ◌*◌, [], List, ℕ, ap, sym, subst, inl, inr, ⊎_elim, ◌⊎◌}
use Rattle.std.proofs.Common.{Option, Some, None, Result, Ok, Err, refl, arith, rules, Bool, true, false}
use Rattle.std.proofs.Common.{append-nil, length}
use Rattle.std.proofs.lemmas.List.{nil_from_length}
use Rattle.std.specs.Prelude.{IsSomeAnd, IfSome, ◌<◌, ◌==◌, MatchOption, is_some}
use Rattle.clap.specs.Words.{Text}
use Rattle.age_io.specs.{SourceView, SinkView, Consumes}
use Rattle.age_io.specs.Taken.{Appends}
use Rattle.age_stanza.specs.declared.header.Header.{Header}
use Rattle.age_chunk.specs.{chunk_length}
use Rattle.age_stream.specs.{IsPrefixOf}
use Rattle.age_fault.specs.declared.fault.FileFault.{FileFault}
use Rattle.age_fault.specs.declared.fault.FileFault.TheVariants.{OldTextDiffers, Stream, Read, Write}
use Rattle.age_fault.specs.declared.fault.FileFault.TheVariants.{ReadNeverEnds}
use Rattle.age_file_position.specs.declared.position.Position.{Position}
use Rattle.age_file_position.specs.declared.position.PositionPolicy.{PositionPolicy}
use Rattle.age_file_position.specs.declared.position.PositionPolicy.TheVariants.{Kept, Dropped}
use Rattle.age_file_input.specs.{Ports}
use Rattle.age_file_encrypt.specs.{SecretView}
use Rattle.age_file_decrypt.specs.{OpenedFile}
use Rattle.age_file_decrypt.specs.Resumes.{InOldFails, InSkippedFails, WritesOld, Resumption, resumption}
use Rattle.age_file_decrypt.specs.Resumes.{IsOldText}
use Rattle.age_file_decrypt.specs.Runs.{Run, Reads, IsFromStart, IsRun, BelongsTo, IsPositionWithin, PayloadFails}
use Rattle.age_file_decrypt.specs.Runs.{held}
use Rattle.age_cli_files.proofs.{gave_by}
use Rattle.age_cli_files.specs.{FilesView, Outcome, NotedSince, HasGiven, HasGivenAll, Entry}
use Rattle.age_cli_args.specs.{option_text}
use Rattle.age_cli_args.specs.declared.request.Decrypting.{Decrypting}
use Rattle.age_cli_args.specs.declared.request.Encrypting.{Encrypting}
use Rattle.age_cli_args.specs.declared.request.Paths.{Paths}
use Rattle.age_cli_args.specs.declared.request.Request.{Request}
use Rattle.age_cli_args.specs.declared.request.Request.TheVariants.{Encrypt, Decrypt, Resume}
use Rattle.age_cli_common.specs.{allows_by, MakesBy}
use Rattle.age_cli_common.specs.declared.command_error.CommandError.{CommandError}
use Rattle.age_cli_common.specs.declared.identity.Identity.{Identity}
use Rattle.age_cli_commands.proofs.DecryptionLemmas.{if_some}
use Rattle.age_cli_commands.proofs.DoneLemmas.{old_gave}
use Rattle.age_cli_commands.specs.Effects.{MustSave, IsSaved}
use Rattle.age_cli_commands.specs.Commands.{WasRead}
use Rattle.age_cli_commands.specs.Done.{CameFirst, paths_of}
use Rattle.age_cli_commands.specs.Left.{IsThereUnlessFailed, initial_position, GivesFile, IsBeforeRun, IsRunOf, IsSavedBy}
use Rattle.age_cli_commands.specs.Left.{Left, SavesOf, Stops, StopsOf, save_of}
use Rattle.age_cli_commands.specs.inner.Engines.{missing_at, Engine, EngineFailed, IsPlaced, OfEngine}
use Rattle.age_cli_commands.specs.inner.Engines.{Returned, decrypt_engine, encrypt_engine, kept_for}

-- ---- The position that was saved.

abbrev saved_of : Result (Unit {0}) FileFault → Option Text → Option Position → Option Position
saved_of (Ok done) (Some name) due = due
saved_of how save due = None

saves_of : (settled : ℕ) (due : Option Position) (save : Option Text) (how : Result (Unit {0}) FileFault) (rest : List Entry)
    → IsSaved settled due save how rest → SavesOf save (saved_of how save due) rest
saves_of settled (Some q) (Some name) (Ok x) rest saved = saved.1
saves_of settled (Some q) (Some name) (Err f) rest none = none
saves_of settled (Some q) None (Ok x) rest none = none
saves_of settled (Some q) None (Err f) rest none = none
saves_of settled None (Some name) (Ok x) rest none = none
saves_of settled None (Some name) (Err f) rest none = none
saves_of settled None None (Ok x) rest none = none
saves_of settled None None (Err f) rest none = none

due_is : (Came : Outcome → Type 0) (position due : Option Position) (save : Option Text) (q : Position) → MustSave Came position save due
    → due ≡ Some q → position ≡ Some q
due_is Came (Some p) due (Some name) q (inl here) is = sym here.0 ∙ is
due_is Came (Some p) due (Some name) q (inr none) is = let no = sym none.0 ∙ is in cc
due_is Came (Some p) due None q same is = sym same ∙ is
due_is Came None due save q same is = sym same ∙ is

-- one that was saved was due, is the one to save, and isn't beyond what is certain
saved_so : (P : Position → Type 0) (Came : Outcome → Type 0) (settled : ℕ) (position due : Option Position) (save : Option Text)
    (how : Result (Unit {0}) FileFault) (rest : List Entry) → MustSave Came position save due → IsSaved settled due save how rest
    → ((q : Position) → position ≡ Some q → is_some save ≡ true → kept_for save ≡ Kept → q.index * chunk_length ≤ settled → P q)
    → IfSome (saved_of how save due) P
saved_so P Came settled position (Some q) (Some name) (Ok x) rest due saved so =
    so q (due_is Came position (Some q) (Some name) q due refl) refl refl saved.0
saved_so P Came settled position None (Some name) (Ok x) rest due saved so = tt
saved_so P Came settled position due None (Ok x) rest is saved so = tt
saved_so P Came settled position due (Some name) (Err f) rest is saved so = tt
saved_so P Came settled position due None (Err f) rest is saved so = tt

abbrev IsAt : Option Run → Option Position → ℕ → Position → Type 0
IsAt run start settled q = (start ≡ Some q)
    ⊎ IsSomeAnd run (λ r. IsPositionWithin r settled q × IfSome start (λ s. s.index ≤ q.index))

abbrev IsPlacedAt : Run → Option Position → ℕ → Position → Type 0
IsPlacedAt r start settled p = (IsPositionWithin r settled p × IfSome start (λ s. s.index ≤ p.index))
    ⊎ ((start ≡ Some p) × (q : Position) × IsPositionWithin r settled q × (q.index < p.index))

-- without a run it is where it started
placed_at : (start : Option Position) (settled : ℕ) (own position : Option Position) (run : Option Run) (keep : PositionPolicy)
    → IsPlaced run keep start settled own position → (run ≡ None → (own ≡ None) ⊎ (own ≡ start)) → keep ≡ Kept
    → (q : Position) → position ≡ Some q → IsAt run start settled q
placed_at start settled own position None keep placed owns kept q is =
    ⊎_elim (λ none. let no = sym is ∙ (placed ∙ none) in cc) (λ from. inl (sym from ∙ (sym placed ∙ is))) (owns refl)
placed_at start settled own position (Some r) Kept placed owns kept q is =
    ⊎_elim (λ within. inr within) (λ begun. inl begun.0)
    (subst (λ (o : Option Position). IsSomeAnd o (IsPlacedAt r start settled)) is placed)
placed_at start settled own position (Some r) Dropped placed owns kept q is = cc

-- ---- When a put may have failed.

module _ (before after : Ports) (unfailed : before.sink.failed ≡ 0) where
  payload_lacks : (Never : Type 0) (r : Run) (f : FileFault) → PayloadFails Never before after r f → (after.sink.failed ≡ 0) ⊎ (f ≡ Write)
  payload_lacks Never r (Stream fault) why = inl (why.2.1 ∙ unfailed)
  payload_lacks Never r Read why = inl (why.2.1 ∙ unfailed)
  payload_lacks Never r Write why = inr refl
  payload_lacks Never r ReadNeverEnds why = inl (why.3.1 ∙ unfailed)
  payload_lacks Never r other why = absurd why

  skipped_lacks : (Allows : Header → List ℕ → Type 0) (e : Resumption) (skipped : List ℕ) (f : FileFault) → InSkippedFails Allows e before after skipped f
      → (after.sink.failed ≡ 0) ⊎ (f ≡ Write)
  skipped_lacks Allows e skipped (Stream fault) why = inl (why.3.1 ∙ unfailed)
  skipped_lacks Allows e skipped Read why = inl (why.1 ∙ unfailed)
  skipped_lacks Allows e skipped ReadNeverEnds why = inl (why.1.1 ∙ unfailed)
  skipped_lacks Allows e skipped other why = absurd why

-- ---- What was read and written of one engine.

module _ (IsPorts : Ports → Type 0) (old new : FilesView) (p : Paths) (run : Returned IsPorts (CameFirst old new) (NotedSince old new) p new.ended) where
  abbrev First : Outcome → Type 0
  First = CameFirst old new

  took_is : (bytes : List ℕ) → Appends run.before.sink.taken run.after.sink.taken bytes → run.out.took ≡ bytes
  took_is bytes wrote = run.took ∙ (wrote.bytes ∙ ap (λ (l : List ℕ). l ++ bytes) run.taken)

  took_none : run.after.sink ≡ run.before.sink → run.out.took ≡ []
  took_none same = run.took ∙ (ap (λ (s : SinkView). s.taken.bytes) same ∙ run.taken)

  gave_in : (bytes : List ℕ) → Consumes run.before.source.supply run.after.source.supply bytes → HasGiven First p.from.now bytes
  gave_in bytes read = gave_by First p.from.now bytes run.before.source run.after.source run.input.size run.input.unread run.input.found read run.input.over run.input.named

  gives : (identity : Identity) (file : OpenedFile) (rest : List ℕ) → Reads (allows_by identity) run.before.source.supply run.after.source.supply file rest
      → GivesFile (HasGiven First) identity p.from.now file rest
  gives identity file rest reads = record { head = reads.text; opens = reads.opens; size = reads.size; gave = gave_in _ reads.read }

  run_of : (identity : Identity) (start : Option Position) (written : ℕ) (r : Run) → IsRun (allows_by identity) run.before run.after written r
      → MatchOption start (IsFromStart r) (λ q. (r.first ≡ q.index) × BelongsTo q r.file × IsOldText q r.copied)
      → IsRunOf (HasGiven First) identity p.from.now start run.out.took r
  run_of identity start written r is begins = record {
    file = gives identity r.file (r.skipped ++ r.bytes) is.reads;
    skipped_size = is.skipped_size;
    begins = begins;
    wrote = took_is (held r) is.wrote;
    prefix = is.prefix;
  }

  -- only of the earlier output
  old_held : (identity : Identity) (e : Position × Text) (first last : SourceView) → WasRead First (missing_at e.0) e.1 first last → (written : ℕ) (copied : List ℕ)
      → WritesOld (resumption e.0 first last) run.before run.after written copied → length copied ≤ e.0.index * chunk_length
      → (file : OpenedFile) (rest : List ℕ) → Reads (allows_by identity) run.before.source.supply run.after.source.supply file rest → BelongsTo e.0 file
      → IsBeforeRun (HasGiven First) identity p.from.now (Some e) run.out.took
  old_held identity e first last read written copied w bound file rest reads own = go (e.0.index == 0) refl where
    go : (b : Bool) → b ≡ (e.0.index == 0) → IsBeforeRun (HasGiven First) identity p.from.now (Some e) run.out.took
    go true test =
        let zero : e.0.index ≡ 0 = search rules in
        inl (took_is copied w.wrote ∙ nil_from_length copied (omega (arith, bound, zero)))
    go false test =
        let some : 0 < e.0.index = search rules in
        let given = old_gave First e.0 e.1 first last w.pulled read w.read some in
        let whole : w.pulled ≡ run.out.took ++ w.front.0 = sym w.front.1 ∙ ap (λ (l : List ℕ). l ++ w.front.0) (sym (took_is copied w.wrote)) in
        inr (
          subst (λ (l : List ℕ). length l ≤ e.0.index * chunk_length) (sym (took_is copied w.wrote)) bound,
          w.front.0,
          subst (λ (l : List ℕ). HasGiven First e.1 l) whole given,
          file,
          rest,
          gives identity file rest reads,
          own,
        )

-- ---- What a stop leaves.

copied_most : (identity : Identity) (e : Resumption) (old new : Ports) (pulled copied : List ℕ) (f : FileFault)
    → InOldFails (allows_by identity) e old new pulled copied f → length copied ≤ e.position.index * chunk_length
copied_most identity e old new pulled copied OldTextDiffers h = omega (arith, h.0)
copied_most identity e old new pulled copied f h = omega (arith, h.0)

module _ (IsPorts : Ports → Type 0) (old new : FilesView) (d : Decrypting) (run : Returned IsPorts (CameFirst old new) (NotedSince old new) d.paths new.ended)
    (identity : Identity) (save : Option Text) (settled : ℕ) where
  abbrev first : Outcome → Type 0
  first = CameFirst old new

  -- what was written, where the position to save is, and whether a put failed
  record Found (start : Option (Position × Text)) (fault : FileFault) (position : Option Position) : Type 0 where
    pub reached : Option Run
    pub wrote : MatchOption reached (IsBeforeRun (HasGiven first) identity d.paths.from.now start run.out.took)
        (IsRunOf (HasGiven first) identity d.paths.from.now (initial_position start) run.out.took)
    pub at : kept_for save ≡ Kept → (q : Position) → position ≡ Some q → IsAt reached (initial_position start) settled q
    pub lacks : (q : Position) → position ≡ Some q → (run.out.took ≡ [] → ⊥) → (run.after.sink.failed ≡ 0) ⊎ (fault ≡ Write)

  -- before a payload nothing was written
  found_none : (start : Option (Position × Text)) (fault : FileFault) (position own : Option Position) → run.after.sink ≡ run.before.sink
      → own ≡ None → position ≡ own → Found start fault position
  found_none start fault position own same none placed = record {
    reached = None;
    wrote = inl (took_none IsPorts old new d.paths run same);
    at = placed_at (initial_position start) settled own position None (kept_for save) placed (λ no. inl none);
    lacks = λ q at some. absurd (some (took_none IsPorts old new d.paths run same));
  }

  -- a run stopped
  found_run : (start : Option (Position × Text)) (fault : FileFault) (position own : Option Position) (r : Run)
      → IsRunOf (HasGiven first) identity d.paths.from.now (initial_position start) run.out.took r
      → IsPlaced (Some r) (kept_for save) (initial_position start) settled own position → (run.after.sink.failed ≡ 0) ⊎ (fault ≡ Write) → Found start fault position
  found_run start fault position own r is placed lacks = record {
    reached = Some r;
    wrote = is;
    at = placed_at (initial_position start) settled own position (Some r) (kept_for save) placed (λ no. cc);
    lacks = λ q at some. lacks;
  }

  stops_found : (start : Option (Position × Text)) (fault : FileFault) (position : Option Position)
      → (decrypt_engine IsPorts first save identity start).stops settled fault position run.before run.after → Found start fault position
  stops_found None fault position (None, stop, is, stops, placed) =
      found_none None fault position stop.position stops.0.sink stops.0.position placed
  stops_found None fault position (Some r, stop, is, stops, placed) =
      found_run None fault position stop.position r (run_of IsPorts old new d.paths run identity None stop.written r stops.1.is stops.0) placed
      (subst (λ (f : FileFault). (run.after.sink.failed ≡ 0) ⊎ (f ≡ Write)) is (payload_lacks run.before run.after run.failed _ r stop.fault stops.1.why))
  stops_found (Some e) fault position (one, last, one_is, last_is, read, (None, stop, is, inl none, placed)) =
      found_none (Some e) fault position stop.position none.0.sink none.0.position placed
  stops_found (Some e) fault position (one, last, one_is, last_is, read, (None, stop, is, inr (inl copying), placed)) = record {
    reached = None;
    wrote = old_held IsPorts old new d.paths run identity e one last read stop.written copying.copied copying.writes
        (copied_most identity (resumption e.0 one last) run.before run.after copying.writes.pulled copying.copied stop.fault copying.why)
        copying.file copying.opened.0 copying.opened.2 copying.own;
    at = placed_at (Some e.0) settled stop.position position None (kept_for save) placed (λ no. inl copying.nowhere);
    lacks = λ q at some. let no = sym at ∙ (placed ∙ copying.nowhere) in cc;
  }
  stops_found (Some e) fault position (one, last, one_is, last_is, read, (None, stop, is, inr (inr skipping), placed)) = record {
    reached = None;
    wrote = old_held IsPorts old new d.paths run identity e one last read stop.written skipping.copied skipping.writes
        (omega (arith, skipping.old_text.size)) skipping.file skipping.skipped skipping.reads skipping.own;
    at = placed_at (Some e.0) settled stop.position position None (kept_for save) placed (λ no. inr skipping.here);
    lacks = λ q at some. subst (λ (f : FileFault). (run.after.sink.failed ≡ 0) ⊎ (f ≡ Write)) is
        (skipped_lacks run.before run.after run.failed (allows_by identity) (resumption e.0 one last) skipping.skipped stop.fault skipping.why);
  }
  stops_found (Some e) fault position (one, last, one_is, last_is, read, (Some r, stop, is, stops, placed)) =
      found_run (Some e) fault position stop.position r
      (run_of IsPorts old new d.paths run identity (Some e.0) stop.written r stops.1.is (stops.0.index, stops.0.own, stops.0.old_text)) placed
      (subst (λ (f : FileFault). (run.after.sink.failed ≡ 0) ⊎ (f ≡ Write)) is (payload_lacks run.before run.after run.failed _ r stop.fault stops.1.why))

  ends_found : (start : Option (Position × Text)) (fault : FileFault) (position : Option Position) → fault ≡ Write
      → (decrypt_engine IsPorts first save identity start).unended settled position run.before run.after → Found start fault position
  ends_found None fault position is (done, r, ends, placed) =
      found_run None fault position None r (run_of IsPorts old new d.paths run identity None done.written r ends.1.is ends.0) placed
      (inr is)
  ends_found (Some e) fault position is (one, last, one_is, last_is, read, (done, r, ends, placed)) =
      found_run (Some e) fault position None r
      (run_of IsPorts old new d.paths run identity (Some e.0) done.written r ends.1.is (ends.0.index, ends.0.own, ends.0.old_text)) placed
      (inr is)

-- ---- A command that isn't done.

module _ (IsPorts : Ports → Type 0) (old new : FilesView) where
  abbrev early : Outcome → Type 0
  early = CameFirst old new

  abbrev since : Outcome → Type 0
  since = NotedSince old new

  left : (asked : Request) (engine : Engine) (p : Paths) (ending : CommandError) (s : EngineFailed IsPorts early since engine p ending old new)
      → save_of asked ≡ engine.save → StopsOf early since asked s.run.out.took (saved_of s.save engine.save s.due)
      → ((q : Position) → s.position ≡ Some q → (s.run.out.took ≡ [] → ⊥) → (s.run.after.sink.failed ≡ 0) ⊎ (s.fault ≡ Write)) → Left asked p old new ending
  left asked engine p ending s save stops lacks = record {
    fault = s.fault;
    how = s.save;
    reported = s.reported;
    out = s.run.out;
    is = s.run.is;
    at = s.run.at;
    within = s.within;
    unchanged = ⊎_elim (λ stop none. if_some s.run.out.file (λ f untouched. inl untouched.0) (stop.untouched none))
        (λ unended none. if_some s.run.out.file (λ f failed. inr failed) unended.caused) s.cause;
    closed = ⊎_elim (λ stop some. (stop.kept some).0) (λ unended some. unended.closed) s.cause;
    saved = saved_of s.save engine.save s.due;
    there = λ some. saved_so (λ q. IsThereUnlessFailed p.durability s.run.out ⊎ (s.fault ≡ Write)) since s.settled s.position s.due engine.save s.save s.rest s.is_due s.saved
        (λ q at saves kept within. ⊎_elim (λ stop. ⊎_elim (λ unfailed. inl ((stop.kept some).1 unfailed)) (λ may. inr may) (lacks q at some))
        (λ unended. inl (inr unended.caused)) s.cause);
    outs = s.outs;
    saves = s.rest;
    puts = s.puts;
    out_is = s.out;
    saved_is = subst (λ (o : Option Text). SavesOf o (saved_of s.save engine.save s.due) s.rest) (sym save)
        (saves_of s.settled s.due engine.save s.save s.rest s.saved);
    stops = stops;
  }

  -- of a decryption
  found_of : (d : Decrypting) (identity : Identity) (start : Option (Position × Text)) (ending : CommandError)
      (s : EngineFailed IsPorts early since (decrypt_engine IsPorts early (option_text d.save) identity start) d.paths ending old new)
      → Found IsPorts old new d s.run identity (option_text d.save) s.settled start s.fault s.position
  found_of d identity start ending s =
      ⊎_elim (λ stop. stops_found IsPorts old new d s.run identity (option_text d.save) s.settled start s.fault s.position stop.promise)
      (λ unended. ends_found IsPorts old new d s.run identity (option_text d.save) s.settled start s.fault s.position unended.is unended.placed) s.cause

  stops_of : (d : Decrypting) (identity : Identity) (start : Option (Position × Text)) (ending : CommandError) → MakesBy (HasGivenAll early) d.identity identity
      → (s : EngineFailed IsPorts early since (decrypt_engine IsPorts early (option_text d.save) identity start) d.paths ending old new)
      → Stops early since d start s.run.out.took (saved_of s.save (option_text d.save) s.due)
  stops_of d identity start ending makes s =
      let found = found_of d identity start ending s in
      record {
        identity = identity;
        makes = makes;
        run = found.reached;
        wrote = found.wrote;
        saves = saved_so (IsSavedBy since d.paths (initial_position start) found.reached s.run.out.took) since s.settled s.position s.due (option_text d.save) s.save s.rest
            s.is_due s.saved (λ q at saves kept within. record { settled = s.settled; certain = s.certain saves; within = within; is = found.at kept q at });
      }

  none_placed : (e : Encrypting) (secret : SecretView) (ending : CommandError) (s : EngineFailed IsPorts early since (encrypt_engine secret) e.paths ending old new)
      → s.position ≡ None
  none_placed e secret ending s = ⊎_elim (λ stop. stop.promise.1) (λ unended. unended.placed) s.cause

  pub left_of : (asked : Request) (ending : CommandError) → OfEngine IsPorts early since asked
      (λ engine paths. EngineFailed IsPorts early since engine paths ending old new)
      → IfSome (paths_of asked) (λ p. Left asked p old new ending)
  left_of (Encrypt e) ending (secret, makes, s) = left (Encrypt e) _ e.paths ending s refl
      (⊎_elim (λ stop. let f = stop.promise.0 in (
        secret,
        makes,
        f.text,
        f.file,
        gave_in IsPorts old new e.paths s.run f.text f.read,
        f.is,
        subst (λ (t : List ℕ). IsPrefixOf t f.file) (sym (took_is IsPorts old new e.paths s.run f.out f.wrote)) f.prefix,
      ))
      (λ unended. let f = unended.promise.1 in (
        secret,
        makes,
        f.text,
        f.file,
        gave_in IsPorts old new e.paths s.run f.text f.read,
        f.is,
        subst (λ (t : List ℕ). IsPrefixOf t f.file) (sym (took_is IsPorts old new e.paths s.run f.file f.wrote)) ([], append-nil f.file),
      )) s.cause)
      (λ q at some. let no = sym at ∙ none_placed e secret ending s in cc)
  left_of (Decrypt d) ending (identity, makes, s) = left (Decrypt d) _ d.paths ending s refl (stops_of d identity None ending makes s)
      (found_of d identity None ending s).lacks
  left_of (Resume r) ending (identity, makes, p, at, s) = left (Resume r) _ r.decrypting.paths ending s refl
      (p, at, stops_of r.decrypting identity (Some (p, r.old.now)) ending makes s) (found_of r.decrypting identity (Some (p, r.old.now)) ending s).lacks
  left_of other ending s = tt
