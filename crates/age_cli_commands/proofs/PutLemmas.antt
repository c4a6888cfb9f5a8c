-- What was put of an output, and of the file of a position.
use Rattle.std.proofs.Common.{◌≡◌, ◌∙◌, ◌++◌, ◌∷◌, [], ℕ, List, inl, inr, refl, ap, sym, subst, Option, Some}
use Rattle.std.proofs.Common.{None, Result, Ok, Err, OnOk, append-nil}
use Rattle.std.specs.Prelude.{IsOkUnless, IsSomeAnd, OnErr, IfSome, ◌<◌}
use Rattle.clap.specs.Words.{Text}
use Rattle.age_io.specs.{SinkView}
use Rattle.age_host_model.specs.declared.options.Durability.{Durability}
use Rattle.age_host_model.specs.declared.options.Durability.TheVariants.{Synced}
use Rattle.age_fault.specs.declared.fault.FileFault.{FileFault}
use Rattle.age_fault.specs.declared.fault.FileFault.TheVariants.{Write}
use Rattle.age_file_position.specs.{position_text}
use Rattle.age_file_position.specs.declared.position.Position.{Position}
use Rattle.age_host_model.specs.{Closes, Discards, EndedFile, OutFile, IsAtPathWithBytes, IsDurable}
use Rattle.age_cli_files.proofs.{came_then, grows_then, grows_by, then_came}
use Rattle.age_cli_files.specs.{Entry, entry, FilesView, Does, PutsOnly, NotedSince, Absent, Present, Outcome}
use Rattle.age_cli_files.specs.{Put, put_as, puts_in}
use Rattle.age_cli_args.specs.{option_text}
use Rattle.age_cli_common.proofs.FileLemmas.{did_came}
use Rattle.age_cli_common.specs.declared.command_error.CommandError.{CommandError}
use Rattle.age_cli_commands.proofs.OpeningLemmas.{some_and}
use Rattle.age_cli_commands.specs.{StopPoint}
use Rattle.age_cli_commands.specs.Effects.{MustSave, IsSaved, IsConcluded, PutsRest}
use Rattle.age_cli_commands.specs.Left.{IsThereUnlessFailed, stop_ending}
use Rattle.age_cli_commands.specs.declared.pending_stop.PendingStop.{PendingStop}
use Rattle.age_cli_commands.specs.inner.{Concludes, EndsOut, IsLeft, IsPut, LeavesOut, SavedPosition, SavesStop}

-- nothing was put
pub grows_same : (old new : FilesView) → new.outcomes ≡ old.outcomes ++ [] → PutsOnly [] old new
unfolding puts_in
grows_same old new is = record { more = []; is = is; puts_are = refl }

pub grows_kept : (old new : FilesView) → new.outcomes ≡ old.outcomes → PutsOnly [] old new
grows_kept old new is = grows_same old new (is ∙ sym (append-nil old.outcomes))

-- this was put
pub grows_put : (name bytes : List ℕ) (old new : FilesView) → new.outcomes ≡ old.outcomes ++ Put name bytes ∷ [] → PutsOnly (entry name bytes ∷ []) old new
unfolding puts_in
grows_put name bytes old new is = record { more = Put name bytes ∷ []; is = is; puts_are = refl }

no_entry : (e : Entry) (es : List Entry) → [] ≡ e ∷ es → ⊥
no_entry e es is = cc

put_among : (more : List Outcome) (name bytes : List ℕ) → puts_in more ≡ entry name bytes ∷ []
    → (before : List Outcome) × (later : List Outcome) × (more ≡ before ++ Put name bytes ∷ later)
unfolding puts_in
put_among [] name bytes is = absurd (no_entry _ _ is)
put_among (Put n b ∷ more) name bytes is =
    let one : entry n b ≡ entry name bytes = cc in
    ([], more, ap (λ (e : Entry). Put e.name e.bytes ∷ more) one)
put_among (o ∷ more) name bytes is = let h = put_among more name bytes is in (o ∷ h.0, h.1, ap (λ l. o ∷ l) h.2)

-- and so it came
pub put_came : (name bytes : List ℕ) (old new : FilesView) → PutsOnly (entry name bytes ∷ []) old new → NotedSince old new (Put name bytes)
put_came name bytes old new puts =
    let h = put_among puts.more name bytes puts.puts_are in
    record { before = h.0; later = h.1; is = puts.is ∙ ap (λ l. old.outcomes ++ l) h.2 }

-- an output was closed, which took bytes
pub left_puts : (sink : SinkView) (r : Result (Unit {0}) FileFault) (old new : FilesView) → new.outcomes ≡ old.outcomes ++ put_as sink.taken.label sink.taken.bytes r
    → (sink.taken.bytes ≡ [] → ⊥) → (puts : List Entry) × PutsOnly puts old new × IsPut sink puts
left_puts sink (Ok done) old new is some = (entry sink.taken.label sink.taken.bytes ∷ [], grows_put sink.taken.label sink.taken.bytes old new is, inr (refl, some))
left_puts sink (Err fault) old new is some = ([], grows_same old new is, inl refl)

-- how its file was left
pub left_empty : {durability : Durability} {file : Option OutFile} (sink : SinkView) (out : EndedFile) → sink.taken.bytes ≡ [] → Discards file sink out → IsLeft durability sink out
left_empty sink out none d = record { took = d.took; at = d.at; within = d.within; untouched = d.untouched; kept = λ some. absurd (some none); there = λ some. absurd (some none) }

-- it is there, or a call has failed
there_or : {durability : Durability} {file : Option OutFile} (r : Result (Unit {0}) FileFault) (out : EndedFile) → out.file ≡ file → OnOk r (IsAtPathWithBytes out)
    → (durability ≡ Synced → OnOk r (IsDurable out)) → OnErr r (IfSome file (λ f. 0 < out.failed)) → IsThereUnlessFailed durability out
there_or (Ok done) out same there safe caused = inl (there, safe)
there_or (Err fault) out same there safe caused = inr (subst (λ (o : Option OutFile). IfSome o (λ f. 0 < out.failed)) (sym same) caused)

pub left_whole : {durability : Durability} {file : Option OutFile} {r : Result (Unit {0}) FileFault} (sink : SinkView) (out : EndedFile) → (sink.taken.bytes ≡ [] → ⊥)
    → Closes durability file sink r out → IsLeft durability sink out
left_whole {r = r} sink out some c = record { took = c.took; at = c.at; within = c.within; untouched = λ none. absurd (some none); kept = λ more. c.closed; there = λ more unfailed. there_or r out c.same (c.there unfailed) (λ waits. c.safe waits unfailed) c.caused }

-- ---- What was put to the file of the position.

module _ (old new : FilesView) where
  puts_none : new ≡ old → (rest : List Entry) × PutsOnly rest old new × (rest ≡ [])
  puts_none same = ([], grows_kept old new (ap (λ v. v.outcomes) same), refl)

  puts_so : (settled : ℕ) (save : Option Text) (position : Option Position) (how : Result (Unit {0}) FileFault) → SavedPosition save settled position old new how
      → (rest : List Entry) × PutsOnly rest old new × IsSaved settled position save how rest
  puts_so settled (Some name) (Some p) (Ok done) saved =
      (entry name (position_text p) ∷ [], grows_put name (position_text p) old new (ap (λ v. v.outcomes) saved.1), (saved.0, refl))
  puts_so settled (Some name) (Some p) (Err second) same = puts_none same
  puts_so settled (Some name) None how same = puts_none same
  puts_so settled None None how same = puts_none same
  puts_so settled None (Some p) how same = puts_none same

  ended_so : (settled : ℕ) (save : Option Text) (position : Option Position) (how : Result (Unit {0}) FileFault) → SavedPosition save settled position old new how
      → new.ended ≡ old.ended
  ended_so settled (Some name) (Some p) (Ok done) saved = ap (λ v. v.ended) saved.1
  ended_so settled (Some name) (Some p) (Err second) same = ap (λ v. v.ended) same
  ended_so settled (Some name) None how same = ap (λ v. v.ended) same
  ended_so settled None None how same = ap (λ v. v.ended) same
  ended_so settled None (Some p) how same = ap (λ v. v.ended) same

-- what is due, by what was said by then
pub due_as : (Came Later : Outcome → Type 0) → ((o : Outcome) → Came o → Later o) → (position : Option Position) (save : Option Text) (due : Option Position)
    → MustSave Came position save due → MustSave Later position save due
due_as Came Later so (Some p) (Some name) due (inl (same, absent)) = inl (same, λ first. so (Absent name) (absent first))
due_as Came Later so (Some p) (Some name) due (inr (none, first, present)) = inr (none, first, so (Present name) present)
due_as Came Later so (Some p) None due same = same
due_as Came Later so None save due same = same

-- what is due was found, and then it was put, or not
pub concluded_so : (old mid new : FilesView) → Does old mid → (s : PendingStop) (due : Option Position)
    → MustSave (NotedSince old mid) s.place.position (option_text s.save) due → (how : Result (Unit {0}) FileFault)
    → SavedPosition (option_text s.save) s.place.settled due mid new how → IsConcluded s old new (stop_ending s.fault how)
concluded_so old mid new did s due is how saved =
    let so = puts_so mid new s.place.settled (option_text s.save) due how saved in
    record {
      unended = ended_so mid new s.place.settled (option_text s.save) due how saved ∙ ap (λ v. v.ended) did.is;
      put = record {
        how = how;
        reported = refl;
        rest = so.0;
        puts = grows_then [] so.0 old mid new (grows_by old mid did) so.1;
        due = due;
        is_due = due_as (NotedSince old mid) (NotedSince old new) (came_then so.0 old mid new so.1) s.place.position (option_text s.save) due is;
        saved = so.2;
      };
    }

-- ---- How an output was ended.

-- by what was noted of its close
pub closed_as : (durability : Durability) (file : Option OutFile) (sink : SinkView) (r : Result (Unit {0}) FileFault) (old new : FilesView)
    → new.outcomes ≡ old.outcomes ++ put_as sink.taken.label sink.taken.bytes r → IsOkUnless r Write
    → IsSomeAnd new.ended (Closes durability file sink r) → EndsOut durability sink (Ok tt) old new r
closed_as durability file sink (Ok done) old new is fails closes =
    record { file = file; ended = closes; puts_only = grows_put sink.taken.label sink.taken.bytes old new is }
closed_as durability file sink (Err fault) old new is fails closes = (
  fails,
  record {
    outs = [];
    puts_only = grows_same old new is;
    out = inl refl;
    ended = some_and new.ended (λ out c. (file, subst (λ f. Closes durability file sink (Err f) out) fails c)) closes;
  },
)

module _ {save : Option Text} {durability : Durability} {sink : SinkView} {IsFile : EndedFile → Type 0} {fault : FileFault} {place : StopPoint}
    {old mid new : FilesView} {e : CommandError} where
  -- it was left, and then the position was saved, or not
  saves_stop : LeavesOut sink IsFile old mid → new.ended ≡ mid.ended
      → PutsRest save fault place mid new e → SavesStop save durability sink IsFile fault place old new e
  saves_stop left same by = record {
    how = by.how;
    reported = by.reported;
    ended = subst (λ (o : Option EndedFile). IsSomeAnd o IsFile) (sym same) left.ended;
    outs = left.outs;
    rest = by.rest;
    puts_only = grows_then left.outs by.rest old mid new left.puts_only by.puts;
    out = left.out;
    due = by.due;
    is_due = due_as (NotedSince mid new) (NotedSince old new) (then_came left.outs old mid new left.puts_only) place.position save by.due by.is_due;
    saved = by.saved;
  }

  -- the same from before something else was done
  saves_from : Does old mid → SavesStop save durability sink IsFile fault place mid new e → SavesStop save durability sink IsFile fault place old new e
  saves_from did s = record {
    how = s.how;
    reported = s.reported;
    ended = s.ended;
    outs = s.outs;
    rest = s.rest;
    puts_only = grows_then [] (s.outs ++ s.rest) old mid new (grows_by old mid did) s.puts_only;
    out = s.out;
    due = s.due;
    is_due = due_as (NotedSince mid new) (NotedSince old new) (did_came did) place.position save s.due s.is_due;
    saved = s.saved;
  }

-- it was ended whole
pub concludes_all : (save : Option Text) (durability : Durability) (sink : SinkView) (place : StopPoint) (old new : FilesView) (engine : Result (Unit {0}) FileFault)
    → EndsOut durability sink engine old new (Ok tt) → Concludes save durability sink engine place old new (Ok tt)
concludes_all save durability sink place old new (Ok x) ends = ends
concludes_all save durability sink place old new (Err f) ends = absurd ends.0

module _ (save : Option Text) (durability : Durability) (sink : SinkView) (place : StopPoint) (old mid new : FilesView) where
  -- it wasn't, and then the position was saved, or not
  pub concludes_stop : (engine : Result (Unit {0}) FileFault) (fault : FileFault) (e : CommandError) → EndsOut durability sink engine old mid (Err fault) → new.ended ≡ mid.ended
      → PutsRest save fault place mid new e → Concludes save durability sink engine place old new (Err e)
  concludes_stop (Ok x) fault e ends same by = saves_stop ends.1 same (subst (λ f. PutsRest save f place mid new e) ends.0 by)
  concludes_stop (Err f) fault e ends same by = saves_stop ends.1 same (subst (λ f. PutsRest save f place mid new e) ends.0 by)

  pub concludes_from : Does old mid → (engine : Result (Unit {0}) FileFault) (r : Result (Unit {0}) CommandError) → Concludes save durability sink engine place mid new r
      → Concludes save durability sink engine place old new r
  concludes_from did (Ok x) (Ok y) c = record {
    file = c.file;
    ended = c.ended;
    puts_only = grows_then [] (entry sink.taken.label sink.taken.bytes ∷ []) old mid new (grows_by old mid did) c.puts_only;
  }
  concludes_from did (Ok x) (Err e) c = saves_from did c
  concludes_from did (Err s) (Err e) c = saves_from did c
  concludes_from did (Err s) (Ok y) c = absurd c

-- what was put while an output was ended
pub concluded : (save : Option Text) (durability : Durability) (sink : SinkView) (engine : Result (Unit {0}) FileFault) (place : StopPoint) (old new : FilesView)
    (r : Result (Unit {0}) CommandError) → Concludes save durability sink engine place old new r → (puts : List Entry) × PutsOnly puts old new
concluded save durability sink (Ok x) place old new (Ok y) c = (_, c.puts_only)
concluded save durability sink (Ok x) place old new (Err e) c = (c.outs ++ c.rest, c.puts_only)
concluded save durability sink (Err s) place old new (Err e) c = (c.outs ++ c.rest, c.puts_only)
concluded save durability sink (Err s) place old new (Ok y) c = absurd c
