-- What becomes of OUT, from what an engine promises and how OUT was ended.
use Rattle.std.proofs.Common.{◌≡◌, ◌∙◌, ◌⊎◌, ◌++◌, ◌∷◌, ◌<◌, ℕ, ap, sym, subst, refl, inl, inr, true}
use Rattle.std.proofs.Common.{true≢false, List, [], Option, Some, None, Result, Ok, Err, OnOk, IfOk, IfErr}
use Rattle.std.specs.Prelude.{IsSomeAnd, IfSome, MatchOption, is_some, ◌≢◌, Contains, Bool, false}
use Rattle.clap.specs.Words.{Text}
use Rattle.age_host_model.specs.declared.options.ClobberOption.TheVariants.{Refused}
use Rattle.age_fault.specs.declared.fault.FileFault.{FileFault}
use Rattle.age_fault.specs.declared.fault.FileFault.TheVariants.{Write}
use Rattle.age_file_input.specs.{Ports}
use Rattle.age_file_encrypt.specs.{SecretView, EncryptsFront}
use Rattle.age_file_encrypt.specs.Encrypts.{Encrypts}
use Rattle.age_file_encrypt.specs.declared.encryption.Written.{Written}
use Rattle.age_host_model.proofs.LawLemmas.{calls_answered}
use Rattle.age_host_model.specs.{EndedFile, IsAtName, OutFile, TouchesItself, TouchesFile, FileCall, Opened}
use Rattle.age_host_model.specs.{opening_of, is_waited, AllAnswered}
use Rattle.age_host_model.specs.Disk.{Disk}
use Rattle.age_host_model.specs.Closing.{OpensDevice}
use Rattle.age_host_model.specs.declared.opened.FileKind.TheVariants.{Regular}
use Rattle.age_host_model.specs.declared.opened.OpenOutcome.{OpenOutcome}
use Rattle.age_host_model.specs.declared.opened.OpenOutcome.TheVariants as way
use Rattle.age_cli_files.proofs.{grows_then}
use Rattle.age_cli_files.specs.{FilesView, Outcome, Absent, Settled, Put, Entry, entry, PutsOnly, NotedSince}
use Rattle.age_cli_files.specs.declared.file_set.IfMissing.TheVariants.{Fails}
use Rattle.age_cli_args.specs.declared.request.Paths.{Paths}
use Rattle.age_cli_common.specs.declared.command_error.CommandError.{CommandError}
use Rattle.age_cli_commands.proofs.PutLemmas.{due_as, put_came}
use Rattle.age_cli_commands.specs.{WasRead, StopPoint}
use Rattle.age_cli_commands.specs.Done.{IsAnsweredOnce}
use Rattle.age_cli_commands.specs.inner.{AreNew, encrypt_outcome, Concludes, IsLeft, IsPut, IsUnended, SavesStop}
use Rattle.age_cli_commands.specs.inner.Engines.{Stopping, Unended, Engine, encrypt_engine, Returned}
use Rattle.age_cli_commands.specs.inner.Engines.{EngineCompleted, EngineFailed}

-- ---- What an engine promises, by how it ended.

-- what is there
pub the_some : {A : Type 0} {P : A → Type 0} (o : Option A) → IsSomeAnd o P → (x : A) × (o ≡ Some x) × P x
the_some None h = absurd h
the_some (Some x) h = (x, refl, h)

-- an encryption
pub sealing_ends : (secret : SecretView) (before after : Ports) (r : Result Written FileFault) → IfOk r (Encrypts secret before after)
    → OnOk (encrypt_outcome r) ((encrypt_engine secret).ends before after × (after.sink.failed ≡ before.sink.failed))
sealing_ends secret before after (Ok written) ends = ((written, ends), ends.none_failed.1)
sealing_ends secret before after (Err f) ends = tt

pub sealing_stops : (secret : SecretView) (before after : Ports) (r : Result Written FileFault) → IfErr r (EncryptsFront secret before after)
    → IfErr (encrypt_outcome r) (λ fault. (encrypt_engine secret).stops 0 fault None before after)
sealing_stops secret before after (Ok written) fails = tt
sealing_stops secret before after (Err f) fails = (fails, refl)

-- ---- A disk that answers the calls of an output.

unwaited : (path : List ℕ) (n : ℕ) (opening : OpenOutcome) → is_waited opening ≡ false → opening_of path n opening ≡ Opened path n (Regular false)
unwaited path n way.New not = absurd (true≢false not)
unwaited path n (way.Found named waited) not = ap (λ w. Opened path n (Regular w)) not

answered_file : (f : OutFile) (calls : List FileCall) (touches : TouchesFile f calls) (waits : Bool) → is_waited touches.opening ≡ waits
    → ((disk : Disk) × AllAnswered f.path calls disk) ⊎ Contains calls (Opened f.path f.number (Regular false))
answered_file f calls touches true is = inl (calls_answered f calls touches is)
answered_file f calls touches false is = inr (subst (Contains calls) (unwaited f.path f.number touches.opening is) touches.opened)

answered_by : (file : Option OutFile) (calls : List FileCall) → MatchOption file ((calls ≡ []) ⊎ ((n : ℕ) × OpensDevice n calls)) (λ f. TouchesFile f calls)
    → IfSome file (λ f. ((disk : Disk) × AllAnswered f.path calls disk) ⊎ Contains calls (Opened f.path f.number (Regular false)))
answered_by None calls touches = tt
answered_by (Some f) calls touches = answered_file f calls touches (is_waited touches.opening) refl

answered_once : (e : EndedFile) → TouchesItself e → IsAnsweredOnce e
answered_once e touches = answered_by e.file e.calls touches

-- ---- What becomes of the file of OUT, and of the position.

module _ (IsPorts : Ports → Type 0) (First Came : Outcome → Type 0) (engine : Engine) (p : Paths) (before after : Ports)
    (before_is : IsPorts before) (after_is : IsPorts after) (new : AreNew before) (input : WasRead First Fails p.from.now before.source after.source)
    (fresh : p.clobber ≡ Refused → First (Absent p.to.now)) (named : after.sink.taken.label ≡ p.to.now) where
  abbrev returned : (e : Option EndedFile) (out : EndedFile) → e ≡ Some out → out.took ≡ after.sink.taken.bytes → IsAtName after.sink.taken.label out
      → Returned IsPorts First Came p e
  returned e out is took at = record {
    before = before;
    after = after;
    before_is = before_is;
    after_is = after_is;
    taken = new.taken;
    failed = new.failed;
    input = input;
    fresh = fresh;
    out = out;
    is = is;
    took = took;
    at = subst (λ (n : Text). IsAtName n out) named at;
  }

  same_put : (out : EndedFile) → out.took ≡ after.sink.taken.bytes → Put after.sink.taken.label after.sink.taken.bytes ≡ Put p.to.now out.took
  same_put out took = ap (λ n. Put n after.sink.taken.bytes) named ∙ ap (λ b. Put p.to.now b) (sym took)

  same_entry : (out : EndedFile) → out.took ≡ after.sink.taken.bytes → entry after.sink.taken.label after.sink.taken.bytes ≡ entry p.to.now out.took
  same_entry out took = ap (λ n. entry n after.sink.taken.bytes) named ∙ ap (λ b. entry p.to.now b) (sym took)

  module _ (old mid now : FilesView) (opened : PutsOnly [] old mid) (late : (o : Outcome) → NotedSince mid now o → Came o) where
    pub engine_ended : (end : Result (Unit {0}) FileFault) (place : StopPoint) → OnOk end (engine.ends before after × (after.sink.failed ≡ before.sink.failed)) → (r : Result (Unit {0}) CommandError)
        → Concludes engine.save p.durability after.sink end place mid now r → OnOk r (EngineCompleted IsPorts First Came engine p old now)
    engine_ended (Ok x) place did (Ok y) c =
        let o = the_some now.ended c.ended in
        record {
          leaves = record {
            run = returned now.ended o.0 o.1 o.2.took o.2.at;
            promise = did.0;
            named = subst Came (same_put o.0 o.2.took) (late _ (put_came after.sink.taken.label after.sink.taken.bytes mid now c.puts_only));
            closed = o.2.closed;
            there = o.2.there (did.1 ∙ new.failed);
            safe = λ synced. o.2.safe synced (did.1 ∙ new.failed);
            answered = answered_once o.0 o.2.within;
          };
          within = o.2.within;
          puts = subst (λ (x : Entry). PutsOnly (x ∷ []) old now) (same_entry o.0 o.2.took)
              (grows_then [] (entry after.sink.taken.label after.sink.taken.bytes ∷ []) old mid now opened c.puts_only);
        }
    engine_ended (Err s) place did (Ok y) c = absurd c
    engine_ended end place did (Err e) c = tt

    out_so : (out : EndedFile) → out.took ≡ after.sink.taken.bytes → (puts : List Entry) → IsPut after.sink puts
        → (puts ≡ []) ⊎ ((puts ≡ entry p.to.now out.took ∷ []) × (out.took ≢ []))
    out_so out took puts (inl none) = inl none
    out_so out took puts (inr (all, some)) = inr (all ∙ ap (λ (x : Entry). x ∷ []) (same_entry out took), (λ none. some (sym took ∙ none)))

    pub engine_stopped : (end : Result (Unit {0}) FileFault) → (place : StopPoint) → OnOk end (engine.ends before after × (after.sink.failed ≡ before.sink.failed))
        → OnOk end (engine.unended place.settled place.position before after) → IfErr end (λ f. engine.stops place.settled f place.position before after)
        → (is_some engine.save ≡ true → Came (Settled p.durability after.sink.taken.bytes place.settled)) → (r : Result (Unit {0}) CommandError)
        → Concludes engine.save p.durability after.sink end place mid now r → IfErr r (λ e. EngineFailed IsPorts First Came engine p e old now)
    engine_stopped end place did placed stops certain r c = go end r did placed stops c where
      stopped : (IsFile : EndedFile → Type 0) (fault : FileFault) (e : CommandError) → SavesStop engine.save p.durability after.sink IsFile fault place mid now e
          → ((out : EndedFile) → IsFile out → (out.took ≡ after.sink.taken.bytes) × IsAtName after.sink.taken.label out × TouchesItself out)
          → ((out : EndedFile) (is : now.ended ≡ Some out) (took : out.took ≡ after.sink.taken.bytes) (at : IsAtName after.sink.taken.label out) → IsFile out
          → Stopping IsPorts First Came engine p place.settled fault place.position (returned now.ended out is took at)
          ⊎ Unended IsPorts First Came engine p place.settled fault place.position (returned now.ended out is took at)) → EngineFailed IsPorts First Came engine p e old now
      stopped IsFile fault e c left cause =
          let o = the_some now.ended c.ended in
          let was = left o.0 o.2 in
          let took = was.0 in
          record {
            run = returned now.ended o.0 o.1 took was.1;
            within = was.2;
            fault = fault;
            save = c.how;
            reported = c.reported;
            position = place.position;
            settled = place.settled;
            certain = λ there. subst (λ (b : List ℕ). Came (Settled p.durability b place.settled)) (sym took) (certain there);
            cause = cause o.0 o.1 took was.1 o.2;
            outs = c.outs;
            rest = c.rest;
            puts = grows_then [] (c.outs ++ c.rest) old mid now opened c.puts_only;
            out = out_so o.0 took c.outs c.out;
            due = c.due;
            is_due = due_as (NotedSince mid now) Came late place.position engine.save c.due c.is_due;
            saved = c.saved;
          }

      go : (end : Result (Unit {0}) FileFault) (r : Result (Unit {0}) CommandError) → OnOk end (engine.ends before after × (after.sink.failed ≡ before.sink.failed))
          → OnOk end (engine.unended place.settled place.position before after) → IfErr end (λ f. engine.stops place.settled f place.position before after)
          → Concludes engine.save p.durability after.sink end place mid now r → IfErr r (λ e. EngineFailed IsPorts First Came engine p e old now)
      go (Ok x) (Err e) did placed stops c = stopped (IsUnended p.durability after.sink) Write e c (λ out left. (left.1.took, left.1.at, left.1.within)) (λ out is took at left. inr (record {
        promise = did.0;
        placed = placed;
        is = refl;
        closed = left.1.closed;
        caused = subst (λ (x : Option OutFile). IfSome x (λ y. 0 < out.failed)) (sym left.1.same) left.1.caused;
      }))
      go (Err f) (Err e) did placed stops c = stopped (IsLeft p.durability after.sink) f e c (λ out left. (left.took, left.at, left.within)) (λ out is took at left. inl (record {
        promise = stops;
        untouched = λ none. left.untouched (sym took ∙ none);
        kept = λ some. (left.kept (λ none. some (took ∙ none)), left.there (λ none. some (took ∙ none)));
      }))
      go (Err f) (Ok y) did placed stops c = absurd c
      go (Ok x) (Ok y) did placed stops c = tt
