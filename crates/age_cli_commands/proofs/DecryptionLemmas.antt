-- What a decryption did whose engine ran, resumed or not.
use Rattle.std.proofs.Common.{◌∙◌, ◌≡◌, ◌⊎◌, ◌≤◌, ◌<◌, ap, inl, inr, ℕ, Option, Some, None, true, true≢false}
use Rattle.std.proofs.Common.{Result, Ok, Err, OnOk, IfErr, MatchResult, sym, subst, refl}
use Rattle.std.proofs.lemmas.Result.{on_ok_weaker, IfErr-weaker}
use Rattle.std.specs.Prelude.{is_some, IfSome, IsSomeAnd, option_map}
use Rattle.clap.specs.Words.{Text}
use Rattle.age_io.specs.{SinkView, SourceView}
use Rattle.age_file_position.specs.declared.position.Position.{Position}
use Rattle.age_file_position.specs.declared.position.PositionPolicy.{PositionPolicy}
use Rattle.age_file_position.specs.declared.position.PositionPolicy.TheVariants.{Kept, Dropped}
use Rattle.age_file_input.specs.{Ports, ports}
use Rattle.age_file_decrypt.specs.{Beginning, DecryptEnds, DecryptStops, DecryptsMarked, FindsMarks, IsMarked}
use Rattle.age_file_decrypt.specs.{MarksView, Resumption, Run, from_either}
use Rattle.age_file_decrypt.specs.declared.decryption.Done.{Done}
use Rattle.age_file_decrypt.specs.declared.decryption.Stopped.{Stopped}
use Rattle.age_cli_files.specs.{FilesView, Outcome, Found, Gave, Settled, reading_of}
use Rattle.age_cli_args.specs.{option_text}
use Rattle.age_cli_common.specs.{allows_by, refuses_by}
use Rattle.age_cli_common.specs.declared.command_error.CommandError.{CommandError}
use Rattle.age_cli_common.specs.declared.identity.Identity.{Identity}
use Rattle.age_cli_commands.proofs.EngineLemmas.{the_some}
use Rattle.age_cli_commands.specs.{StopPoint}
use Rattle.age_cli_commands.specs.Left.{initial_position}
use Rattle.age_cli_commands.specs.declared.decrypt_command.EarlierOutput.{EarlierOutput}
use Rattle.age_cli_commands.specs.declared.output.WritePlan.{WritePlan}
use Rattle.age_cli_commands.specs.inner.{Concludes, IsNewOld, IsPlacedBy, IsSameOld, RunsEngine, earlier_of}
use Rattle.age_cli_commands.specs.inner.{to_outcome, goes_on, own_of}
use Rattle.age_cli_commands.specs.inner.Engines.{missing_at, Engine, GoesOn, decrypt_engine, kept_for, EndsText}
use Rattle.age_cli_commands.specs.inner.Engines.{IsPlaced, StopsText, PortsOf}

-- ---- The position of a stop, by the marks of its run.

none_some : {A : Type 0} (x : A) {P : Type 0} → Some x ≡ None → P
none_some x is = absurd (true≢false (ap is_some is))

placed_so : (run : Option Run) (keep : PositionPolicy) (marks : Option MarksView) (start : Option Position) (settled : ℕ) (own position : Option Position)
    → FindsMarks run keep marks → IsPlacedBy marks start settled own position → IsPlaced run keep start settled own position
placed_so None keep None start settled own position found by = by
placed_so None keep (Some m) start settled own position found by = none_some m found
placed_so (Some r) Dropped None start settled own position found by = by
placed_so (Some r) Dropped (Some m) start settled own position found by = none_some m found
placed_so (Some r) Kept None start settled own position found by = absurd found
placed_so (Some r) Kept (Some m) start settled own None found by = absurd by
placed_so (Some r) Kept (Some m) start settled own (Some p) found (inl marked) = inl (found settled p marked.0, marked.1)
placed_so (Some r) Kept (Some m) start settled own (Some p) found (inr started) = inr (started.0, started.1, found settled started.1 started.2, started.3)

-- the later one of a marked position and of where its run started
pub placed_by : (m : MarksView) (start : Option Position) (settled : ℕ) (q p : Position) → IsMarked m settled q
    → ((p ≡ q × IfSome start (λ s. s.index ≤ p.index)) ⊎ ((start ≡ Some p) × (q.index < p.index))) → (own : Option Position) → IsPlacedBy (Some m) start settled own (Some p)
placed_by m start settled q p marked (inl (same, later)) own = inl (subst (IsMarked m settled) (sym same) marked, later)
placed_by m start settled q p marked (inr (is, less)) own = inr (is, q, marked, less)

-- ---- How the engine of a decryption ended, by how that ended.

module _ (keep : PositionPolicy) (start : Option Position) (settled : ℕ) (Ends : Done → Run → Type 0) (Stops : Option Run → Stopped → Type 0) (position : Option Position)
    (run : Option Run) where
  ends_so : (end : Result Done Stopped) → MatchResult end (λ done. IsSomeAnd run (Ends done)) (Stops run) → IsPlaced run keep start settled (own_of end) position
      → OnOk (to_outcome end) (EndsText keep start Ends settled position)
  ends_so (Ok done) ends placed = let of = the_some run ends in (done, of.0, of.2, subst (λ (r : Option Run). IsPlaced r keep start settled None position) of.1 placed)
  ends_so (Err s) stops placed = tt

  stops_so : (end : Result Done Stopped) → MatchResult end (λ done. IsSomeAnd run (Ends done)) (Stops run) → IsPlaced run keep start settled (own_of end) position
      → IfErr (to_outcome end) (λ fault. StopsText keep start Stops settled fault position)
  stops_so (Ok done) ends placed = tt
  stops_so (Err s) stops placed = (run, s, refl, stops, placed)

-- ---- It ran, and OUT was ended.

module _ (IsPorts : Ports → Type 0) (First Later : Outcome → Type 0) (w : WritePlan) (i : Identity) (earlier : Option (Position × Text)) (from : Option Resumption)
    (before after : Ports) (after_is : IsPorts after) (goes : (P : Option Resumption → Ports → Ports → Type 0) → P from before after
    → GoesOn IsPorts First earlier P before after) (old new : FilesView) (over : First (Gave (reading_of after.source))) (named : after.source.label ≡ w.paths.from.now) where
  abbrev keep : PositionPolicy
  keep = kept_for (option_text w.save)

  abbrev begun : Option Resumption → Beginning
  begun = from_either (allows_by i) (refuses_by i)

  abbrev Ends : Done → Run → Type 0
  Ends = DecryptEnds keep (allows_by i) (begun from) before after

  abbrev Stops : Option Run → Stopped → Type 0
  Stops = DecryptStops keep (allows_by i) (begun from) before after

  abbrev engine : Engine
  engine = decrypt_engine IsPorts First (option_text w.save) i earlier

  pub runs_opened : (end : Result Done Stopped) (marks : Option MarksView) (place : StopPoint) (r : Result (Unit {0}) CommandError)
      → DecryptsMarked keep (allows_by i) (begun from) before after end marks → IsPlacedBy marks (initial_position earlier) place.settled (own_of end) place.position
      → (is_some (option_text w.save) ≡ true → Later (Settled w.paths.durability after.sink.taken.bytes place.settled))
      → Concludes (option_text w.save) w.paths.durability after.sink (to_outcome end) place old new r → RunsEngine IsPorts First Later engine w.paths before old new r
  runs_opened end marks place r asked placed certain concludes =
      let run = asked.is.run in
      let start = initial_position earlier in
      let at = placed_so run keep marks start place.settled (own_of end) place.position asked.found placed in
      let ended = ends_so keep start place.settled Ends Stops place.position run end asked.is.answers at in
      record {
        after = after;
        after_is = after_is;
        over = over;
        from = named;
        end = to_outcome end;
        place = place;
        ends = on_ok_weaker (to_outcome end) (λ did. (
          goes (λ from before after. (done : Done) × (run : Run) × DecryptEnds keep (allows_by i) (begun from) before after done run) (did.0, did.1, did.2),
          did.2.2.1,
        )) ended;
        unended = on_ok_weaker (to_outcome end) (goes (λ from before after. EndsText keep start (DecryptEnds keep (allows_by i) (begun from) before after) place.settled place.position)) ended;
        stops = IfErr-weaker (to_outcome end) _ _ (λ fault. goes (λ from before after. StopsText keep start (DecryptStops keep (allows_by i) (begun from) before after) place.settled fault
            place.position)) (stops_so keep start place.settled Ends Stops place.position run end asked.is.answers at);
        named = asked.is.named;
        certain = certain;
        concludes = concludes;
      }

-- ---- Where it goes on.

pub if_some : {X : Type 0} {P Q : X → Type 0} (o : Option X) → ((x : X) → P x → Q x) → IfSome o P → IfSome o Q
if_some None so p = tt
if_some (Some x) so p = so x p

-- the earlier output was read, if there is one
pub went_on : {In Out : Type 0} (read : In → SourceView) (wrote : Out → SinkView) (size : In → Option ℕ) (First Later : Outcome → Type 0)
    → ((o : Outcome) → First o → Later o) → (old new : Option (EarlierOutput In)) → IsSameOld read old new → IfSome old (λ e. (read e.source).label ≡ e.name.now) → IfSome old (IsNewOld read size First)
    → IfSome new (λ e. Later (Gave (reading_of (read e.source)))) → (out : Out × Out) (first last : SourceView)
    → (P : Option Resumption → Ports → Ports → Type 0) → P (goes_on read old new) (ports first (wrote out.0)) (ports last (wrote out.1))
    → GoesOn (PortsOf read wrote) Later (option_map earlier_of old) P (ports first (wrote out.0)) (ports last (wrote out.1))
went_on read wrote size First Later so (Some o) (Some n) same named fresh over out first last P did = (
  read o.source,
  read n.source,
  record { source = o.source; sink = out.0; is = refl },
  record { source = n.source; sink = out.1; is = refl },
  record {
    unread = fresh.0;
    size = size o.source;
    found = so (Found (missing_at o.position) o.name.now (read o.source).supply.left (size o.source)) fresh.1;
    over = over;
    named = same.1 ∙ named;
  },
  did,
)
went_on read wrote size First Later so None None same named fresh over out first last P did = did
went_on read wrote size First Later so (Some o) None same named fresh over out first last P did = absurd same
went_on read wrote size First Later so None (Some n) same named fresh over out first last P did = absurd same
