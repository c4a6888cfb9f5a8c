-- What a run does, from what its parts promise.
use Rattle.std.proofs.Common.{◌≡◌, ◌∙◌, [], List, ap, sym, subst, inl, inr, ⊎_elim, ◌⊎◌, Option, Some, None}
use Rattle.std.proofs.Common.{Result, Ok, Err, refl, true, false, true≢false}
use Rattle.std.specs.Prelude.{IsSomeAnd, IfSome, OnOk, OnErr, IfErr}
use Rattle.clap.specs.Words.{Row, Text}
use Rattle.age_fault.specs.declared.fault.FileFault.{FileFault}
use Rattle.age_cli_files.proofs.{grows_by, grows_none, does_same}
use Rattle.age_cli_files.specs.{Outcome, NotedSince, HasGiven, HasGivenAll, Does}
use Rattle.age_cli_args.proofs.{no_command}
use Rattle.age_cli_args.specs.{IsForHelp, IsRequest}
use Rattle.age_cli_args.specs.Requests.{IsDecrypting, Requests}
use Rattle.age_cli_args.specs.declared.request.Decrypting.{Decrypting}
use Rattle.age_cli_args.specs.declared.request.Paths.{Paths}
use Rattle.age_cli_args.specs.declared.request.Request.{Request}
use Rattle.age_cli_args.specs.declared.request.Request.TheVariants.{Encrypt, Decrypt, Resume, Inspect, Drill}
use Rattle.age_cli_common.specs.{is_usage}
use Rattle.age_cli_common.specs.declared.command_error.CommandError.{CommandError}
use Rattle.age_cli_common.specs.declared.command_error.CommandError.TheVariants as end
use Rattle.age_cli_commands.proofs.OpeningLemmas.{first_came}
use Rattle.age_cli_commands.specs.Done.{CameFirst, paths_of, OutHolds, LeavesFor}
use Rattle.age_cli_commands.specs.Left.{stop_ending, Left, Spares}
use Rattle.age_cli.proofs.WordLemmas.{differs, not_help, rows_of, same_text}
use Rattle.age_cli.specs.{World, IsMadeBy, PrintsReport, ReportsFile, status_by}
use Rattle.age_cli.specs.Runs.{AreApart, IsApart, IsOutputApart, IsSaveApart, Reports, ReportsFor, Runs}
use Rattle.age_cli.specs.Runs.{PutsFor, IsCausedBy, Prints, WritesNone, ZeroLeaves}
use Rattle.age_cli.specs.declared.error.RunError.{RunError}
use Rattle.age_cli.specs.declared.error.RunError.TheVariants as run
use Rattle.age_cli.specs.inner.{DoesOther, IsQuiet, Obeys}

-- ---- A run.

no_usage : (f : FileFault) (how : Result (Unit {0}) FileFault) → is_usage (stop_ending f how) ≡ false
no_usage f (Ok done) = refl
no_usage f (Err second) = refl

-- the command line is refused
abbrev IsUsage : CommandError → Type 0
IsUsage ending = is_usage ending ≡ true

usage_no_fault : (f : FileFault) (save : Result (Unit {0}) FileFault) (e : CommandError) → e ≡ stop_ending f save → IsUsage e → ⊥
usage_no_fault f save e is usage = true≢false (sym usage ∙ (ap is_usage is ∙ no_usage f save))

-- status 2 says that the command line is refused
usage_of : (e : CommandError) → status_by {A = Unit {0}} (Err (run.Ended e)) ≡ 2 → IsUsage e
usage_of (end.Usage usage) two = refl
usage_of (end.Fault fault) two = cc
usage_of (end.Unsaved fault second) two = cc

-- a status that isn't 0
pub failed_by : (r : Result (Unit {0}) RunError) → OnErr r (status_by r ≡ 0 → ⊥)
failed_by (Ok x) = tt
failed_by (Err (run.Words error)) = λ no. cc
failed_by (Err run.Unread) = λ no. cc
failed_by (Err (run.Ended (end.Usage usage))) = λ no. cc
failed_by (Err (run.Ended (end.Fault fault))) = λ no. cc
failed_by (Err (run.Ended (end.Unsaved fault second))) = λ no. cc

-- the same names are apart
output_as : {from to a b : Text} {first second position old f s p o : Option Text} → from ≡ a → to ≡ b → first ≡ f → second ≡ s → position ≡ p → old ≡ o
    → IsOutputApart from to first second position old → IsOutputApart a b f s p o
output_as {to = to} {a = a} {b = b} {first = first} {second = second} {position = position} {old = old} {f = f} {s = s} {p = p} from_is to_is first_is second_is position_is old_is apart =
    subst (IsOutputApart a b f s p) old_is (subst (λ (p : Option Text). IsOutputApart a b f s p old) position_is
    (subst (λ (s : Option Text). IsOutputApart a b f s position old) second_is (subst (λ (f : Option Text). IsOutputApart a b f second position old) first_is
    (subst (λ (b : Text). IsOutputApart a b first second position old) to_is (subst (λ (a : Text). IsOutputApart a to first second position old) from_is apart)))))

save_as : {from to a b : Text} {first second old save f s o n : Option Text} → from ≡ a → to ≡ b → first ≡ f → second ≡ s → old ≡ o → save ≡ n
    → IfSome save (IsSaveApart from to first second old) → IfSome n (IsSaveApart a b f s o)
save_as {to = to} {a = a} {b = b} {first = first} {second = second} {old = old} {save = save} {f = f} {s = s} {o = o} from_is to_is first_is second_is old_is save_is apart =
    subst (λ (n : Option Text). IfSome n (IsSaveApart a b f s o)) save_is (subst (λ (o : Option Text). IfSome save (IsSaveApart a b f s o)) old_is
    (subst (λ (s : Option Text). IfSome save (IsSaveApart a b f s old)) second_is (subst (λ (f : Option Text). IfSome save (IsSaveApart a b f second old)) first_is
    (subst (λ (b : Text). IfSome save (IsSaveApart a b first second old)) to_is (subst (λ (a : Text). IfSome save (IsSaveApart a to first second old)) from_is apart)))))

both_as : (rows : List Row) (d e : Decrypting) {position old p o : Option Text} → IsDecrypting rows d → IsDecrypting rows e → position ≡ p → old ≡ o
    → AreApart d position old → AreApart e p o
both_as rows d e x y place earlier apart =
    let from = same_text _ _ _ x.paths.from y.paths.from in
    let to = same_text _ _ _ x.paths.to y.paths.to in
    let pass = x.identity.pass ∙ sym y.identity.pass in
    let shared = x.identity.shared ∙ sym y.identity.shared in
    (output_as from to pass shared place earlier apart.0, save_as from to pass shared earlier (x.save ∙ sym y.save) apart.1)

module _ (words : List Text) (before after : World) where
  abbrev Obeyed : Result (Unit {0}) RunError → Type 0
  Obeyed r = Obeys words before after r

  abbrev Wrote : Result (Unit {0}) RunError → Type 0
  Wrote r = WritesNone words before.files after.files ⊎ ((asked : Request) × Requests words asked
      × IsSomeAnd (paths_of asked) (λ p. PutsFor asked p before.files after.files r))

  abbrev Stopped : Request → CommandError → Type 0
  Stopped asked ending = IfSome (paths_of asked) (λ p. Spares p.to.now before.files after.files ⊎ Left asked p before.files after.files ending)

  spares_same : after.files ≡ before.files → WritesNone words before.files after.files
  spares_same same = inl (does_same before.files after.files same)

  made_of : (asked : Request) → (asked ≡ Inspect None → ⊥) → IsMadeBy words asked → Requests words asked
  made_of asked other (inl made) = made
  made_of asked other (inr none) = absurd (other none.1)

  -- if it wasn't done
  wrote_some : (asked : Request) (ending : CommandError) → IsMadeBy words asked → Stopped asked ending → DoesOther words before after asked (Err ending)
      → Wrote (Err (run.Ended ending))
  wrote_some (Encrypt e) ending made (inl spares) other = inl (inr (Encrypt e, made_of (Encrypt e) (λ no. let is = no in cc) made, spares))
  wrote_some (Encrypt e) ending made (inr left) other = inr (Encrypt e, made_of (Encrypt e) (λ no. let is = no in cc) made, left)
  wrote_some (Decrypt d) ending made (inl spares) other = inl (inr (Decrypt d, made_of (Decrypt d) (λ no. let is = no in cc) made, spares))
  wrote_some (Decrypt d) ending made (inr left) other = inr (Decrypt d, made_of (Decrypt d) (λ no. let is = no in cc) made, left)
  wrote_some (Resume r) ending made (inl spares) other = inl (inr (Resume r, made_of (Resume r) (λ no. let is = no in cc) made, spares))
  wrote_some (Resume r) ending made (inr left) other = inr (Resume r, made_of (Resume r) (λ no. let is = no in cc) made, left)
  wrote_some (Inspect None) ending made stopped other = inl (spares_same other.0)
  wrote_some (Inspect (Some name)) ending made stopped other = inl (inl other.0)
  wrote_some (Drill d) ending made stopped other = inl (inl other)

  abbrev Leaves : Request → Type 0
  Leaves = LeavesFor (HasGivenAll (CameFirst before.files after.files)) (HasGiven (CameFirst before.files after.files)) (OutHolds before.files after.files)

  -- if it was
  wrote_all : (asked : Request) → IsMadeBy words asked → Leaves asked → DoesOther words before after asked (Ok tt) → Wrote (Ok tt)
  wrote_all (Encrypt e) made (secret, makes, text, file, gave, is, holds) other =
      inr (Encrypt e, made_of (Encrypt e) (λ no. let is = no in cc) made, (file, holds.put))
  wrote_all (Decrypt d) made (identity, makes, text, file, gave, is, holds) other =
      inr (Decrypt d, made_of (Decrypt d) (λ no. let is = no in cc) made, (text, holds.put))
  wrote_all (Resume r) made (identity, makes, p, at, text, rest, carries, old, gave, is, holds) other =
      inr (Resume r, made_of (Resume r) (λ no. let is = no in cc) made, (text, holds.put))
  wrote_all (Inspect None) made left other = inl (spares_same other.0)
  wrote_all (Inspect (Some name)) made left other = inl (inl other.0)
  wrote_all (Drill d) made left other = inl (inl other)

  wrote : (r : Result (Unit {0}) RunError) → Obeyed r → Wrote r
  wrote (Ok tt) (inl o) = wrote_all o.asked o.made o.acts.done o.answers
  wrote (Ok tt) (inr o) = inl (spares_same o.untouched)
  wrote (Err (run.Ended ending)) (inl o) = wrote_some o.asked ending o.made o.acts.stopped o.answers
  wrote (Err (run.Ended ending)) (inr o) = inl (spares_same o.untouched)
  wrote (Err (run.Words e)) o = inl (spares_same o.untouched)
  wrote (Err run.Unread) o = inl (spares_same o.untouched)

  -- a command that stopped at a fault isn't refused
  refused_some : (asked : Request) (ending : CommandError) → IsMadeBy words asked → Stopped asked ending → DoesOther words before after asked (Err ending)
      → IsUsage ending → WritesNone words before.files after.files
  refused_some asked ending made stopped other usage = ⊎_elim (λ none. none) (λ left. none_left left.0 left.2) (wrote_some asked ending made stopped other) where
    none_left : (mine : Request) → IsSomeAnd (paths_of mine) (λ p. Left mine p before.files after.files ending) → WritesNone words before.files after.files
    none_left mine left = go (paths_of mine) left where
      go : (paths : Option Paths) → IsSomeAnd paths (λ p. Left mine p before.files after.files ending) → WritesNone words before.files after.files
      go None none = absurd none
      go (Some p) left = absurd (usage_no_fault left.fault left.how ending left.reported usage)

  refused : (r : Result (Unit {0}) RunError) → Obeyed r → status_by r ≡ 2 → WritesNone words before.files after.files
  refused (Ok x) o two = cc
  refused (Err (run.Ended ending)) (inl o) two = refused_some o.asked ending o.made o.acts.stopped o.answers (usage_of ending two)
  refused (Err (run.Ended ending)) (inr o) two = spares_same o.untouched
  refused (Err (run.Words e)) o two = spares_same o.untouched
  refused (Err run.Unread) o two = spares_same o.untouched

  -- what came of a run that put nothing came before anything was put
  read_first : Does before.files after.files → (o : Outcome) → NotedSince before.files after.files o → CameFirst before.files after.files o
  read_first did = first_came [] before.files after.files after.files (grows_by before.files after.files did) (grows_none after.files)

  file_first : Does before.files after.files → (name : Text) → PrintsReport (ReportsFile (NotedSince before.files after.files) name) before.output after.output
      → PrintsReport (ReportsFile (CameFirst before.files after.files) name) before.output after.output
  file_first did name (r, of, wrote, sent) = (
    r,
    record {
      first = of.first;
      last = of.last;
      reading = record { unread = of.reading.unread; size = of.reading.size; found = read_first did _ of.reading.found; over = read_first did _ of.reading.over; named = of.reading.named };
      whole = of.whole;
      reports = of.reports;
    },
    wrote,
    sent,
  )

  reports_for : (asked : Request) → DoesOther words before after asked (Ok tt) → ReportsFor before after asked
  reports_for (Inspect None) other = other.1
  reports_for (Inspect (Some name)) other = file_first other.0 name.now other.1
  reports_for asked other = tt

  reports : (r : Result (Unit {0}) RunError) → Obeyed r → OnOk r ((words ≡ []) ⊎ ((IsForHelp words × Prints before.output after.output)
      ⊎ ((asked : Request) × Requests words asked × ReportsFor before after asked)))
  reports (Ok tt) (inl o) = ⊎_elim (λ made. inr (inr (o.asked, made, reports_for o.asked o.answers))) (λ none. inl none.0) o.made
  reports (Ok tt) (inr o) = inr (inl (o.done.1, o.done.2))
  reports (Err e) obeys = tt

  report : (r : Result (Unit {0}) RunError) → Obeyed r → words ≡ [] → OnOk r (Reports before after None)
  report (Ok tt) (inl o) none = ⊎_elim (λ made. absurd (no_command words made.0 made.1 none made.2))
      (λ its. let did : DoesOther words before after (Inspect None) (Ok tt) =
      subst (λ (asked : Request). DoesOther words before after asked (Ok tt)) its.1 o.answers in did.1) o.made
  report (Ok tt) (inr o) none = absurd (o.done.0 none)
  report (Err e) obeys none = tt

  -- the request that is obeyed is of the same command
  quiet_of : (r : Result (Unit {0}) CommandError) (name : Text) (rows : List Row) (mine asked : Request) → IsRequest name rows mine → IsRequest name rows asked
      → DoesOther words before after mine r → IfSome (paths_of asked) (λ p. IsQuiet before after)
  quiet_of r name rows (Encrypt e) (Encrypt a) x y quiet = quiet
  quiet_of r name rows (Decrypt e) (Decrypt a) x y quiet = quiet
  quiet_of r name rows (Resume e) (Resume a) x y quiet = quiet
  quiet_of r name rows mine (Inspect file) x y quiet = tt
  quiet_of r name rows mine (Drill d) x y quiet = tt
  quiet_of r name rows mine asked x y quiet = absurd (differs _ _ name x.0 y.0 refl refl)

  unused : (asked : Request) → IsQuiet before after → IfSome (paths_of asked) (λ p. IsQuiet before after)
  unused asked quiet = all (paths_of asked) where
    all : (paths : Option Paths) → IfSome paths (λ p. IsQuiet before after)
    all None = tt
    all (Some p) = quiet

  quiet : (r : Result (Unit {0}) RunError) → Obeyed r → (asked : Request) → Requests words asked → IfSome (paths_of asked) (λ p. IsQuiet before after)
  quiet (Ok tt) (inl o) asked (name, rows, asks, is) = quiet_of (Ok tt) name rows o.asked asked (rows_of words o.asked name rows asks o.made) is o.answers
  quiet (Ok tt) (inr o) asked (name, rows, asks, is) = unused asked (o.quiet (not_help words asks.taken))
  quiet (Err (run.Ended e)) (inl o) asked (name, rows, asks, is) = quiet_of (Err e) name rows o.asked asked (rows_of words o.asked name rows asks o.made) is o.answers
  quiet (Err (run.Ended e)) (inr o) asked (name, rows, asks, is) = unused asked (o.quiet (not_help words asks.taken))
  quiet (Err (run.Words e)) o asked (name, rows, asks, is) = unused asked (o.quiet (not_help words asks.taken))
  quiet (Err run.Unread) o asked (name, rows, asks, is) = unused asked (o.quiet (not_help words asks.taken))

  -- the request that is obeyed has the same names
  apart_of : (name : Text) (rows : List Row) (mine asked : Request) → IsRequest name rows mine → IsRequest name rows asked → IsApart mine → IsApart asked
  apart_of name rows (Encrypt e) (Encrypt a) x y apart = output_as (same_text _ _ _ x.1.paths.from y.1.paths.from)
      (same_text _ _ _ x.1.paths.to y.1.paths.to) (x.1.pass ∙ sym y.1.pass) (x.1.random ∙ sym y.1.random) refl refl apart
  apart_of name rows (Decrypt d) (Decrypt a) x y apart = both_as rows d a x.1 y.1 refl refl apart
  apart_of name rows (Resume r) (Resume a) x y apart =
      both_as rows r.decrypting a.decrypting x.1.decrypting y.1.decrypting (x.1.position ∙ sym y.1.position) (x.1.old ∙ sym y.1.old) apart
  apart_of name rows mine (Inspect file) x y apart = tt
  apart_of name rows mine (Drill d) x y apart = tt
  apart_of name rows mine asked x y apart = absurd (differs _ _ name x.0 y.0 refl refl)

  apart_so : (mine asked : Request) → IsMadeBy words mine → IsApart mine → Requests words asked → IsApart asked
  apart_so mine asked made apart (name, rows, asks, is) = apart_of name rows mine asked (rows_of words mine name rows asks made) is apart

  apart : (r : Result (Unit {0}) RunError) → Obeyed r → (asked : Request) → Requests words asked → IsApart asked ⊎ (OnOk r ⊥ × (after.files ≡ before.files))
  apart (Ok tt) (inl o) asked made = inl (apart_so o.asked asked o.made o.apart made)
  apart (Ok tt) (inr o) asked (name, rows, asks, is) = absurd (not_help words asks.taken o.done.1)
  apart (Err (run.Ended e)) (inl o) asked made = inl (apart_so o.asked asked o.made o.apart made)
  apart (Err (run.Ended e)) (inr o) asked made = inr (tt, o.untouched)
  apart (Err (run.Words e)) o asked made = inr (tt, o.untouched)
  apart (Err run.Unread) o asked made = inr (tt, o.untouched)

  cause : (r : Result (Unit {0}) RunError) → Obeyed r → IfErr r (IsCausedBy words)
  cause (Ok tt) o = tt
  cause (Err (run.Ended e)) o = tt
  cause (Err (run.Words e)) o = o.cause
  cause (Err run.Unread) o = o.cause

  zero_leaves : (r : Result (Unit {0}) RunError) → Obeyed r → ZeroLeaves words before.files after.files (status_by r)
  zero_leaves (Ok tt) (inl o) zero = ⊎_elim (λ made. inr (inr (o.asked, made, o.acts.done))) (λ none. inl none.0) o.made
  zero_leaves (Ok tt) (inr o) zero = inr (inl o.done.1)
  zero_leaves (Err e) obeys zero = absurd (failed_by (Err e) zero)

  pub runs : (r : Result (Unit {0}) RunError) → Obeyed r → Runs words before after r
  runs r obeys = record {
    zero = zero_leaves r obeys;
    report = report r obeys;
    reports = reports r obeys;
    cause = cause r obeys;
    refused = refused r obeys;
    apart = apart r obeys;
    wrote = wrote r obeys;
    quiet = quiet r obeys;
  }
