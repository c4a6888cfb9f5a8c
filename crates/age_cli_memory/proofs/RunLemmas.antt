-- What a run leaves over files in memory, from its contract.
use Rattle.std.proofs.Common.{◌≡◌, ◌∙◌, ◌⊎◌, ◌++◌, ◌*◌, take, ℕ, inl, inr, ap, sym, subst, refl, true}
use Rattle.std.proofs.Common.{true≢false, List, [], ◌∷◌, Option, Some, None, ⊎_elim, Result, Ok, Err}
use Rattle.std.specs.Borrow.{Bor}
use Rattle.std.specs.Io.KnownBytes.{prepend_known}
use Rattle.std.specs.Prelude.{is_some, IfSome, IsSomeAnd, OnOk, option_map}
use Rattle.clap.specs.Words.{Row, Text}
use Rattle.age_chunk.specs.{chunk_length}
use Rattle.age_file_position.specs.{position_text}
use Rattle.age_file_position.specs.declared.position.Position.{Position}
use Rattle.age_file_encrypt.specs.{SecretView}
use Rattle.age_file_inspect.specs.{IsReport}
use Rattle.age_cli_memory.proofs.ShelfLemmas.{AreOthers, others_then, same_since, put_since, found_was, gave_all_was}
use Rattle.age_cli_files.proofs.{all_as, grows_by}
use Rattle.age_cli_memory.specs.{Files, entry_of}
use Rattle.age_cli_files.specs.{Entry, entry, Outcome, Found, PutsOnly, NotedSince, HasGiven}
use Rattle.age_cli_files.specs.{HasGivenAll, puts_in}
use Rattle.age_cli_memory.specs.{AreTrue, held_by}
use Rattle.age_cli_files.specs.declared.file_set.IfMissing.{IfMissing}
use Rattle.age_cli_files.specs.declared.file_set.IfMissing.TheVariants.{Fails}
use Rattle.age_cli_memory.specs.declared.entry.MemEntry.{MemEntry}
use Rattle.age_cli_args.proofs.{no_command, one_number}
use Rattle.age_cli_args.specs.{IsForHelp, IsRequest}
use Rattle.age_cli_args.specs.Requests.{Requests}
use Rattle.age_cli_args.specs.declared.request.Encrypting.{Encrypting}
use Rattle.age_cli_args.specs.declared.request.Paths.{Paths}
use Rattle.age_cli_args.specs.declared.request.Request.{Request}
use Rattle.age_cli_args.specs.declared.request.Request.TheVariants.{Inspect, Encrypt, Decrypt, Resume, Drill}
use Rattle.age_cli_common.specs.{IsPassphraseIn, random_name}
use Rattle.age_cli_common.specs.declared.command_error.CommandError.{CommandError}
use Rattle.age_cli_commands.proofs.ReadLemmas.{made_by}
use Rattle.age_cli_commands.specs.Commands.{MakesSecret}
use Rattle.age_cli_commands.specs.Done.{CameFirst, paths_of, OutHolds, LeavesFor}
use Rattle.age_cli_commands.specs.Left.{Left, SavesOf, save_of, Spares}
use Rattle.age_cli.proofs.RunLemmas.{failed_by}
use Rattle.age_cli.proofs.WordLemmas.{differs, not_help, rows_of, same_text}
use Rattle.age_cli_memory.specs.{FileBegins, FileHolds, ReportsEntry}
use Rattle.age_cli.specs.Printing.{PrintsReport}
use Rattle.age_cli_memory.specs.{out_of}
use Rattle.age_cli_args.specs.{IsIdentityOptions}
use Rattle.age_cli_args.specs.declared.request.IdentityOptions.{IdentityOptions}
use Rattle.age_cli_common.specs.{MakesBy}
use Rattle.age_cli_common.specs.declared.identity.Identity.{Identity}
use Rattle.age_cli.specs.Runs.{Prints, PutsFor, Reports, ReportsFor, Runs, World, WritesNone, status_by}
use Rattle.age_cli.specs.declared.error.RunError.{RunError}
use Rattle.age_cli.specs.declared.error.RunError.TheVariants as run

-- ---- What two requests of the same words have in common.

same_identity : (GaveAll : Text → List ℕ → Type 0) (rows : List Row) (u v : IdentityOptions) → IsIdentityOptions rows u → IsIdentityOptions rows v
    → (identity : Identity) → MakesBy GaveAll u identity → MakesBy GaveAll v identity
same_identity GaveAll rows u v a b identity makes =
    rw (b.pass ∙ sym a.pass, b.file_key ∙ sym a.file_key, b.shared ∙ sym a.shared, one_number 22 _ v.max_log u.max_log b.max_log a.max_log) makes

-- OUT and the file of `--save` are those of the rows
same_names : (name : Text) (rows : List Row) (a b : Request) → IsRequest name rows a → IsRequest name rows b
    → (out_of a ≡ out_of b) × (save_of a ≡ save_of b)
same_names name rows (Encrypt a) (Encrypt b) x y = (x.1.paths.to ∙ sym y.1.paths.to, refl)
same_names name rows (Decrypt a) (Decrypt b) x y = (x.1.paths.to ∙ sym y.1.paths.to, x.1.save ∙ sym y.1.save)
same_names name rows (Resume a) (Resume b) x y =
    (x.1.decrypting.paths.to ∙ sym y.1.decrypting.paths.to, x.1.decrypting.save ∙ sym y.1.decrypting.save)
same_names name rows (Inspect a) (Inspect b) x y = (refl, refl)
same_names name rows (Drill a) (Drill b) x y = (refl, refl)
same_names name rows a b x y = absurd (differs _ _ name x.0 y.0 refl refl)

-- ---- What a command leaves, said of other files or of another request of the same words.

secret_by : (A G B H : Text → List ℕ → Type 0) (e : Encrypting) (secret : SecretView) → ((name bytes : List ℕ) → A name bytes → B name bytes)
    → ((name bytes : List ℕ) → G name bytes → H name bytes) → MakesSecret A G e secret → MakesSecret B H e secret
secret_by A G B H e secret all some made = record {
  pass = (made.pass.0, all e.pass.now made.pass.0 made.pass.1, made.pass.2);
  log_is = made.log_is;
  within = made.within;
  rest = made.rest;
  random_given = some _ _ made.random_given;
  key_length = made.key_length;
  salt_length = made.salt_length;
  nonce_length = made.nonce_length;
}

module _ (A G B H : Text → List ℕ → Type 0) (I J : Paths → List ℕ → Type 0) (all : (name bytes : List ℕ) → A name bytes → B name bytes)
    (some : (name bytes : List ℕ) → G name bytes → H name bytes) (out : (p : Paths) (bytes : List ℕ) → I p bytes → J p bytes) where
  leaves_by : (asked : Request) → LeavesFor A G I asked → LeavesFor B H J asked
  leaves_by (Encrypt e) (secret, made, text, file, gave, is, wrote) =
      (secret, secret_by A G B H e secret all some made, text, file, all _ _ gave, is, out e.paths file wrote)
  leaves_by (Decrypt d) (identity, made, text, file, gave, is, wrote) =
      (identity, made_by A B d.identity identity (λ name bytes named given. all name bytes given) made, text, file, all _ _ gave, is, out d.paths text wrote)
  leaves_by (Resume r) (identity, made, p, at, text, rest, carries, old, gave, is, wrote) = (
    identity,
    made_by A B r.decrypting.identity identity (λ name bytes named given. all name bytes given) made,
    p,
    all _ _ at,
    text,
    rest,
    carries,
    λ above. let has = old above in (has.0, some _ _ has.1),
    all _ _ gave,
    is,
    out r.decrypting.paths text wrote,
  )
  leaves_by (Inspect file) left = tt
  leaves_by (Drill d) left = tt

module _ (A G I : Text → List ℕ → Type 0) (name : Text) (rows : List Row) where
  abbrev LeftBy : Request → Type 0
  LeftBy = LeavesFor A G (λ p bytes. I p.to.now bytes)

  leaves_as : (a b : Request) → IsRequest name rows a → IsRequest name rows b → LeftBy a → LeftBy b
  leaves_as (Encrypt f) (Encrypt e) (is_f, mine) (is_e, its) (secret, made, text, file, gave, is, wrote) = (
    secret,
    record {
      pass = subst (λ (t : Text). IsPassphraseIn (A t) secret.pass) (same_text f.pass.now e.pass.now _ mine.pass its.pass) made.pass;
      log_is = made.log_is ∙ one_number 18 _ f.log e.log mine.log its.log;
      within = made.within;
      rest = made.rest;
      random_given = subst (λ (t : Text). G t (secret.key ++ (secret.salt ++ (secret.nonce ++ made.rest)))) (ap random_name (mine.random ∙ sym its.random)) made.random_given;
      key_length = made.key_length;
      salt_length = made.salt_length;
      nonce_length = made.nonce_length;
    },
    text,
    file,
    subst (λ (t : Text). A t text) (same_text f.paths.from.now e.paths.from.now _ mine.paths.from its.paths.from) gave,
    is,
    subst (λ (t : Text). I t file) (same_text f.paths.to.now e.paths.to.now _ mine.paths.to its.paths.to) wrote,
  )
  leaves_as (Decrypt f) (Decrypt e) (is_f, mine) (is_e, its) (identity, made, text, file, gave, is, wrote) = (
    identity,
    same_identity A rows f.identity e.identity mine.identity its.identity identity made,
    text,
    file,
    subst (λ (t : Text). A t file) (same_text f.paths.from.now e.paths.from.now _ mine.paths.from its.paths.from) gave,
    is,
    subst (λ (t : Text). I t text) (same_text f.paths.to.now e.paths.to.now _ mine.paths.to its.paths.to) wrote,
  )
  leaves_as (Resume s) (Resume r) (is_s, mine) (is_r, its) (identity, made, p, at, text, rest, carries, old, gave, is, wrote) =
      let f = s.decrypting in
      let e = r.decrypting in (
        identity,
        same_identity A rows f.identity e.identity mine.decrypting.identity its.decrypting.identity identity made,
        p,
        subst (λ (t : Text). A t (position_text p)) (same_text s.position.now r.position.now _ mine.position its.position) at,
        text,
        rest,
        carries,
        λ above. let has = old above in (has.0, subst (λ (t : Text). G t (take (p.index * chunk_length) text ++ has.0)) (same_text s.old.now r.old.now _ mine.old its.old) has.1),
        subst (λ (t : Text). A t rest) (same_text f.paths.from.now e.paths.from.now _ mine.decrypting.paths.from its.decrypting.paths.from) gave,
        is,
        subst (λ (t : Text). I t text) (same_text f.paths.to.now e.paths.to.now _ mine.decrypting.paths.to its.decrypting.paths.to) wrote,
      )
  leaves_as a (Inspect file) x y left = tt
  leaves_as a (Drill d) x y left = tt
  leaves_as a b x y left = absurd (differs _ _ name x.0 y.0 refl refl)

-- ---- What was put.

-- nothing of its position was put, or this
saved_others : (q : Text) (save : Option Text) (saved : Option Position) (puts : List Entry) → SavesOf save saved puts → (save ≡ Some q → ⊥) → AreOthers q puts
saved_others q (Some name) (Some p) puts is other = subst (λ (l : List Entry). AreOthers q l) (sym is) ((λ same. other (ap Some same)), tt)
saved_others q (Some name) None puts none other = subst (λ (l : List Entry). AreOthers q l) (sym none) tt
saved_others q None saved puts none other = subst (λ (l : List Entry). AreOthers q l) (sym none) tt

-- ---- What a run leaves.

module _ (words : List Text) (before after : World) (was is : List MemEntry) (kept_was : AreTrue was before.files.outcomes)
    (kept_is : AreTrue is after.files.outcomes) where
  abbrev olds : Files
  olds = entry_of was

  abbrev news : Files
  news = entry_of is

  abbrev early : Outcome → Type 0
  early = CameFirst before.files after.files

  none_before : (name : Text) (o : Outcome) (c : early o) → AreOthers name (puts_in c.came.before)
  none_before name o c = subst (λ (l : List Entry). AreOthers name l) (sym c.first) tt

  -- a file that was found before anything was put stood there
  stood : (missing : IfMissing) (name : Text) (left : Option (List ℕ)) (size : Option ℕ) → early (Found missing name left size)
      → (is_some left ≡ true) × (left ≡ held_by missing (olds name))
  stood missing name left size c = found_was before.files after.files was is kept_was kept_is missing name left size c.came (none_before name _ c)

  -- what it gave before anything was put stood there
  first_was : (name bytes : List ℕ) → HasGivenAll early name bytes → FileHolds olds name bytes
  first_was name bytes g =
      gave_all_was before.files after.files was is kept_was kept_is name bytes (all_as early (NotedSince before.files after.files) (λ o c. c.came) name bytes g)
      (none_before name _ g.gave.found)

  -- perhaps not all of it
  given_was : (name bytes : List ℕ) → HasGiven early name bytes → FileBegins olds name bytes
  given_was name bytes g = let found = stood Fails name (prepend_known bytes g.left) g.size g.found in front_of g.left found.0 found.1 where
    front_of : (left : Option (List ℕ)) → is_some (prepend_known bytes left) ≡ true → prepend_known bytes left ≡ olds name → FileBegins olds name bytes
    front_of None there is = absurd (true≢false (sym there))
    front_of (Some rest) there is = (rest, sym is)

  -- what stands under other names than those of what was put
  same : (puts : List Entry) → PutsOnly puts before.files after.files → (q : Text) → AreOthers q puts → news q ≡ olds q
  same puts grows q other = same_since before.files after.files was is kept_was kept_is puts grows q other

  -- OUT holds what was put
  out_is : (p : Paths) (bytes : List ℕ) → OutHolds before.files after.files p bytes → news p.to.now ≡ Some bytes
  out_is p bytes o = put_since before.files after.files was is kept_was kept_is (entry p.to.now bytes ∷ []) o.put p.to.now bytes [] refl tt

  wrote_none : WritesNone words before.files after.files → PutsOnly [] before.files after.files
  wrote_none (inl did) = grows_by before.files after.files did
  wrote_none (inr (asked, made, spares)) = go (paths_of asked) spares where
    go : (paths : Option Paths) → IsSomeAnd paths (λ p. Spares p.to.now before.files after.files) → PutsOnly [] before.files after.files
    go None none = absurd none
    go (Some p) spares = spares.none

  left_others : (asked : Request) (p : Paths) (ending : CommandError) (l : Left asked p before.files after.files ending) (q : Text) → (Some p.to.now ≡ Some q → ⊥)
      → (save_of asked ≡ Some q → ⊥) → AreOthers q (l.outs ++ l.saves)
  left_others asked p ending l q out save =
      others_then q l.outs l.saves (⊎_elim (λ none. subst (λ (x : List Entry). AreOthers q x) (sym none) tt)
      (λ took. subst (λ (x : List Entry). AreOthers q x) (sym took.0) ((λ here. out (ap Some here)), tt)) l.out_is)
      (saved_others q (save_of asked) l.saved l.saves l.saved_is save)

  -- by the paths of what was asked
  wrote_others : (asked : Request) (r : Result (Unit {0}) RunError) → IsSomeAnd (paths_of asked) (λ p. PutsFor asked p before.files after.files r) → (q : Text)
      → (out_of asked ≡ Some q → ⊥) → (status_by r ≡ 0 ⊎ (save_of asked ≡ Some q → ⊥)) → news q ≡ olds q
  wrote_others asked r wrote q out save = go (paths_of asked) refl wrote where
    go : (paths : Option Paths) → paths ≡ paths_of asked → IsSomeAnd paths (λ p. PutsFor asked p before.files after.files r) → news q ≡ olds q
    go None its wrote = absurd wrote
    go (Some p) its wrote = by r wrote save where
      other : Some p.to.now ≡ Some q → ⊥
      other here = out (sym (ap (λ (o : Option Paths). option_map (λ x. x.to.now) o) its) ∙ here)

      by : (r : Result (Unit {0}) RunError) → PutsFor asked p before.files after.files r → (status_by r ≡ 0 ⊎ (save_of asked ≡ Some q → ⊥)) → news q ≡ olds q
      by (Ok done) (took, puts) save = same (entry p.to.now took ∷ []) puts q ((λ here. other (ap Some here)), tt)
      by (Err e) l (inl zero) = absurd (failed_by (Err e) zero)
      by (Err (run.Ended e)) l (inr save) = same (l.outs ++ l.saves) l.puts q (left_others asked p e l q other save)
      by (Err (run.Words e)) l (inr save) = absurd l
      by (Err run.Unread) l (inr save) = absurd l

  module _ (r : Result (Unit {0}) RunError) (runs : Runs words before after r) where
    spares : (asked : Request) → Requests words asked → (q : Text) → (out_of asked ≡ Some q → ⊥) → (status_by r ≡ 0 ⊎ (save_of asked ≡ Some q → ⊥)) → news q ≡ olds q
    spares asked (name, rows, asks, is_asked) q out save = ⊎_elim (λ none. same [] (wrote_none none) q tt) (λ wrote.
        let names = same_names name rows asked wrote.0 is_asked (rows_of words wrote.0 name rows asks (inl wrote.1)) in
        wrote_others wrote.0 r wrote.2 q (λ here. out (names.0 ∙ here)) (⊎_elim (λ zero. inl zero) (λ other. inr (λ here. other (names.1 ∙ here))) save)) runs.wrote

    pub spares_asked : (asked : Request) → Requests words asked → (q : Text) → (out_of asked ≡ Some q → ⊥) → (save_of asked ≡ Some q → ⊥) → news q ≡ olds q
    spares_asked asked made q out save = spares asked made q out (inr save)

    pub spares_refused : status_by r ≡ 2 → (q : Text) → news q ≡ olds q
    spares_refused two q = same [] (wrote_none (runs.refused two)) q tt

    pub spares_done : (asked : Request) → Requests words asked → status_by r ≡ 0 → (q : Text) → (out_of asked ≡ Some q → ⊥) → news q ≡ olds q
    spares_done asked made zero q out = spares asked made q out (inl zero)

    pub leaves : (asked : Request) → Requests words asked → status_by r ≡ 0 → LeavesFor (FileHolds olds) (FileBegins olds) (λ p bytes. news p.to.now ≡ Some bytes) asked
    leaves asked (name, rows, asks, is_asked) zero = go (runs.zero zero) where
      go : (words ≡ []) ⊎ (IsForHelp words ⊎ ((mine : Request) × Requests words mine × LeavesFor (HasGivenAll early) (HasGiven early) (OutHolds before.files after.files) mine))
          → LeavesFor (FileHolds olds) (FileBegins olds) (λ p bytes. news p.to.now ≡ Some bytes) asked
      go (inl none) = absurd (no_command words name rows none asks)
      go (inr (inl help)) = absurd (not_help words asks.taken help)
      go (inr (inr (mine, made, left))) = leaves_as (FileHolds olds) (FileBegins olds) (λ name bytes. news name ≡ Some bytes) name rows mine asked
          (rows_of words mine name rows asks (inl made)) is_asked
          (leaves_by (HasGivenAll early) (HasGiven early) (FileHolds olds) (FileBegins olds) (OutHolds before.files after.files) (λ p bytes. news p.to.now ≡ Some bytes)
          first_was given_was out_is mine left)

    -- ---- What was reported of a file.

    held_report : (name : Text) → Reports before after (Some name) → (bytes : List ℕ) × FileHolds olds name bytes
        × PrintsReport (IsReport bytes) before.output after.output
    held_report name (report, of, wrote, sent) =
        let found = stood Fails name of.first.supply.left of.reading.size of.reading.found in
        go of.first.supply.left found.0 found.1 of.whole where
          go : (left : Option (List ℕ)) → is_some left ≡ true → left ≡ olds name → IfSome left (λ bytes. IsReport bytes report)
              → (bytes : List ℕ) × FileHolds olds name bytes × PrintsReport (IsReport bytes) before.output after.output
          go None there is whole = absurd (true≢false (sym there))
          go (Some bytes) there is whole = (bytes, sym is, (report, whole, wrote, sent))

    reports_entry : (file : Bor Text) (name : Text) (rows : List Row) (mine : Request) → IsRequest name rows (Inspect (Some file)) → IsRequest name rows mine
        → ReportsFor before after mine → (bytes : List ℕ) × FileHolds olds file.now bytes × PrintsReport (IsReport bytes) before.output after.output
    reports_entry file name rows (Inspect other) (is_its, its) (is_mine, mine) did =
        held_report file.now (subst (λ (o : Option Text). Reports before after o) (mine ∙ sym its) did)
    reports_entry file name rows mine x y did = absurd (differs _ _ name x.0 y.0 refl refl)

    pub reports : ReportsEntry words olds before after (status_by r)
    reports file (name, rows, asks, is_asked) zero = by r zero runs.reports where
      by : (r : Result (Unit {0}) RunError) → status_by r ≡ 0 → OnOk r ((words ≡ []) ⊎ ((IsForHelp words × Prints before.output after.output)
          ⊎ ((mine : Request) × Requests words mine × ReportsFor before after mine)))
          → (bytes : List ℕ) × FileHolds olds file.now bytes × PrintsReport (IsReport bytes) before.output after.output
      by (Ok done) zero (inl none) = absurd (no_command words name rows none asks)
      by (Ok done) zero (inr (inl help)) = absurd (not_help words asks.taken help.0)
      by (Ok done) zero (inr (inr (mine, made, did))) = reports_entry file name rows mine is_asked (rows_of words mine name rows asks (inl made)) did
      by (Err e) zero none = absurd (failed_by (Err e) zero)
