-- What a command leaves that is done, from what its engine did.
use Rattle.std.proofs.Common.{◌≡◌, ◌∙◌, ◌++◌, ◌∷◌, ◌*◌, [], List, ℕ, ap, subst, refl, Option, Some, None}
use Rattle.std.proofs.Common.{take, arith, rules, Bool, true, false}
use Rattle.std.specs.Prelude.{◌<◌, ◌==◌, if◌then◌else◌}
use Rattle.clap.specs.Words.{Text}
use Rattle.age_io.specs.{SourceView, Consumes, IsAtEnd}
use Rattle.age_io.specs.Taken.{Appends}
use Rattle.age_chunk.specs.{chunk_length}
use Rattle.age_file_position.specs.declared.position.Position.{Position}
use Rattle.age_file_input.specs.{Ports}
use Rattle.age_file_encrypt.specs.{SecretView, AgeFile}
use Rattle.age_file_decrypt.proofs.GivenLemmas.{gave_text}
use Rattle.age_file_decrypt.specs.{CarriesText, resumption}
use Rattle.age_cli_files.proofs.{all_by, gave_by}
use Rattle.age_cli_files.specs.{FilesView, Outcome, Found, NotedSince, HasGiven, HasGivenAll, PutsOnly, entry}
use Rattle.age_cli_files.specs.declared.file_set.IfMissing.{IfMissing}
use Rattle.age_cli_files.specs.declared.file_set.IfMissing.TheVariants as when
use Rattle.age_cli_args.specs.{option_text}
use Rattle.age_cli_args.specs.declared.request.Paths.{Paths}
use Rattle.age_cli_args.specs.declared.request.Request.{Request}
use Rattle.age_cli_args.specs.declared.request.Request.TheVariants.{Encrypt, Decrypt, Resume}
use Rattle.age_cli_common.specs.{allows_by, refuses_by}
use Rattle.age_cli_common.specs.declared.identity.Identity.{Identity}
use Rattle.age_cli_commands.specs.Commands.{WasRead}
use Rattle.age_cli_commands.specs.Done.{CameFirst, IsFileBy, IsRestBy, OutHolds, LeavesFor}
use Rattle.age_cli_commands.specs.inner.Engines.{missing_at, EngineCompleted, LeavesText, Returned, decrypt_engine}
use Rattle.age_cli_commands.specs.inner.Engines.{encrypt_engine, kept_for, OfEngine}

-- ---- What a file gave, by what came.

-- past chunk 0 a missing earlier output isn't taken for an empty one
fails_then : (p : Position) → 0 < p.index → missing_at p ≡ when.Fails
fails_then p some = go (p.index == 0) refl where
  go : (b : Bool) → b ≡ (p.index == 0) → (if b then when.Empty else when.Fails) ≡ when.Fails
  go false test = refl
  go true test =
      let zero : p.index ≡ 0 = search rules in
      absurd (omega (arith, some, zero))

-- the earlier output gave what is needed of it
pub old_gave : (Came : Outcome → Type 0) (p : Position) (name : Text) (first last : SourceView) (bytes : List ℕ) → WasRead Came (missing_at p) name first last
    → Consumes first.supply last.supply bytes → 0 < p.index → HasGiven Came name bytes
old_gave Came p name first last bytes was read some =
    gave_by Came name bytes first last was.size was.unread
    (subst (λ (m : IfMissing). Came (Found m name first.supply.left was.size)) (fails_then p some) was.found) read was.over was.named

-- ---- An encryption, or a decryption, that is done.

module _ (IsPorts : Ports → Type 0) (old new : FilesView) (p : Paths) where
  abbrev First : Outcome → Type 0
  First = CameFirst old new

  abbrev Came : Outcome → Type 0
  Came = NotedSince old new

  -- OUT is what its sink took
  is_out : {Promise : Ports → Ports → List ℕ → Type 0} (l : LeavesText IsPorts First Came Promise p new.ended) (text : List ℕ)
      → PutsOnly (entry p.to.now l.run.out.took ∷ []) old new → Appends l.run.before.sink.taken l.run.after.sink.taken text → OutHolds old new p text
  is_out l text puts wrote =
      let took : l.run.out.took ≡ text = l.run.took ∙ (wrote.bytes ∙ ap (λ (b : List ℕ). b ++ text) l.run.taken) in
      record {
        fresh = l.run.fresh;
        put = subst (λ (b : List ℕ). PutsOnly (entry p.to.now b ∷ []) old new) took puts;
        out = l.run.out;
        is = l.run.is;
        took = took;
        closed = l.closed;
        at = l.run.at;
        there = l.there;
        safe = l.safe;
        answered = l.answered;
      }

  -- and IN gave what its source did
  all_in : (run : Returned IsPorts First Came p new.ended) (bytes : List ℕ) → Consumes run.before.source.supply run.after.source.supply bytes
      → IsAtEnd run.after.source.supply → HasGivenAll First p.from.now bytes
  all_in run bytes read end = all_by First p.from.now bytes run.before.source run.after.source run.input.size run.input.unread run.input.found read
      run.input.over run.input.named end

  leaves_file : (secret : SecretView) → EngineCompleted IsPorts First Came (encrypt_engine secret) p old new
      → (text : List ℕ) × (file : List ℕ) × HasGivenAll First p.from.now text × AgeFile secret text file × OutHolds old new p file
  leaves_file secret h =
      let l = h.leaves in
      let done = l.promise.1 in
      (done.text, done.file, all_in l.run done.text done.read done.at_end, done.is, is_out l done.file h.puts done.wrote)

  module _ (save : Option Text) (identity : Identity) where
    leaves_text : EngineCompleted IsPorts First Came (decrypt_engine IsPorts First save identity None) p old new
        → (text : List ℕ) × (file : List ℕ) × HasGivenAll First p.from.now file × IsFileBy identity text file × OutHolds old new p text
    leaves_text ended =
        let l = ended.leaves in
        let h = l.promise in
        let gave = gave_text (kept_for save) (allows_by identity) (refuses_by identity) l.run.before l.run.after None h.0 h.1 h.2 in
        let is = gave.1 in (
          gave.0,
          is.bytes,
          all_in l.run is.bytes is.read is.at_end,
          record { header = is.header; key = is.key; nonce = is.nonce; file = is.file; opens = is.opens },
          is_out l gave.0 ended.puts gave.2.0,
        )

    leaves_resumed : (pos : Position) (name : Text) → EngineCompleted IsPorts First Came (decrypt_engine IsPorts First save identity (Some (pos, name))) p old new
        → (text : List ℕ) × (rest : List ℕ) × CarriesText text pos
        × (0 < pos.index → (more : List ℕ) × HasGiven First name (take (pos.index * chunk_length) text ++ more))
        × HasGivenAll First p.from.now rest × IsRestBy identity pos text rest × OutHolds old new p text
    leaves_resumed pos name ended =
        let l = ended.leaves in
        let h = l.promise in
        let gave = gave_text (kept_for save) (allows_by identity) (refuses_by identity) l.run.before l.run.after (Some (resumption pos h.0 h.1))
        h.5.0 h.5.1 h.5.2 in
        let front = gave.1.0 in
        let is = gave.1.1 in (
          gave.0,
          _,
          front.carries,
          λ some. (front.more, old_gave First pos name h.0 h.1 (take (pos.index * chunk_length) gave.0 ++ front.more) h.4 front.read some),
          all_in l.run _ is.read.read is.at_end,
          record {
            file = is.file;
            own = is.own;
            head = is.read.text;
            opens = is.read.opens;
            size = is.read.size;
            below = is.below;
            skipped = is.skipped;
            skipped_size = is.size;
            parts = refl;
          },
          is_out l gave.0 ended.puts gave.2.0,
        )

-- ---- What a command leaves that is done.

pub leaves_asked : (IsPorts : Ports → Type 0) (before after : FilesView) (asked : Request)
    → OfEngine IsPorts (CameFirst before after) (NotedSince before after) asked
    (λ engine paths. EngineCompleted IsPorts (CameFirst before after) (NotedSince before after) engine paths before after)
    → LeavesFor (HasGivenAll (CameFirst before after)) (HasGiven (CameFirst before after)) (OutHolds before after) asked
leaves_asked IsPorts before after (Encrypt e) (secret, makes, ended) =
    let l = leaves_file IsPorts before after e.paths secret ended in (secret, makes, l.0, l.1, l.2, l.3, l.4)
leaves_asked IsPorts before after (Decrypt d) (identity, makes, ended) =
    let l = leaves_text IsPorts before after d.paths (option_text d.save) identity ended in (identity, makes, l.0, l.1, l.2, l.3, l.4)
leaves_asked IsPorts before after (Resume r) (identity, makes, position, at, ended) =
    let d = r.decrypting in
    let l = leaves_resumed IsPorts before after d.paths (option_text d.save) identity position r.old.now ended in
    (identity, makes, position, at, l.0, l.1, l.2, l.3, l.4, l.5, l.6)
leaves_asked IsPorts before after other ended = tt
