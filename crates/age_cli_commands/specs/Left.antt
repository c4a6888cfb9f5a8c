-- What a command leaves that isn't done: read this after Done.
use Rattle.std.specs.Prelude.{◌≡◌, ℕ, true, Result, Ok, Err, List, [], ◌∷◌, Option, Some, None, ◌++◌, ◌≢◌}
use Rattle.std.specs.Prelude.{◌⊎◌, IfSome, IsSomeAnd, ◌<◌, false, ◌≤◌, ◌*◌, option_map, length, MatchOption}
use Rattle.clap.specs.Words.{Text}
use Rattle.age_host_model.specs.declared.options.Durability.{Durability}
use Rattle.age_host_model.specs.declared.options.Durability.TheVariants.{Synced}
use Rattle.age_stanza.specs.{HeadText}
use Rattle.age_chunk.specs.{chunk_length, block_length}
use Rattle.age_keys.specs.{Opens}
use Rattle.age_stream.specs.{IsPrefixOf}
use Rattle.age_fault.specs.declared.fault.FileFault.{FileFault}
use Rattle.age_fault.specs.declared.fault.FileFault.TheVariants.{Write}
use Rattle.age_file_position.specs.{position_text}
use Rattle.age_file_position.specs.declared.position.Position.{Position}
use Rattle.age_file_encrypt.specs.{SecretView, AgeFile}
use Rattle.age_file_decrypt.specs.{IsPositionWithin, Run, OpenedFile, BelongsTo}
use Rattle.age_file_decrypt.specs.Resumes.{IsOldText}
use Rattle.age_file_decrypt.specs.Runs.{IsFromStart, held, run_text}
use Rattle.age_host_model.specs.{EndedFile, IsAtName, TouchesItself, IsAtPathWithBytes, IsDurable, IsUntouched}
use Rattle.age_host_model.specs.Output.{has_changed}
use Rattle.age_cli_files.specs.{FilesView, Outcome, Settled, NotedSince, HasGiven, HasGivenAll, Entry, PutsOnly}
use Rattle.age_cli_files.specs.{entry}
use Rattle.age_cli_args.specs.{option_text}
use Rattle.age_cli_args.specs.declared.request.Decrypting.{Decrypting}
use Rattle.age_cli_args.specs.declared.request.Paths.{Paths}
use Rattle.age_cli_args.specs.declared.request.Request.{Request}
use Rattle.age_cli_args.specs.declared.request.Request.TheVariants.{Encrypt, Decrypt, Resume}
use Rattle.age_cli_common.specs.{allows_by, MakesBy}
use Rattle.age_cli_common.specs.declared.command_error.CommandError.{CommandError}
use Rattle.age_cli_common.specs.declared.command_error.CommandError.TheVariants.{Fault, Unsaved}
use Rattle.age_cli_common.specs.declared.identity.Identity.{Identity}
use Rattle.age_cli_commands.specs.Commands.{MakesSecret}
use Rattle.age_cli_commands.specs.Done.{CameFirst}

-- ---- How a command ended that isn't done.

-- The ending of a stop with this fault. If saving its position failed, both faults are reported.
abbrev pub stop_ending : FileFault → (saved : Result (Unit {0}) FileFault) → CommandError
stop_ending fault (Ok done) = Fault fault
stop_ending fault (Err second) = Unsaved fault second

-- No output was touched, but an empty new one of this name may have been made; and nothing was put.
pub record Spares (to : Text) (before after : FilesView) : Type 0 where
  pub spared : (after.ended ≡ before.ended)
      ⊎ IsSomeAnd after.ended (λ out. IsAtName to out × TouchesItself out × (out.took ≡ []) × IsUntouched 0 out)
  pub none : PutsOnly [] before after

-- What the sink took is at its path, and on the disk if it was to be synced; or a call for it has
-- failed.
abbrev pub IsThereUnlessFailed : Durability → EndedFile → Type 0
IsThereUnlessFailed durability out = (IsAtPathWithBytes out × (durability ≡ Synced → IsDurable out))
    ⊎ IfSome out.file (λ f. 0 < out.failed)

-- The position at which a decryption begins, if not at the start of its file.
abbrev pub initial_position : Option (Position × Text) → Option Position
initial_position earlier = option_map (λ e. e.0) earlier

-- ---- What was written by a command that isn't done.

-- The file of this name gave the header of an age file, which the identity opens, its nonce, and
-- these bytes after that.
pub record GivesFile (Gave : Text → List ℕ → Type 0) (identity : Identity) (from : Text) (file : OpenedFile)
    (rest : List ℕ) : Type 0 where
  pub head : HeadText file.header file.header_bytes
  pub opens : Opens (allows_by identity) file.header file.key
  pub size : length file.nonce ≡ 16
  pub gave : Gave from ((file.header_bytes ++ file.nonce) ++ rest)

-- The decryption came to no payload. It wrote nothing; or, of the earlier output, no more than is
-- before the position, which belongs to the file.
abbrev pub IsBeforeRun : (Gave : Text → List ℕ → Type 0) → Identity → (from : Text)
    → (start : Option (Position × Text)) → (took : List ℕ) → Type 0
IsBeforeRun Gave identity from start took = (took ≡ []) ⊎ IsSomeAnd start (λ e.
    (length took ≤ e.0.index * chunk_length) × (more : List ℕ) × Gave e.1 (took ++ more)
    × (file : OpenedFile) × (rest : List ℕ) × GivesFile Gave identity from file rest × BelongsTo e.0 file)

-- A run over the file's payload: from its start, or from a position, after the text for which the
-- position was made. It wrote that text and a beginning of what was decrypted.
pub record IsRunOf (Gave : Text → List ℕ → Type 0) (identity : Identity) (from : Text)
    (start : Option Position) (took : List ℕ) (r : Run) : Type 0 where
  pub file : GivesFile Gave identity from r.file (r.skipped ++ r.bytes)
  pub skipped_size : length r.skipped ≡ r.first * block_length
  pub begins : MatchOption start (IsFromStart r)
      (λ p. (r.first ≡ p.index) × BelongsTo p r.file × IsOldText p r.copied)
  pub wrote : took ≡ held r
  pub prefix : IsPrefixOf r.out (run_text r)

-- A position that was saved. It isn't beyond the bytes of OUT that are certain, as the set of files
-- said. It is where the command started, or one of the run and not before that.
pub record IsSavedBy (Came : Outcome → Type 0) (p : Paths) (start : Option Position) (run : Option Run)
    (took : List ℕ) (saved : Position) : Type 0 where
  pub settled : ℕ
  pub certain : Came (Settled p.durability took settled)
  pub within : saved.index * chunk_length ≤ settled
  pub is : (start ≡ Some saved)
      ⊎ IsSomeAnd run (λ r. IsPositionWithin r settled saved × IfSome start (λ s. s.index ≤ saved.index))

-- `First` is what came before anything was put, and `Came` what came at all.
module _ (First Came : Outcome → Type 0) where
  -- A decryption that isn't done wrote this, and saved this position.
  pub record Stops (d : Decrypting) (start : Option (Position × Text)) (took : List ℕ)
      (saved : Option Position) : Type 0 where
    pub identity : Identity
    pub makes : MakesBy (HasGivenAll First) d.identity identity
    pub run : Option Run
    pub wrote : let from = d.paths.from.now in
        MatchOption run (IsBeforeRun (HasGiven First) identity from start took)
        (IsRunOf (HasGiven First) identity from (initial_position start) took)
    pub saves : IfSome saved (IsSavedBy Came d.paths (initial_position start) run took)

  -- A command that isn't done wrote this, and saved this position. An encryption wrote a beginning
  -- of an age file of what IN gave.
  abbrev pub StopsOf : Request → (took : List ℕ) → (saved : Option Position) → Type 0
  StopsOf (Encrypt e) took saved =
      (secret : SecretView) × MakesSecret (HasGivenAll First) (HasGiven First) e secret
      × (text : List ℕ) × (file : List ℕ) × HasGiven First e.paths.from.now text × AgeFile secret text file
      × IsPrefixOf took file
  StopsOf (Decrypt d) took saved = Stops d None took saved
  StopsOf (Resume r) took saved = (p : Position) × HasGivenAll First r.position.now (position_text p)
      × Stops r.decrypting (Some (p, r.old.now)) took saved
  StopsOf other took saved = Unit {0}

-- The name of the file of `--save`, if a request has one.
abbrev pub save_of : Request → Option Text
save_of (Decrypt d) = option_text d.save
save_of (Resume r) = option_text r.decrypting.save
save_of other = None

-- The position was put to its file, if there are both.
abbrev pub SavesOf : Option Text → Option Position → List Entry → Type 0
SavesOf (Some name) (Some p) puts = puts ≡ entry name (position_text p) ∷ []
SavesOf save position puts = puts ≡ []

-- A command that isn't done left OUT so. OUT alone was touched, at its name: unchanged if it took
-- nothing, unless a call for it failed, and else closed. It was put with what it took, or wasn't,
-- and then a position was saved, or wasn't; nothing else was put. If a position was saved, what OUT
-- took is there, unless a put (27) or a call for it failed.
pub record Left (asked : Request) (p : Paths) (before after : FilesView) (ending : CommandError) : Type 0 where
  pub fault : FileFault
  pub how : Result (Unit {0}) FileFault
  pub reported : ending ≡ stop_ending fault how
  pub out : EndedFile
  pub is : after.ended ≡ Some out
  pub at : IsAtName p.to.now out
  pub within : TouchesItself out
  pub unchanged : out.took ≡ [] → IfSome out.file (λ f.
      (f.is_made ≡ false → has_changed out.calls ≡ false) ⊎ (0 < out.failed))
  pub closed : out.took ≢ [] → out.is_closed ≡ true
  pub saved : Option Position
  pub there : out.took ≢ [] → IfSome saved (λ q. IsThereUnlessFailed p.durability out ⊎ (fault ≡ Write))
  pub outs : List Entry
  pub saves : List Entry
  pub puts : PutsOnly (outs ++ saves) before after
  pub out_is : (outs ≡ []) ⊎ ((outs ≡ entry p.to.now out.took ∷ []) × (out.took ≢ []))
  pub saved_is : SavesOf (save_of asked) saved saves
  pub stops : StopsOf (CameFirst before after) (NotedSince before after) asked out.took saved
