-- What the engine of a command promises, and what became of the files then. Private: no public contract
-- cites this module.
use Rattle.std.specs.Prelude.{◌≡◌, ℕ, true, Result, List, [], ◌∷◌, Option, Some, None, is_some, ◌++◌, ◌≢◌}
use Rattle.std.specs.Prelude.{◌==◌, if◌then◌else◌, ◌⊎◌, IfSome, IsSomeAnd, ◌<◌, ◌≤◌}
use Rattle.clap.specs.Words.{Text}
use Rattle.age_io.specs.{SourceView, SinkView}
use Rattle.age_host_model.specs.declared.options.ClobberOption.TheVariants.{Refused}
use Rattle.age_host_model.specs.declared.options.Durability.TheVariants.{Synced}
use Rattle.age_fault.specs.declared.fault.FileFault.{FileFault}
use Rattle.age_fault.specs.declared.fault.FileFault.TheVariants.{Write}
use Rattle.age_file_position.specs.{position_text}
use Rattle.age_file_position.specs.declared.position.Position.{Position}
use Rattle.age_file_position.specs.declared.position.PositionPolicy.{PositionPolicy}
use Rattle.age_file_position.specs.declared.position.PositionPolicy.TheVariants.{Kept, Dropped}
use Rattle.age_file_input.specs.{Ports, ports}
use Rattle.age_file_encrypt.specs.{SecretView, EncryptsFront}
use Rattle.age_file_encrypt.specs.Encrypts.{Encrypts}
use Rattle.age_file_encrypt.specs.declared.encryption.Written.{Written}
use Rattle.age_file_decrypt.specs.{IsPositionWithin, Run, DecryptEnds, DecryptStops, Resumption, resumption}
use Rattle.age_file_decrypt.specs.{from_either}
use Rattle.age_file_decrypt.specs.declared.decryption.Done.{Done}
use Rattle.age_file_decrypt.specs.declared.decryption.Stopped.{Stopped}
use Rattle.age_host_model.specs.{EndedFile, IsAtName, TouchesItself, IsAtPathWithBytes, IsDurable, IsUntouched}
use Rattle.age_cli_files.specs.{FilesView, Outcome, Absent, Settled, HasGiven, HasGivenAll, Entry, PutsOnly}
use Rattle.age_cli_files.specs.{entry, Put}
use Rattle.age_cli_files.specs.declared.file_set.IfMissing.{IfMissing}
use Rattle.age_cli_files.specs.declared.file_set.IfMissing.TheVariants.{Empty, Fails}
use Rattle.age_cli_args.specs.{option_text}
use Rattle.age_cli_args.specs.declared.request.Decrypting.{Decrypting}
use Rattle.age_cli_args.specs.declared.request.Paths.{Paths}
use Rattle.age_cli_args.specs.declared.request.Request.{Request}
use Rattle.age_cli_args.specs.declared.request.Request.TheVariants.{Encrypt, Decrypt, Resume}
use Rattle.age_cli_common.specs.{allows_by, refuses_by, MakesBy}
use Rattle.age_cli_common.specs.declared.command_error.CommandError.{CommandError}
use Rattle.age_cli_common.specs.declared.identity.Identity.{Identity}
use Rattle.age_cli_commands.specs.Effects.{MustSave, IsSaved}
use Rattle.age_cli_commands.specs.Commands.{MakesSecret, WasRead}
use Rattle.age_cli_commands.specs.Done.{IsAnsweredOnce}
use Rattle.age_cli_commands.specs.Left.{stop_ending, IsThereUnlessFailed, initial_position}

-- ---- Where `resume` begins.

-- at chunk 0 nothing of the earlier output is needed, and a missing one counts as empty
abbrev pub missing_at : Position → IfMissing
missing_at position = if position.index == 0 then Empty else Fails

-- ---- What the engine of a command promises of its source and its sink, before and after.

-- What it promises if it ends; of the position to save if OUT can't be ended then; and if it stops with
-- this fault, and with this position to save. If one is to be saved, the set of files said that so many
-- bytes of OUT are certain (`settled`).
pub record Engine : Type 1 where
  -- the file of `--save`
  pub save : Option Text
  pub ends : Ports → Ports → Type 0
  pub unended : (settled : ℕ) → Option Position → Ports → Ports → Type 0
  pub stops : (settled : ℕ) → FileFault → Option Position → Ports → Ports → Type 0

-- positions are kept if one is to be saved
abbrev pub kept_for : Option Text → PositionPolicy
kept_for (Some name) = Kept
kept_for None = Dropped

-- that of `encrypt`, which has no position
abbrev pub encrypt_engine : SecretView → Engine
encrypt_engine secret = record {
  save = None;
  ends = λ before after. (written : Written) × Encrypts secret before after written;
  unended = λ settled position before after. position ≡ None;
  stops = λ settled fault position before after.
      EncryptsFront secret before after fault × (position ≡ None);
}

-- The position to save of a run that comes to no end: one of it within what is certain, if it came to its
-- payload and positions are kept, unless that is before the one that it went on from: then that one. Else
-- the stop's own, if it has one.
abbrev pub IsPlaced : Option Run → PositionPolicy → (start : Option Position) → (settled : ℕ)
    → (own at : Option Position) → Type 0
IsPlaced (Some r) Kept start settled own position =
    IsSomeAnd position (λ p. (IsPositionWithin r settled p × IfSome start (λ s. s.index ≤ p.index))
    ⊎ ((start ≡ Some p) × (q : Position) × IsPositionWithin r settled q × (q.index < p.index)))
IsPlaced run keep start settled own position = position ≡ own

-- a run stopped with this fault, and this is the position to save
abbrev pub StopsText : PositionPolicy → (start : Option Position) → (Stops : Option Run → Stopped → Type 0)
    → (settled : ℕ) → FileFault → Option Position → Type 0
StopsText keep start Stops settled fault position = (run : Option Run) × (stop : Stopped)
    × (stop.fault ≡ fault) × Stops run stop × IsPlaced run keep start settled stop.position position

-- a run ended, and this is the position to save if its output can't be
abbrev pub EndsText : PositionPolicy → (start : Option Position) → (Ends : Done → Run → Type 0)
    → (settled : ℕ) → Option Position → Type 0
EndsText keep start Ends settled position =
    (done : Done) × (run : Run) × Ends done run × IsPlaced (Some run) keep start settled None position

-- the ports of a source and a sink of one set of files: what they show, and how often they failed
pub record PortsOf {In Out : Type 0} (read : In → SourceView) (wrote : Out → SinkView) (p : Ports)
    : Type 0 where
  pub source : In
  pub sink : Out
  pub is : p ≡ ports (read source) (wrote sink)

module _ (IsPorts : Ports → Type 0) (Came : Outcome → Type 0) where
  -- if it goes on at a position, after the earlier output of a name, a second source of the set is that of
  -- this, which is found for the position
  abbrev pub GoesOn : Option (Position × Text) → (Option Resumption → Ports → Ports → Type 0)
      → Ports → Ports → Type 0
  GoesOn None Promise before after = Promise None before after
  GoesOn (Some e) Promise before after =
      (first : SourceView) × (last : SourceView) × IsPorts (ports first before.sink)
      × IsPorts (ports last after.sink) × WasRead Came (missing_at e.0) e.1 first last
      × Promise (Some (resumption e.0 first last)) before after

  -- that of `decrypt` and of `resume`
  abbrev pub decrypt_engine : (save : Option Text) → Identity → Option (Position × Text) → Engine
  decrypt_engine save i earlier = let begun = from_either (allows_by i) (refuses_by i) in record {
    save = save;
    ends = GoesOn earlier (λ from before after. (done : Done) × (run : Run)
        × DecryptEnds (kept_for save) (allows_by i) (begun from) before after done run);
    unended = λ settled position. GoesOn earlier (λ from before after. EndsText (kept_for save)
        (initial_position earlier) (DecryptEnds (kept_for save) (allows_by i) (begun from) before after) settled
        position);
    stops = λ settled fault position. GoesOn earlier (λ from before after. StopsText (kept_for save)
        (initial_position earlier) (DecryptStops (kept_for save) (allows_by i) (begun from) before after) settled
        fault position);
  }

-- ---- What became of the files, by what an engine promises.

-- the options make what opens the input, with all that the file gave that they name
abbrev pub OpensOf : (Came : Outcome → Type 0) → Decrypting → Identity → Type 0
OpensOf Came d identity = MakesBy (HasGivenAll Came) d.identity identity

-- `First` is what came before anything was put, and `Came` what came at all.
module _ (IsPorts : Ports → Type 0) (First Came : Outcome → Type 0) where
  -- what is asked and what was read of the files make an engine, and this holds of it and of the names
  abbrev pub OfEngine : Request → (Engine → Paths → Type 0) → Type 0
  OfEngine (Encrypt e) P = (secret : SecretView)
      × MakesSecret (HasGivenAll First) (HasGiven First) e secret × P (encrypt_engine secret) e.paths
  OfEngine (Decrypt d) P = (identity : Identity) × OpensOf First d identity
      × P (decrypt_engine IsPorts First (option_text d.save) identity None) d.paths
  OfEngine (Resume r) P =
      let d = r.decrypting in
      (identity : Identity) × OpensOf First d identity
      × (position : Position) × HasGivenAll First r.position.now (position_text position)
      × P (decrypt_engine IsPorts First (option_text d.save) identity (Some (position, r.old.now))) d.paths
  OfEngine other P = Unit {0}

  -- An engine returned, over a source and a sink of the files. The source was IN's, whose reading is over;
  -- the sink was new. The output that was ended last is OUT, whose path is its name unless that is a link,
  -- and had taken what the sink took; none was there if an existing one is refused.
  pub record Returned (p : Paths) (ended : Option EndedFile) : Type 0 where
    pub before : Ports
    pub after : Ports
    pub before_is : IsPorts before
    pub after_is : IsPorts after
    pub taken : before.sink.taken.bytes ≡ []
    pub failed : before.sink.failed ≡ 0
    pub input : WasRead First Fails p.from.now before.source after.source
    pub fresh : p.clobber ≡ Refused → First (Absent p.to.now)
    pub out : EndedFile
    pub is : ended ≡ Some out
    pub took : out.took ≡ after.sink.taken.bytes
    pub at : IsAtName p.to.now out

  -- It kept a promise of what was read and of what OUT took, which was put under OUT's name. OUT was closed
  -- with just that: it is at its path, and on the disk, if that was to be waited for; and a disk answers.
  pub record LeavesText (Promise : Ports → Ports → (took : List ℕ) → Type 0) (p : Paths)
      (ended : Option EndedFile) : Type 0 where
    pub run : Returned p ended
    pub promise : Promise run.before run.after run.out.took
    pub named : Came (Put p.to.now run.out.took)
    pub closed : run.out.is_closed ≡ true
    pub there : IsAtPathWithBytes run.out
    pub safe : p.durability ≡ Synced → IsDurable run.out
    pub answered : IsAnsweredOnce run.out

  -- It ended, and OUT was put under its name. Nothing else was put, or touched for it.
  pub record EngineCompleted (engine : Engine) (p : Paths) (before after : FilesView) : Type 0 where
    pub leaves : LeavesText (λ old new took. engine.ends old new) p after.ended
    pub puts : PutsOnly (entry p.to.now leaves.run.out.took ∷ []) before after
    pub within : TouchesItself leaves.run.out

  -- The engine stopped with this fault and at this position. The output is untouched if its sink took
  -- nothing, and closed otherwise.
  pub record Stopping (engine : Engine) (p : Paths) (settled : ℕ) (fault : FileFault)
      (position : Option Position) {ended : Option EndedFile} (run : Returned p ended) : Type 0 where
    pub promise : engine.stops settled fault position run.before run.after
    pub untouched : run.out.took ≡ [] → IsUntouched run.after.sink.failed run.out
    -- What was put before the stop is there, so that a position goes on from it, unless a put or a call
    -- failed.
    pub kept : (run.out.took ≡ [] → ⊥) → (run.out.is_closed ≡ true)
        × (run.after.sink.failed ≡ 0 → IsThereUnlessFailed p.durability run.out)

  -- It ended, but the output couldn't be; if it is a regular file, a call has failed. This is the position to save.
  pub record Unended (engine : Engine) (p : Paths) (settled : ℕ) (fault : FileFault)
      (position : Option Position) {ended : Option EndedFile} (run : Returned p ended) : Type 0 where
    pub promise : engine.ends run.before run.after
    pub placed : engine.unended settled position run.before run.after
    pub is : fault ≡ Write
    pub closed : run.out.is_closed ≡ true
    pub caused : IfSome run.out.file (λ f. 0 < run.out.failed)

  -- It stopped with the fault that is reported, or its output couldn't be ended. What its sink took was
  -- put, or nothing was; and then its position, if it has one that is due to a file. How much of OUT is
  -- certain was asked, if a position is to be saved.
  pub record EngineFailed (engine : Engine) (p : Paths) (ending : CommandError) (before after : FilesView)
      : Type 0 where
    pub run : Returned p after.ended
    pub within : TouchesItself run.out
    pub fault : FileFault
    pub save : Result (Unit {0}) FileFault
    pub reported : ending ≡ stop_ending fault save
    pub position : Option Position
    pub settled : ℕ
    pub certain : is_some engine.save ≡ true → Came (Settled p.durability run.out.took settled)
    pub cause : Stopping engine p settled fault position run ⊎ Unended engine p settled fault position run
    pub outs : List Entry
    pub rest : List Entry
    pub puts : PutsOnly (outs ++ rest) before after
    pub out : (outs ≡ []) ⊎ ((outs ≡ entry p.to.now run.out.took ∷ []) × (run.out.took ≢ []))
    pub due : Option Position
    pub is_due : MustSave Came position engine.save due
    pub saved : IsSaved settled due engine.save save rest
