-- What only private code cites: how a part of a command ended, and its files.
use Rattle.std.specs.Prelude.{◌≡◌, ◌≢◌, ◌⊎◌, ◌≤◌, ℕ, ◌++◌, ◌∷◌, [], List, Option, None, Result, Ok, Err}
use Rattle.std.specs.Prelude.{IsErrAnd, true, IsSomeAnd, length, Some, IfSome, is_some, OnOk, IfErr, IfOk}
use Rattle.std.specs.Prelude.{◌<◌, ◌*◌}
use Rattle.clap.specs.Words.{Text}
use Rattle.age_io.specs.{SinkView, SourceView}
use Rattle.age_host_model.specs.declared.options.Durability.{Durability}
use Rattle.age_fault.specs.declared.fault.FileFault.{FileFault}
use Rattle.age_fault.specs.declared.fault.FileFault.TheVariants.{Write}
use Rattle.age_file_decrypt.specs.declared.decryption.Done.{Done}
use Rattle.age_file_decrypt.specs.declared.decryption.Stopped.{Stopped}
use Rattle.age_file_encrypt.specs.declared.encryption.Written.{Written}
use Rattle.age_file_position.specs.{position_text}
use Rattle.age_cli_files.specs.{Put, with_outcomes, Entry, entry, FilesView, PutsOnly, NotedSince, Outcome}
use Rattle.age_cli_files.specs.{Found, Absent, Gave, Settled, reading_of, HasGiven, HasGivenAll, Does}
use Rattle.age_cli_files.specs.declared.file_set.IfMissing.TheVariants.{Fails}
use Rattle.age_cli_common.specs.{without_line_feed}
use Rattle.age_keys.specs.{IsAllowed, PassphraseIdentity}
use Rattle.age_cli_common.specs.declared.command_error.CommandError.{CommandError}
use Rattle.age_host_model.specs.{Closes, EndedFile, IsAtName, OutFile, TouchesItself, IsUntouched}
use Rattle.age_cli_commands.specs.Effects.{MustSave, IsSaved}
use Rattle.age_cli_commands.specs.Left.{stop_ending, IsThereUnlessFailed, Spares}
use Rattle.age_cli_commands.specs.inner.Engines.{Engine, missing_at}
use Rattle.age_cli_commands.specs.declared.pending_stop.StopPoint.{StopPoint}
use Rattle.age_chunk.specs.{chunk_length}
use Rattle.age_file_decrypt.specs.{IsMarked, MarksView, Resumption, resumption}
use Rattle.age_file_input.specs.{Ports, ports}
use Rattle.age_file_encrypt.specs.{SecretView}
use Rattle.age_cli_commands.specs.Commands.{MakesSecret}
use Rattle.age_file_position.specs.declared.position.Position.{Position}
use Rattle.age_host_model.specs.declared.options.ClobberOption.TheVariants.{Refused}
use Rattle.age_cli_args.specs.declared.request.Paths.{Paths}
use Rattle.age_keys.specs.declared.random.FileRandom.{FileRandom}
use Rattle.age_cli_args.specs.declared.request.Encrypting.{Encrypting}
use Rattle.age_cli_commands.specs.declared.decrypt_command.EarlierOutput.{EarlierOutput}
use Rattle.age_cli_commands.specs.declared.encrypt_command.SecretParts.{SecretParts}
pub mod Engines

-- ---- How a part of a command ended.

-- how an engine ended, without what it wrote
abbrev pub encrypt_outcome : Result Written FileFault → Result (Unit {0}) FileFault
encrypt_outcome (Ok written) = Ok tt
encrypt_outcome (Err fault) = Err fault

abbrev pub to_outcome : Result Done Stopped → Result (Unit {0}) FileFault
to_outcome (Ok done) = Ok tt
to_outcome (Err s) = Err s.fault

-- the position of a stop, if it has one
abbrev pub own_of : Result Done Stopped → Option Position
own_of (Ok done) = None
own_of (Err s) = s.position

-- what was put of an output, whose sink is this: nothing, or all that it took
abbrev pub IsPut : SinkView → List Entry → Type 0
IsPut sink puts = (puts ≡ [])
    ⊎ ((puts ≡ entry sink.taken.label sink.taken.bytes ∷ []) × (sink.taken.bytes ≢ []))

-- how the file of OUT was left after a stop, whose sink is this: untouched, if nothing was taken, and closed
-- otherwise
pub record IsLeft (durability : Durability) (sink : SinkView) (out : EndedFile) : Type 0 where
  pub took : out.took ≡ sink.taken.bytes
  pub at : IsAtName sink.taken.label out
  pub within : TouchesItself out
  pub untouched : sink.taken.bytes ≡ [] → IsUntouched sink.failed out
  pub kept : (sink.taken.bytes ≡ [] → ⊥) → out.is_closed ≡ true
  pub there : (sink.taken.bytes ≡ [] → ⊥) → sink.failed ≡ 0 → IsThereUnlessFailed durability out

-- how it was left if it couldn't be ended
abbrev pub IsUnended : Durability → SinkView → EndedFile → Type 0
IsUnended durability sink out = (file : Option OutFile) × Closes durability file sink (Err Write) out

-- OUT was left, whose sink is this, and this holds of its file
pub record LeavesOut (sink : SinkView) (IsFile : EndedFile → Type 0) (old new : FilesView) : Type 0 where
  pub outs : List Entry
  pub puts_only : PutsOnly outs old new
  pub out : IsPut sink outs
  pub ended : IsSomeAnd new.ended IsFile

-- OUT was closed with what its sink took
pub record ClosesOut (durability : Durability) (sink : SinkView) (old new : FilesView) : Type 0 where
  pub file : Option OutFile
  pub ended : IsSomeAnd new.ended (Closes {E = FileFault} durability file sink (Ok tt))
  pub puts_only : PutsOnly (entry sink.taken.label sink.taken.bytes ∷ []) old new

-- a position was put to a file, to which so much of OUT is certain, or nothing was done
abbrev pub SavedPosition : Option Text → (settled : ℕ) → Option Position → (old new : FilesView)
    → Result (Unit {0}) FileFault → Type 0
SavedPosition (Some name) settled (Some p) old new (Ok done) = (p.index * chunk_length ≤ settled)
    × (new ≡ with_outcomes (Put name (position_text p) ∷ []) old)
SavedPosition save settled position old new r = new ≡ old

-- OUT was left, whose sink is this, and the position was saved, if there is one and a file for it, and if it
-- isn't beyond what is certain
pub record SavesStop (save : Option Text) (durability : Durability) (sink : SinkView)
    (IsFile : EndedFile → Type 0) (fault : FileFault) (place : StopPoint) (old new : FilesView)
    (ending : CommandError) : Type 0 where
  pub how : Result (Unit {0}) FileFault
  pub reported : ending ≡ stop_ending fault how
  pub ended : IsSomeAnd new.ended IsFile
  -- What was put of the output comes first.
  pub outs : List Entry
  pub rest : List Entry
  pub puts_only : PutsOnly (outs ++ rest) old new
  pub out : IsPut sink outs
  pub due : Option Position
  pub is_due : MustSave (NotedSince old new) place.position save due
  pub saved : IsSaved place.settled due save how rest

-- OUT was ended once its engine returned so: complete; or it couldn't be; or it was left as the engine's
-- stop leaves it
abbrev pub EndsOut : Durability → SinkView → (engine : Result (Unit {0}) FileFault) → (old new : FilesView)
    → Result (Unit {0}) FileFault → Type 0
EndsOut durability sink (Ok done) old new (Ok all) = ClosesOut durability sink old new
EndsOut durability sink (Ok done) old new (Err fault) = (fault ≡ Write)
    × LeavesOut sink (IsUnended durability sink) old new
EndsOut durability sink (Err stop) old new result =
    IsErrAnd result (λ fault. fault ≡ stop) × LeavesOut sink (IsLeft durability sink) old new

-- and then the position was saved, or not, if it isn't complete
abbrev pub Concludes : Option Text → Durability → SinkView → (engine : Result (Unit {0}) FileFault) → StopPoint
    → (old new : FilesView) → Result (Unit {0}) CommandError → Type 0
Concludes save durability sink (Ok done) place old new (Ok all) = ClosesOut durability sink old new
Concludes save durability sink (Ok done) place old new (Err ending) =
    SavesStop save durability sink (IsUnended durability sink) Write place old new ending
Concludes save durability sink (Err fault) place old new result =
    IsErrAnd result (SavesStop save durability sink (IsLeft durability sink) fault place old new)

-- ---- How a decryption was concluded.

-- the position to save by the marks of its run, within what is certain, or where it started, if that is
-- after it; its own, if it has no marks
abbrev pub IsPlacedBy : Option MarksView → (start : Option Position) → (settled : ℕ)
    → (own position : Option Position) → Type 0
IsPlacedBy None start settled own position = position ≡ own
IsPlacedBy (Some m) start settled own position =
    IsSomeAnd position (λ p. (IsMarked m settled p × IfSome start (λ s. s.index ≤ p.index))
    ⊎ ((start ≡ Some p) × (q : Position) × IsMarked m settled q × (q.index < p.index)))

-- An engine ran over a source and a sink of the files, and OUT was ended. `end` is how it ended,
-- and `place` has the position that is saved if that isn't complete, and how many bytes are
-- certain.
pub record RunsEngine (IsPorts : Ports → Type 0) (First Came : Outcome → Type 0) (engine : Engine) (p : Paths)
    (before : Ports) (old new : FilesView) (result : Result (Unit {0}) CommandError) : Type 0 where
  pub after : Ports
  pub after_is : IsPorts after
  pub over : First (Gave (reading_of after.source))
  pub from : after.source.label ≡ p.from.now
  pub end : Result (Unit {0}) FileFault
  pub place : StopPoint
  pub ends : OnOk end (engine.ends before after × (after.sink.failed ≡ before.sink.failed))
  pub unended : OnOk end (engine.unended place.settled place.position before after)
  pub stops : IfErr end (λ fault. engine.stops place.settled fault place.position before after)
  pub named : after.sink.taken.label ≡ before.sink.taken.label
  pub certain : is_some engine.save ≡ true
      → Came (Settled p.durability after.sink.taken.bytes place.settled)
  pub concludes : Concludes engine.save p.durability after.sink end place old new result

-- ---- Where a decryption goes on.

-- by what was seen of the earlier output before and after
abbrev pub goes_on : {In : Type 0} → (In → SourceView) → (old new : Option (EarlierOutput In)) → Option Resumption
goes_on read (Some o) (Some n) = Some (resumption o.position (read o.source) (read n.source))
goes_on read old new = None

-- the earlier output is the same, and so is its source's name
abbrev pub IsSameOld : {In : Type 0} → (In → SourceView) → (old new : Option (EarlierOutput In)) → Type 0
IsSameOld read (Some o) (Some n) =
    (n.name.now ≡ o.name.now) × ((read n.source).label ≡ (read o.source).label)
IsSameOld read None None = Unit {0}
IsSameOld read old new = ⊥

-- its position and its name
abbrev pub earlier_of : {In : Type 0} → EarlierOutput In → Position × Text
earlier_of e = (e.position, e.name.now)

-- it was found for the position, and nothing was read of it so far
abbrev pub IsNewOld : {In : Type 0} → (In → SourceView) → (In → Option ℕ) → (Came : Outcome → Type 0)
    → EarlierOutput In → Type 0
IsNewOld read size Came e = ((read e.source).supply.given ≡ [])
    × Came (Found (missing_at e.position) e.name.now (read e.source).supply.left (size e.source))

-- ---- How a command ends before its output is written.

-- files were opened and read, and this holds of what came of it, or it failed
pub record OpensFiles {A : Type 0} (old new : FilesView) (IsNew : A → Type 0) (result : Result A CommandError)
    : Type 0 where
  pub done : IfOk result (λ x. IsNew x × Does old new)
  pub fails : IfErr result (λ e. Does old new)

-- OUT was opened or made too, or no output was touched but an empty new one of its name
pub record OpensOut {A : Type 0} (to : Text) (old new : FilesView) (IsNew : A → Type 0)
    (result : Result A CommandError) : Type 0 where
  pub done : IfOk result (λ x. IsNew x × Does old new)
  pub fails : IfErr result (λ e. Spares to old new)

-- a source that gave nothing so far, and a sink that took nothing, and of which no call failed
pub record AreNew (p : Ports) : Type 0 where
  pub given : p.source.supply.given ≡ []
  pub taken : p.sink.taken.bytes ≡ []
  pub failed : p.sink.failed ≡ 0

-- IN and OUT are new, and were found and made as is asked
abbrev pub IsNewBy : {In Out : Type 0} → (In → SourceView) → (Out → SinkView) → (In → Option ℕ)
    → (Came : Outcome → Type 0) → Paths → In → Out → Type 0
IsNewBy read wrote size Came p source out = AreNew (ports (read source) (wrote out))
    × ((read source).label ≡ p.from.now) × ((wrote out).taken.label ≡ p.to.now)
    × Came (Found Fails p.from.now (read source).supply.left (size source))
    × (p.clobber ≡ Refused → Came (Absent p.to.now))

-- ---- The random parts of an age file in bytes.

-- one after the other, each of 16 bytes
pub record IsRandom (bytes : List ℕ) (r : FileRandom) : Type 0 where
  pub rest : List ℕ
  pub parts : bytes ≡ r.file_key ++ (r.salt ++ (r.payload_nonce ++ rest))
  pub key_length : length r.file_key ≡ 16
  pub salt_length : length r.salt ≡ 16
  pub nonce_length : length r.payload_nonce ≡ 16

-- what the file of the passphrase gave holds this one
abbrev pub GivesPassphrase : (Came : Outcome → Type 0) → Encrypting → PassphraseIdentity → Type 0
GivesPassphrase Came asked words = (bytes : List ℕ) × HasGivenAll Came asked.pass.now bytes
    × (words.pass ≡ without_line_feed bytes) × (words.max_log ≡ asked.log)
    × IsAllowed words.pass words.max_log

-- the secret of a passphrase and of random parts
abbrev pub secret_of : SecretParts → SecretView
secret_of m = record {
  pass = m.pass.pass;
  log = m.pass.max_log;
  salt = m.random.salt;
  key = m.random.file_key;
  nonce = m.random.payload_nonce;
}

-- all that the file of the passphrase gave, and what that of the random bytes gave, make it
abbrev pub IsMaterialGiven : (Came : Outcome → Type 0) → Encrypting → (random_name : Text) → SecretParts → Type 0
IsMaterialGiven Came asked random_name m =
    MakesSecret (HasGivenAll Came) (λ name. HasGiven Came random_name) asked (secret_of m)
