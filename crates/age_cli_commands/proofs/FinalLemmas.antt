-- What a command did whose engine ran.
use Rattle.std.proofs.Common.{◌≡◌, ◌∙◌, [], sym, refl, inr, true≢false, ℕ, Option, None, Result, Ok, Err}
use Rattle.std.proofs.Common.{IfOk, IfErr}
use Rattle.std.proofs.lemmas.Result.{on_ok_weaker, IfErr-weaker}
use Rattle.age_host_model.specs.declared.options.ClobberOption.TheVariants.{Refused}
use Rattle.age_fault.specs.declared.fault.FileFault.{FileFault}
use Rattle.age_file_input.specs.{Ports}
use Rattle.age_file_encrypt.specs.{SecretView, EncryptsFront}
use Rattle.age_file_encrypt.specs.Encrypts.{Encrypts}
use Rattle.age_file_encrypt.specs.declared.encryption.Written.{Written}
use Rattle.age_cli_files.proofs.{grows_by, then_came}
use Rattle.age_cli_files.specs.{FilesView, Outcome, Found, Absent, Gave, NotedSince, Does, reading_of}
use Rattle.age_cli_files.specs.declared.file_set.IfMissing.TheVariants.{Fails}
use Rattle.age_cli_args.specs.declared.request.Paths.{Paths}
use Rattle.age_cli_args.specs.declared.request.Request.{Request}
use Rattle.age_cli_common.proofs.{always_ok}
use Rattle.age_cli_common.specs.declared.command_error.CommandError.{CommandError}
use Rattle.age_cli_commands.proofs.DecryptionLemmas.{if_some}
use Rattle.age_cli_commands.proofs.DoneLemmas.{leaves_asked}
use Rattle.age_cli_commands.proofs.EngineLemmas.{engine_ended, engine_stopped, sealing_ends, sealing_stops}
use Rattle.age_cli_commands.proofs.LeftLemmas.{left_of}
use Rattle.age_cli_commands.proofs.PutLemmas.{concludes_from}
use Rattle.age_cli_commands.specs.{WasRead, StopPoint}
use Rattle.age_cli_commands.specs.Effects.{Acts}
use Rattle.age_cli_commands.specs.Done.{CameFirst, paths_of}
use Rattle.age_cli_commands.specs.inner.{AreNew, Concludes, encrypt_outcome, RunsEngine}
use Rattle.age_cli_commands.specs.inner.Engines.{Engine, OfEngine, EngineCompleted, EngineFailed}
use Rattle.age_cli_commands.specs.inner.Engines.{encrypt_engine}

-- what it wrote went under the name that OUT has
sealed_named : (s : SecretView) (before after : Ports) (end : Result Written FileFault) → IfOk end (Encrypts s before after)
    → IfErr end (EncryptsFront s before after) → after.sink.taken.label ≡ before.sink.taken.label
sealed_named s before after (Ok w) ends fails = ends.wrote.named
sealed_named s before after (Err f) ends fails = fails.wrote.named

-- it can't go on
abbrev pub nowhere : StopPoint
nowhere = record { position = None; settled = 0 }

-- an encryption ran, and the reading of IN was over before OUT was ended
pub runs_sealed : (IsPorts : Ports → Type 0) (First Came : Outcome → Type 0) (p : Paths) (secret : SecretView) (before after : Ports) (opened mid new : FilesView)
    (sealed : Result Written FileFault) (r : Result (Unit {0}) CommandError)
    → IsPorts after → First (Gave (reading_of after.source)) → after.source.label ≡ p.from.now → Does opened mid → IfOk sealed (Encrypts secret before after)
    → IfErr sealed (EncryptsFront secret before after)
    → Concludes None p.durability after.sink (encrypt_outcome sealed) nowhere mid new r
    → RunsEngine IsPorts First Came (encrypt_engine secret) p before opened new r
runs_sealed IsPorts First Came p secret before after opened mid new sealed r after_is over from did ends fails concludes = record {
  after = after;
  after_is = after_is;
  over = over;
  from = from;
  end = encrypt_outcome sealed;
  place = nowhere;
  ends = sealing_ends secret before after sealed ends;
  unended = always_ok (encrypt_outcome sealed) _ refl;
  stops = sealing_stops secret before after sealed fails;
  named = sealed_named secret before after sealed ends fails;
  certain = λ saves. absurd (true≢false (sym saves));
  concludes = concludes_from None p.durability after.sink nowhere opened mid new did (encrypt_outcome sealed) r concludes;
}

-- what was opened is `old` to `mid`, and the engine ran until then; OUT was ended, and a position saved, until `new`
module _ (IsPorts : Ports → Type 0) (asked : Request) (old mid new : FilesView) (engine : Engine) (p : Paths) (before : Ports) (r : Result (Unit {0}) CommandError)
    (size : Option ℕ) where
  abbrev First : Outcome → Type 0
  First = CameFirst old new

  abbrev Came : Outcome → Type 0
  Came = NotedSince old new

  pub acts_engine : IsPorts before → AreNew before → First (Found Fails p.from.now before.source.supply.left size)
      → (p.clobber ≡ Refused → First (Absent p.to.now)) → before.sink.taken.label ≡ p.to.now → RunsEngine IsPorts First Came engine p before mid new r
      → Does old mid → ((P : Engine → Paths → Type 0) → P engine p → OfEngine IsPorts First Came asked P) → Acts asked old new r
  acts_engine before_is begun found fresh named run did of =
      let grows = grows_by old mid did in
      let late : (o : Outcome) → NotedSince mid new o → Came o = then_came [] old mid new grows in
      let read : WasRead First Fails p.from.now before.source run.after.source = record { unread = begun.given; size = size; found = found; over = run.over; named = run.from } in
      record {
        done = on_ok_weaker r (λ ended. leaves_asked IsPorts old new asked (of (λ n q. EngineCompleted IsPorts First Came n q old new) ended))
            (engine_ended IsPorts First Came engine p before run.after before_is run.after_is begun read fresh (run.named ∙ named) old mid new grows late
            run.end run.place run.ends r run.concludes);
        stopped = IfErr-weaker r _ _ (λ e stop. if_some (paths_of asked) (λ q left. inr left)
            (left_of IsPorts old new asked e (of (λ n q. EngineFailed IsPorts First Came n q e old new) stop)))
            (engine_stopped IsPorts First Came engine p before run.after before_is run.after_is begun read fresh (run.named ∙ named) old mid new grows late
            run.end run.place run.ends run.unended run.stops run.certain r run.concludes);
      }
