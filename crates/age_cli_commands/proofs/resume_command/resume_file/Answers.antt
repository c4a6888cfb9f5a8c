use Rattle.std.proofs.Common.{Some, subst, refl}
use Rattle.clap.specs.Words.{Text}
use Rattle.age_file_input.specs.{ports}
use Rattle.age_file_position.specs.{position_text}
use Rattle.age_cli_files.specs.{Outcome, NotedSince}
use Rattle.age_cli_files.proofs.{all_as, does_then, grows_by}
use Rattle.age_cli_args.specs.{option_text}
use Rattle.age_cli_args.specs.declared.request.Request.TheVariants.{Resume}
use Rattle.age_cli_commands.specs.Done.{CameFirst}
use Rattle.age_cli_commands.specs.inner.Engines.{PortsOf, decrypt_engine}
use Rattle.age_cli_commands.proofs.{acts_before, acts_engine, concluded, did_came, came_did, finally_as}
use Rattle.age_cli_commands.proofs.{first_came, opens_as, spares_did, spares_then}
use Rattle.age_cli_commands.proofs.resume_command.resume_file.Goals as goal

pub returns-in_err-identity : goal.returns-in_err-identity
returns-in_err-identity g c = acts_before (Resume c.args.asked.now) _ _ c.from_residual.ensures (spares_did _ _ _ c.in_err-identity.ensures.fails)

pub returns-in_err-old : goal.returns-in_err-old
returns-in_err-old g c =
    acts_before (Resume c.args.asked.now) _ _ c.from_residual-in_err-old.ensures (spares_did _ _ _ (does_then _ _ _ c.in_ok-identity.ensures.done.1 c.in_err-old.ensures.fails))

pub returns-in_err-source : goal.returns-in_err-source
returns-in_err-source g c =
    acts_before (Resume c.args.asked.now) _ _ c.from_residual-in_err-source.ensures
    (spares_then _ _ _ _ c.in_ok-identity.ensures.done.1 (spares_then _ _ _ _ c.in_ok-old.ensures.done.1 c.in_err-source.ensures.fails))

pub returns : goal.returns
returns g c =
    let r = c.args.asked.now in
    let d = r.decrypting in
    let view = g.F.FileSet.view in
    let In = g.F.In.Source.view in
    let Out = g.F.Out.Sink.view in
    let old = view c.args.files.now in
    let then = view c.open_earlier.new.files in
    let mid = view c.open_both.new.files in
    let judged = c.in_ok-identity.ensures.done in
    let earlier = c.in_ok-old.ensures.done in
    let both = c.in_ok-source.ensures.done in
    let source = c.in_ok-source.source in
    let before = ports (In source) (Out c.in_ok-source.out) in
    let opened = does_then _ _ _ earlier.1 both.1 in
    let did = does_then _ _ _ judged.1 opened in
    let position = c.in_ok-old.old.position in
    finally_as c.decrypt_ready.result (λ new ended run.
    let grows = concluded (option_text d.save) d.paths.durability run.after.sink run.end run.place mid new ended run.concludes in
    let early : (o : Outcome) → NotedSince old mid o → CameFirst old new o = first_came grows.0 old mid new (grows_by old mid did) grows.1 in
    let later : (o : Outcome) → NotedSince then mid o → CameFirst old new o = λ o came. early o (did_came judged.1 o (did_came earlier.1 o came)) in
    acts_engine (PortsOf In Out) (Resume r) old mid new _ d.paths before ended (g.F.FileSet.size source)
    (record { source = source; sink = c.in_ok-source.out; is = refl }) both.0.0 (later _ both.0.3) (λ refused. later _ (both.0.4 refused)) both.0.2 run did (λ P holds. (
      c.in_ok-identity.identity,
      opens_as (λ o came. early o (came_did opened o came)) d c.in_ok-identity.identity judged.0,
      position,
      all_as (NotedSince _ then) (CameFirst old new) (λ o came. early o (did_came judged.1 o (came_did both.1 o came))) r.position.now
          (position_text position) earlier.0.0,
      subst (λ (n : Text). P (decrypt_engine (PortsOf In Out) (CameFirst old new) (option_text d.save) c.in_ok-identity.identity (Some (position, n))) d.paths)
          earlier.0.1 holds,
    )))
    (c.decrypt_ready.ensures old (grows_by old mid did) (earlier.0.3.0, did_came judged.1 _ (came_did both.1 _ earlier.0.3.1)))
