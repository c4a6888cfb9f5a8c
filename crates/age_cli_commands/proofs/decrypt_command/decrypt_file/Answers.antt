use Rattle.std.proofs.Common.{refl}
use Rattle.age_file_input.specs.{ports}
use Rattle.age_cli_files.specs.{Outcome, NotedSince}
use Rattle.age_cli_files.proofs.{does_then, grows_by}
use Rattle.age_cli_args.specs.{option_text}
use Rattle.age_cli_args.specs.declared.request.Request.TheVariants.{Decrypt}
use Rattle.age_cli_commands.specs.Done.{CameFirst}
use Rattle.age_cli_commands.specs.inner.Engines.{PortsOf}
use Rattle.age_cli_commands.proofs.{acts_before, concluded, acts_engine, did_came, came_did, finally_as, opens_as}
use Rattle.age_cli_commands.proofs.{first_came, spares_did, spares_then}
use Rattle.age_cli_commands.proofs.decrypt_command.decrypt_file.Goals as goal

pub returns-in_err-identity : goal.returns-in_err-identity
returns-in_err-identity g c = acts_before (Decrypt c.args.asked.now) _ _ c.from_residual.ensures (spares_did _ _ _ c.in_err-identity.ensures.fails)

pub returns-in_err-source : goal.returns-in_err-source
returns-in_err-source g c =
    acts_before (Decrypt c.args.asked.now) _ _ c.from_residual-in_err-source.ensures (spares_then _ _ _ _ c.in_ok-identity.ensures.done.1 c.in_err-source.ensures.fails)

pub returns : goal.returns
returns g c =
    let d = c.args.asked.now in
    let view = g.F.FileSet.view in
    let old = view c.args.files.now in
    let mid = view c.open_both.new.files in
    let judged = c.in_ok-identity.ensures.done in
    let both = c.in_ok-source.ensures.done in
    let source = c.in_ok-source.source in
    let before = ports (g.F.In.Source.view source) (g.F.Out.Sink.view c.in_ok-source.out) in
    let did = does_then _ _ _ judged.1 both.1 in
    finally_as c.decrypt_ready.result (λ new ended run.
    let grows = concluded (option_text d.save) d.paths.durability run.after.sink run.end run.place mid new ended run.concludes in
    let early : (o : Outcome) → NotedSince old mid o → CameFirst old new o = first_came grows.0 old mid new (grows_by old mid did) grows.1 in
    acts_engine (PortsOf g.F.In.Source.view g.F.Out.Sink.view) (Decrypt d) old mid new _ d.paths before ended (g.F.FileSet.size source)
    (record { source = source; sink = c.in_ok-source.out; is = refl }) both.0.0 (early _ (did_came judged.1 _ both.0.3)) (λ refused. early _ (did_came judged.1 _ (both.0.4 refused)))
    both.0.2 run did (λ P holds. (c.in_ok-identity.identity, opens_as (λ o came. early o (came_did both.1 o came)) c.args.asked.now c.in_ok-identity.identity judged.0, holds)))
    (c.decrypt_ready.ensures old (grows_by old mid did) tt)
