use Rattle.std.proofs.Common.{ap, sym, ◌∙◌, [], refl}
use Rattle.std.specs.Prelude.{option_map}
use Rattle.age_file_input.specs.{ports}
use Rattle.age_cli_files.specs.{NotedSince, Gave, Outcome, PutsOnly, reading_of}
use Rattle.age_cli_files.proofs.{came_one, came_then, does_then, grows_by, grows_then, then_came}
use Rattle.age_cli_args.specs.{option_text}
use Rattle.age_cli_commands.specs.Done.{CameFirst}
use Rattle.age_cli_commands.specs.inner.Engines.{PortsOf}
use Rattle.age_cli_commands.specs.inner.{earlier_of, goes_on}
use Rattle.age_cli_commands.proofs.{came_did, concluded, concludes_from, did_came, finally_as, first_came, if_some}
use Rattle.age_cli_commands.proofs.{runs_opened, went_on}
use Rattle.age_cli_commands.proofs.decrypt_command.decrypt_ready.Goals as goal

pub returns : goal.returns
returns g c = λ begin grown fresh. finally_as c.conclude_output.result (λ new ended concludes.
    let view = g.F.FileSet.view in
    let In = g.F.In.Source.view in
    let Out = g.F.Out.Sink.view in
    let size = g.F.FileSet.size in
    let once = c.decrypt_text-checkpoints in
    let ready = c.args.ready in
    let w = c.args.writing.now in
    let sink = Out once.result.2.out in
    let settle = c.durable_len_at_end-durable in
    let place = c.resume_point-stop_point in
    let engine = c.to_outcome.result in
    let old = view c.args.files.now in
    let told = view c.close_old-old_context.new.files in
    let first = view c.close_input-input_context.new.self in
    let mid = view settle.new.files in
    let gave = Gave (reading_of (In once.result.1)) in
    let is = c.close_input-input_context.ensures.over in
    let read = does_then old told first c.close_old-old_context.ensures.does c.close_input-input_context.ensures.does in
    let all = does_then old first mid read settle.ensures.does in
    let so = rw (settle.ensures.same, c.attach_context-outcome.ensures) at concludes in
    let grows = concluded (option_text w.save) w.paths.durability sink engine place.result mid new ended so in
    let none : PutsOnly [] begin mid = grows_then [] [] begin old mid grown (grows_by old mid all) in
    let early : (o : Outcome) → NotedSince begin mid o → CameFirst begin new o = first_came grows.0 begin mid new none grows.1 in
    let since : (o : Outcome) → NotedSince old mid o → NotedSince begin mid o = then_came [] begin old mid grown in
    runs_opened (PortsOf In Out) (CameFirst begin new) (NotedSince begin new) w ready.identity (option_map earlier_of ready.outputs.earlier)
    (goes_on In ready.outputs.earlier once.result.2.earlier)
    (ports (In ready.source) (Out ready.outputs.out)) (ports (In once.result.1) sink) (record { source = once.result.1; sink = once.result.2.out; is = refl })
    (went_on In Out size (NotedSince begin old) (CameFirst begin new) (λ o came. early o (came_did all o came)) ready.outputs.earlier
    once.result.2.earlier once.ensures.old c.requires.old fresh
    (if_some once.result.2.earlier (λ e came. early _ (since _ (came_did settle.ensures.does _ (came_did c.close_input-input_context.ensures.does _ came)))) c.close_old-old_context.ensures.over)
    (ready.outputs.out, once.result.2.out) (In ready.source) (In once.result.1)) old new
    (early gave (since gave (came_did settle.ensures.does gave (did_came c.close_old-old_context.ensures.does gave (came_one told first gave (ap (λ v. v.outcomes) is)))))) (once.ensures.named ∙ c.requires.input)
    once.result.0.0 once.result.0.1
    place.result ended once.ensures.decrypts (rw (c.initial_position-start.ensures, sym place.ensures.settled) at place.ensures.placed)
    (λ saves. came_then grows.0 begin mid new grows.1 _ (since _ (did_came read _ (rw (sym place.ensures.settled) at (settle.ensures.certain saves)))))
    (rw c.to_outcome.ensures at (concludes_from (option_text w.save) w.paths.durability sink place.result old mid new all engine ended so))) c.conclude_output.ensures
