use Rattle.std.proofs.Common.{ap, refl, subst, ◌∙◌, None}
use Rattle.clap.specs.Words.{Text}
use Rattle.age_file_input.specs.{ports}
use Rattle.age_cli_files.specs.{FilesView, Outcome, NotedSince, Does, Gave, reading_of}
use Rattle.age_cli_files.proofs.{all_as, came_one, does_then, given_as, grows_by}
use Rattle.age_cli_args.specs.{option_text}
use Rattle.age_cli_args.specs.declared.request.Request.TheVariants.{Encrypt}
use Rattle.age_cli_args.specs.declared.request.Encrypting.{Encrypting}
use Rattle.age_cli_common.specs.{random_name}
use Rattle.age_cli_commands.specs.Done.{CameFirst}
use Rattle.age_cli_commands.specs.inner.Engines.{PortsOf, encrypt_engine}
use Rattle.age_cli_commands.specs.inner.{IsMaterialGiven, encrypt_outcome, secret_of}
use Rattle.age_cli_commands.specs.declared.encrypt_command.SecretParts.{SecretParts}
use Rattle.age_cli_commands.proofs.{acts_before, came_did, concluded, acts_engine, did_came, finally_as}
use Rattle.age_cli_commands.proofs.{first_came, nowhere, runs_sealed, spares_did, spares_then}
use Rattle.age_cli_commands.proofs.encrypt_command.encrypt_file.Goals as goal

-- by the name of the random bytes
abbrev DoneWith : Encrypting → SecretParts → FilesView → FilesView → Text → Type 0
DoneWith a m old new n = IsMaterialGiven (NotedSince old new) a n m × Does old new

pub returns-in_err-material : goal.returns-in_err-material
returns-in_err-material g c = acts_before (Encrypt c.args.asked.now) _ _ c.from_residual.ensures (spares_did _ _ _ c.in_err-material.ensures.fails)

pub returns-in_err-source : goal.returns-in_err-source
returns-in_err-source g c =
    acts_before (Encrypt c.args.asked.now) _ _ c.from_residual-in_err-source.ensures (spares_then _ _ _ _ c.in_ok-material.ensures.done.1 c.in_err-source.ensures.fails)

pub returns : goal.returns
returns g c =
    let a = c.args.asked.now in
    let view = g.F.FileSet.view in
    let In = g.F.In.Source.view in
    let Out = g.F.Out.Sink.view in
    let old = view c.args.files.now in
    let opened = view c.open_encrypt_files.new.files in
    let mid = view c.close_input-input.new.self in
    let made = subst (DoneWith a c.in_ok-material.material _ _) c.random_name-random_name.ensures c.in_ok-material.ensures.done in
    let both = c.in_ok-source.ensures.done in
    let secret = secret_of c.in_ok-material.material in
    let run = c.seal_text-end in
    let source = c.in_ok-source.source in
    let before = ports (In source) (Out c.in_ok-source.out) in
    let after = ports (In run.result.1) (Out run.new.out) in
    let gave = Gave (reading_of (In run.result.1)) in
    let over = c.close_input-input.ensures.over in
    let ended : Does opened mid = c.close_input-input.ensures.does in
    let all = does_then _ _ _ made.1 both.1 in
    finally_as c.conclude_output.result (λ new done so.
    let concludes = rw (c.attach_context-engine.ensures, c.encrypt_outcome.ensures, c.without_position.ensures) at so in
    let grows = concluded None a.paths.durability after.sink (encrypt_outcome run.result.0) nowhere mid new done concludes in
    let last : (o : Outcome) → NotedSince old mid o → CameFirst old new o = first_came grows.0 old mid new (grows_by old mid (does_then old opened mid all ended)) grows.1 in
    let then : (o : Outcome) → NotedSince old opened o → CameFirst old new o = λ o came. last o (came_did ended o came) in
    let given : (o : Outcome) → NotedSince old _ o → CameFirst old new o = λ o came. then o (came_did both.1 o came) in
    acts_engine (PortsOf In Out) (Encrypt a) old opened new (encrypt_engine secret) a.paths before done (g.F.FileSet.size source)
    (record { source = source; sink = c.in_ok-source.out; is = refl }) both.0.1.0 (then _ (did_came made.1 _ both.0.1.3)) (λ refused. then _ (did_came made.1 _ (both.0.1.4 refused))) both.0.1.2
    (runs_sealed (PortsOf In Out) (CameFirst old new) (NotedSince old new) a.paths secret before after opened mid new run.result.0 done
    (record { source = run.result.1; sink = run.new.out; is = refl }) (last gave (did_came all gave (came_one opened mid gave (ap (λ v. v.outcomes) over)))) (run.ensures.named ∙ both.0.1.1) ended
    (run.ensures.done secret both.0.0) (run.ensures.fails secret both.0.0) concludes) all (λ P holds. (
      secret,
      record {
        pass = (made.0.pass.0, all_as _ _ given a.pass.now made.0.pass.0 made.0.pass.1, made.0.pass.2);
        log_is = made.0.log_is;
        within = made.0.within;
        rest = made.0.rest;
        random_given = given_as _ _ given (random_name (option_text a.random)) _ made.0.random_given;
        key_length = made.0.key_length;
        salt_length = made.0.salt_length;
        nonce_length = made.0.nonce_length;
      },
      holds,
    )))
    c.conclude_output.ensures
