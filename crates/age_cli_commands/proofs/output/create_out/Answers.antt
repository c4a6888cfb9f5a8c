use Rattle.std.proofs.Common.{[], Ok}
use Rattle.age_cli_files.proofs.{created_absent, does_same, does_then, grows_by, grows_then, made_does}
use Rattle.age_cli_commands.proofs.{came_did, grows_kept, opens_no_out, spared_by, spares_did}
use Rattle.age_cli_commands.proofs.output.create_out.Goals as goal

pub returns-in_err-out : goal.returns-in_err-out
returns-in_err-out g c =
    let p = c.args.asked.now.paths in
    opens_no_out _ c.from_residual.result c.from_residual.ensures (spares_did _ _ _ (made_does p.clobber p.to.now _ _ c.create.result c.create.ensures.noted))

pub returns-in-Some : goal.returns-in-Some
returns-in-Some g c =
    let made = c.in_ok-out.ensures in
    let p = c.args.asked.now.paths in
    let view = g.F.FileSet.view in
    let old = view c.args.files.now in
    let asked = view c.find_refusal.new.files in
    let did = does_then _ _ _ (made_does p.clobber p.to.now _ _ (Ok c.in_ok-out.out) made.noted) (does_same _ _ c.find_refusal.ensures) in
    record {
      done = tt;
      fails = record {
        none = grows_then [] [] old asked _ (grows_by _ _ did) (grows_kept asked _ c.discard.ensures.noted);
        spared = spared_by _ _ _ _ _ made.named made.begun.0 made.begun.1 c.discard.ensures.discarded;
      };
    }

pub returns-in-None : goal.returns-in-None
returns-in-None g c =
    let made = c.in_ok-out.ensures in
    let p = c.args.asked.now.paths in
    let same = does_same _ _ c.find_refusal.ensures in
    record {
      done = (
        (made.begun.0, made.begun.1, made.named, λ refused. came_did same _ (created_absent p.clobber p.to.now _ _ made.noted refused)),
        does_then _ _ _ (made_does p.clobber p.to.now _ _ (Ok c.in_ok-out.out) made.noted) same,
      );
      fails = tt;
    }
