use Rattle.std.proofs.Common.{Some, ap}
use Rattle.age_host_model.specs.{OutFile}
use Rattle.age_host_output.proofs.{file_closes}
use Rattle.age_host_output.proofs.closing.close_file.Goals as goal

pub returns : goal.returns
returns c =
    let end = c.end-end.ensures in
    file_closes _ c.args.out c.args.tally _ _ _ (ap (λ (f : OutFile). Some f) c.of.ensures) c.requires end.within _ end.sure end.safe end.there end.failing end.closed
