use Rattle.std.proofs.Common.{refl, take}
use Rattle.age_c.proofs.WriterLemmas.{seals_last}
use Rattle.age_c.proofs.sealing.seal_last.Goals as goal

pub returns-clause-sealed : goal.returns-clause-sealed
returns-clause-sealed c =
    let sealed = c.seal_chunk-len in
    seals_last c.args.writer.now _ c.args.rest.now (take sealed.result sealed.new.out) c.requires.usable.chunk refl
    (record { file_key = refl; nonce = refl }) c.requires.short c.requires.some sealed.ensures.block
