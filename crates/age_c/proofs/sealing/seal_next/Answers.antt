use Rattle.std.proofs.Common.{refl, take}
use Rattle.age_c.proofs.WriterLemmas.{seals_chunk}
use Rattle.age_c.proofs.sealing.seal_next.Goals as goal

pub returns-clause-sealed : goal.returns-clause-sealed
returns-clause-sealed c =
    let sealed = c.seal_chunk-len in
    seals_chunk c.args.writer.now _ c.args.chunk.now (take sealed.result sealed.new.out) c.requires.call.usable.unfinished refl refl c.requires.limit
    (record { file_key = refl; nonce = refl }) c.requires.call.whole sealed.ensures.block
