use Rattle.std.proofs.Common.{rules}
use Rattle.std.specs.Prelude.{bit_xor}
use Rattle.age_kdf.specs.{xor_pad}
use Rattle.age_kdf.proofs.{mapped_is}
use Rattle.age_kdf.proofs.xor_pad.Goals as goal

pub returns : goal.returns
unfolding xor_pad
returns c =
    mapped_is _ (λ byte. bit_xor byte c.args.pad) _ (λ x y q called. search rules) c.args.block.now
    c.map.result 64 c.told-block c.map.ensures.items
