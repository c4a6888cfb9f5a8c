use Rattle.std.proofs.Common.{map, take, ◌++◌}
use Rattle.std.specs.List.{concat}
use Rattle.sha2.specs.Hashers.{Holds256}
use Rattle.age_kdf.specs.{xor_pad}
use Rattle.age_kdf.proofs.hmac_of_block.Given as goal

-- the inner hasher holds the xor_pad key and the parts so far
abbrev pub invariant-loop-part : goal.invariant-loop-part
invariant-loop-part l = Holds256 l.inner (xor_pad 0x36 l.block ++ concat (map (λ part. part.now) (take l.part-index l.parts)))
