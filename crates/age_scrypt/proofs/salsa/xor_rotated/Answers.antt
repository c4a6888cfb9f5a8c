use Rattle.std.proofs.Common.{ap, bit_xor, arith}
use Rattle.std.specs.Simd.Lanes.{zip2}
use Rattle.std.proofs.lemmas.Simd.{length-zip2}
use Rattle.age_scrypt.specs.{add32}
use Rattle.age_scrypt.proofs.{shifts_rotate}
use Rattle.age_scrypt.proofs.salsa.xor_rotated.Goals as goal

pub returns : goal.returns
returns g c =
    let sum = zip2 add32 c.args.x c.args.y in
    ap (zip2 bit_xor c.args.b)
    (shifts_rotate g.row.K c.requires.some c.requires.below sum
    (omega (arith, length-zip2 add32 c.args.x c.args.y (omega arith))))
