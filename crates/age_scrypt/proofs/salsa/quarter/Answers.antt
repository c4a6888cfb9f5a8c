use Rattle.age_scrypt.proofs.{quarter_lanes}
use Rattle.age_scrypt.proofs.salsa.quarter.Goals as goal

pub returns : goal.returns
returns c =
    let p = c.args.p in
    let lanes = quarter_lanes p.a p.b p.c p.d _ _ _ _ p.a_len p.b_len p.c_len p.d_len c.xor_rotated-b.ensures c.xor_rotated-c.ensures
    c.xor_rotated-d.ensures c.xor_rotated-a.ensures in
    record { a = lanes.0; b = lanes.1; c = lanes.2; d = lanes.3 }
