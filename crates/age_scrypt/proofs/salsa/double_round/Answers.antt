use Rattle.age_scrypt.specs.{columns}
use Rattle.age_scrypt.proofs.{length-columns, length-transpose, transpose-columns_of-transpose, columns_on_diagonals}
use Rattle.age_scrypt.proofs.salsa.double_round.Goals as goal

pub returns : goal.returns
returns c x len h =
    let q = c.quarter.ensures in
    let r = c.quarter-2.ensures in
    let first = c.transposed.ensures _ (columns_on_diagonals x c.args.p c.quarter.result len h q.a q.b q.c q.d) in
    let second = c.transposed-2.ensures _ (columns_on_diagonals _ c.transposed.result c.quarter-2.result (length-transpose (columns x)) first r.a r.b r.c r.d) in
    rw (transpose-columns_of-transpose (columns x) (length-columns x len)) at second
