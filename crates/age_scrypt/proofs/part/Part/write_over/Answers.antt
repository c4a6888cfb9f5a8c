use Rattle.age_scrypt.proofs.{rows_written}
use Rattle.age_scrypt.proofs.part.Part.write_over.Goals as goal

pub returns : goal.returns
returns c =
    let p = c.args.self in
    rows_written c.args.to.now _ _ _ _ p.a p.b p.c p.d c.requires p.a_len p.b_len p.c_len p.d_len
    c.write_row.ensures c.write_row-2.ensures c.write_row-3.ensures c.write_row-4.ensures
