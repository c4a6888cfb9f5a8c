use Rattle.std.proofs.Common.{arith}
use Rattle.base64.specs.GeneralPurpose.{IsBytes}
use Rattle.age_stanza.proofs.{line_read, line_refused}
use Rattle.age_stanza.proofs.text.decode_line.Goals as goal

pub returns-clause-read : goal.returns-clause-read
returns-clause-read c =
    let fits : IsBytes c.decode_slice_unchecked.new.output = λ i. omega (arith, c.type_inv.room i) in
    rw c.ok.ensures.value (line_read c.args.line.now c.args.room.now c.decode_slice_unchecked.new.output c.decode_slice_unchecked.result fits c.requires.room
    c.decode_slice_unchecked.ensures.ok)

pub returns-clause-refused : goal.returns-clause-refused
returns-clause-refused c = rw c.ok.ensures.value (line_refused c.args.line.now c.decode_slice_unchecked.result c.decode_slice_unchecked.ensures.err)
