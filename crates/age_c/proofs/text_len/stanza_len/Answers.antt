use Rattle.std.proofs.Common.{length, ap, arith}
use Rattle.age_c.proofs.{body_within, length-stanza}
use Rattle.age_c.proofs.text_len.stanza_len.Goals as goal

pub body_len-requires : goal.body_len-requires
body_len-requires c =
    let lines = body_within c.args.stanza.now.body in
    let whole = length-stanza c.args.stanza.now in
    let same = ap length c.as_slice-2.ensures in
    omega arith
