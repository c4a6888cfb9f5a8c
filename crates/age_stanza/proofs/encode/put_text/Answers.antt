use Rattle.std.proofs.Common.{◌≡◌, ◌≤◌, ◌*◌, ◌+◌, ◌/◌, ◌∙◌, length, take, sym, ap, arith}
use Rattle.std.proofs.lemmas.List.{take_at}
use Rattle.age_stanza.specs.{base64_text}
use Rattle.age_stanza.proofs.{length-text, on_ok}
use Rattle.age_stanza.proofs.encode.put_text.Goals as goal

pub returns : goal.returns
unfolding base64_text
returns c =
    let fits : (4 * length c.args.bytes.now + 2) / 3 ≤ 64 = omega arith in
    let size : c.in-Ok.len ≡ (4 * length c.args.bytes.now + 2) / 3 = cc (c.in-Ok.ensures.fits fits) in
    let wrote : take c.in-Ok.len c.encode_slice.new.output ≡ base64_text c.args.bytes.now =
    ap (take c.in-Ok.len) c.in-Ok.ensures.written ∙ take_at _ _ c.in-Ok.len (length-text c.args.bytes.now ∙ sym size) in
    rw (← wrote) (on_ok _ _ _ _ c.extend_from_slice.ensures.items)
