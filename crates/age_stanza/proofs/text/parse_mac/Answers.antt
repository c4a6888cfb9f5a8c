use Rattle.std.proofs.Common.{◌∙◌, sym, arith}
use Rattle.std.proofs.lemmas.List.{take_rest}
use Rattle.base64.specs.GeneralPurpose.{IsBytes}
use Rattle.age_stanza.proofs.{no_end_line, mac_is, no_mac}
use Rattle.age_stanza.proofs.text.parse_mac.Goals as goal

pub returns-then-not-starts_with : goal.returns-then-not-starts_with
returns-then-not-starts_with c = no_end_line c.args.line.now (sym c.starts_with.ensures.value ∙ c.if-not-starts_with.true)

pub returns-then-not-read_base64 : goal.returns-then-not-read_base64
returns-then-not-read_base64 c =
    let fits : IsBytes c.args.line.now = λ i. omega (arith, c.type_inv.line i) in
    no_mac c.args.line.now fits (λ mac bytes long is. c.if-not-read_base64.ensures.refused mac bytes long (take_rest c.args.line.now 4 ∙ is))

pub returns : goal.returns
returns c =
    mac_is c.args.line.now c.read_base64.new.bytes (sym c.starts_with.ensures.value ∙ c.if-not-starts_with.false) (sym (take_rest c.args.line.now 4)
    ∙ c.if-not-read_base64.ensures.read)
    (omega arith) c.read_base64.ensures.bytes
