use Rattle.std.proofs.Common.{◌≤◌, take, length, sym, ap, ◌∙◌, arith}
use Rattle.std.proofs.lemmas.List.{length-take}
use Rattle.base64.specs.GeneralPurpose.{IsBytes}
use Rattle.age_stanza.proofs.{div_ceil-characters}
use Rattle.age_stanza.specs.{base64_text}
use Rattle.age_stanza.proofs.Base64Lemmas.{text_of_decoded, characters_of, decoded_size, never_decodes}
use Rattle.age_stanza.proofs.text.read_base64.Goals as goal

pub returns-then-characters-div_ceil-clause-refused : goal.returns-then-characters-div_ceil-clause-refused
returns-then-characters-div_ceil-clause-refused c = λ other fits len is.
    c.if-characters-div_ceil.true
    (characters_of c.args.characters.now other (length c.args.bytes.now) len is
    ∙ sym (c.div_ceil.ensures ∙ div_ceil-characters (length c.args.bytes.now)))

pub returns-in-Ok-clause-read : goal.returns-in-Ok-clause-read
returns-in-Ok-clause-read c =
    let fits : IsBytes c.args.characters.now = λ i. omega (arith, c.type_inv.characters i) in
    text_of_decoded c.args.characters.now (take c.in-Ok.len c.decode_slice_unchecked.new.output) fits c.in-Ok.ensures.ok.0
    ∙ ap base64_text (sym c.copy_from_slice.ensures.after)

pub returns-in_default-clause-refused : goal.returns-in_default-clause-refused
returns-in_default-clause-refused c = λ other fits len is.
    let ok = c.in-Ok.ensures.ok in
    let n = decoded_size c.args.characters.now other c.decode_slice_unchecked.new.output c.in-Ok.len (omega (arith, ok.2, c.decode_slice_unchecked.auto.output))
    ok.0 fits is in
    c.if-len-bytes.false (n ∙ len)

pub returns-in_default-2-clause-refused : goal.returns-in_default-2-clause-refused
returns-in_default-2-clause-refused c = λ other fits len is.
    never_decodes c.args.characters.now other c.in_default.field-0 (rw c.in_default.is at c.decode_slice_unchecked.ensures.err) fits is

pub decode_slice_unchecked-requires : goal.decode_slice_unchecked-requires
decode_slice_unchecked-requires c =
    let same = c.if-characters-div_ceil.false ∙ (c.div_ceil.ensures ∙ div_ceil-characters (length c.args.bytes.now)) in
    let few : length c.args.characters.now ≤ 43 = omega arith in
    omega arith

pub slice_bounds-copy_from_slice-end : goal.slice_bounds-copy_from_slice-end
slice_bounds-copy_from_slice-end c = omega (arith, length-take c.in-Ok.len c.decode_slice_unchecked.new.output)

pub copy_from_slice-requires : goal.copy_from_slice-requires
copy_from_slice-requires c = omega (arith, length-take c.in-Ok.len c.decode_slice_unchecked.new.output)
