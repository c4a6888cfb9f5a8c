use Rattle.std.proofs.lemmas.Grind.{common_steps}
use Rattle.std.proofs.Common.{arith}
use Rattle.base64.specs.GeneralPurpose.{IsBytes}
use Rattle.age_file_position.proofs.PositionTextLemmas.{digest_read, digest_short, digest_none}
use Rattle.age_file_position.proofs.position_text.parse_digest.Goals as goal

pub returns-in-Ok-clause-some : goal.returns-in-Ok-clause-some
returns-in-Ok-clause-some c =
    let fits : IsBytes c.args.field.now = λ i. omega (arith, c.type_inv.field i) in
    digest_read c.args.field.now fits c.copy_from_slice.new.self c.decode_slice_unchecked.new.output c.in-Ok.len (omega (arith, c.requires))
    c.if-field-ne32.false c.copy_from_slice.ensures.after c.in-Ok.ensures.ok.0

pub returns-in_default-clause-none : goal.returns-in_default-clause-none
returns-in_default-clause-none c = grind (arith, common_steps, digest_short)

pub returns-in_default-2-clause-none : goal.returns-in_default-2-clause-none
returns-in_default-2-clause-none c = λ bytes digest e. digest_none c.args.field.now bytes c.in_default.field-0
    (rw c.in_default.is at c.decode_slice_unchecked.ensures.err) digest e
