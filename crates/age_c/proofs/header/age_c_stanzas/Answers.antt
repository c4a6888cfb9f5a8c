use Rattle.std.proofs.Common.{refl, ap, ◌∙◌, arith}
use Rattle.age_c.specs.{bodies_of}
use Rattle.age_c.specs.inner.{places_from}
use Rattle.age_c.proofs.{bodies_within, has_stanzas, stanzas_within}
use Rattle.age_c.proofs.header.age_c_stanzas.Goals as goal

pub put_bodies-requires : goal.put_bodies-requires
put_bodies-requires c =
    let slice = c.as_slice-stanzas.ensures in
    let stanzas = c.in-Ok.head.header.stanzas in
    let within = stanzas_within c.args.front.now c.in-Ok.head.header c.in-Ok.head.len c.in-Ok.ensures.head in
    let bodies = bodies_within stanzas in
    rw slice (omega (arith, within.1))

pub returns-clause-tells : goal.returns-clause-tells
returns-clause-tells c =
    let slice = c.as_slice-stanzas.ensures in
    let room = c.if-out-front.false in
    record {
      told = λ _. (
        c.in-Ok.head.header,
        c.in-Ok.head.len,
        c.in-Ok.ensures.head,
        has_stanzas c.args.front.now c.in-Ok.head.header c.in-Ok.head.len _ _ c.in-Ok.ensures.head
            (c.put_places.ensures.places ∙ ap (places_from 22 0) slice) (c.put_bodies.ensures.bodies ∙ ap bodies_of slice),
      );
      room_is = λ lt. absurd (omega (arith, room, lt));
      misused_is = λ e. absurd (omega (arith, e));
      refused = λ some _. absurd (some refl);
      nothing = λ some. absurd (some refl);
    }
