use Rattle.std.proofs.Common.{◌∙◌, ◌∷◌, [], sym, ap, arith, length}
use Rattle.std.specs.Prelude.{codes}
use Rattle.age_keys.proofs.{two_arguments}
use Rattle.age_keys.proofs.x25519.X25519Stanza.read.Goals as goal

pub returns-clause-read : goal.returns-clause-read
returns-clause-read c =
    let slice = c.as_slice.ensures in
    let two =
    two_arguments (codes "X25519") c.share-item.result c.args.stanza.now.args (sym c.is_x25519.ensures ∙ c.if-not-is_x25519.false)
    (rw slice at c.in-len2.len_at_least) (rw slice at c.in-len2.len_below) (rw slice at c.share-item.is) in
    record {
      args = two ∙ ap (λ t. codes "X25519" ∷ t ∷ []) (sym c.as_slice-2.ensures ∙ c.if-not-read_base64.ensures.read);
      body_is = sym (c.in-Some.ensures.cases.same ∙ c.as_slice-3.ensures);
      share_bytes = c.read_base64.ensures.bytes;
      share_length = omega arith;
      body_length = ap length c.in-Some.ensures.cases.same ∙ c.in-Some.ensures.cases.long;
    }
