use Rattle.std.proofs.Common.{List, ℕ, ap, ◌∙◌, arith}
use Rattle.age_keys.specs.{header_mac}
use Rattle.age_c.proofs.{key_front_size, mac_made, with_mac}
use Rattle.age_c.proofs.seal_key.key_front.Goals as goal

pub encode_front-requires : goal.encode_front-requires
encode_front-requires c =
    (with_mac c.args.lines.now c.in-Ok-compute_mac.mac c.in-Ok.header c.in-Ok.ensures.header (omega arith) c.in-Ok-compute_mac.ensures.bytes).text

pub returns-in-Ok-encode_front-clause-front : goal.returns-in-Ok-encode_front-clause-front
returns-in-Ok-encode_front-clause-front c =
    let h = c.in-Ok.header in
    let mac = c.in-Ok-compute_mac.mac in
    record {
      header = record { stanzas = h.stanzas; mac = mac };
      has = with_mac c.args.lines.now mac h c.in-Ok.ensures.header (omega arith) c.in-Ok-compute_mac.ensures.bytes;
      alone = c.in-Ok.ensures.alone;
      mac = mac_made c.args.key.now mac h (c.in-Ok-compute_mac.ensures.mac ∙ ap (λ (k : List ℕ). header_mac k h) c.new.ensures);
      front = c.in-Ok-encode_front.ensures.front;
    }

pub returns-in-Ok-encode_front-clause-size : goal.returns-in-Ok-encode_front-clause-size
returns-in-Ok-encode_front-clause-size c =
    key_front_size c.args.lines.now c.args.nonce.now c.in-Ok-encode_front.front.items _
    (with_mac c.args.lines.now c.in-Ok-compute_mac.mac c.in-Ok.header c.in-Ok.ensures.header (omega arith) c.in-Ok-compute_mac.ensures.bytes)
    c.in-Ok-encode_front.ensures.front
