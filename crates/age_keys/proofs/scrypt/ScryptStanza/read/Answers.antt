use Rattle.std.proofs.Common.{◌∷◌, ◌∙◌, [], List, ℕ, min, refl, sym, ap, arith, length}
use Rattle.std.specs.Prelude.{codes}
use Rattle.std.specs.Str.Parse.{digits_value}
use Rattle.age_keys.proofs.{three_arguments}
use Rattle.age_keys.proofs.scrypt.ScryptStanza.read.Goals as goal

pub returns-clause-read : goal.returns-clause-read
returns-clause-read c =
    let log : List ℕ = c.log-item.result in
    let slice = c.as_slice.ensures in
    let three =
    three_arguments (codes "scrypt") c.salt-item.result log c.args.stanza.now.args (sym c.is_scrypt.ensures ∙ c.if-not-is_scrypt.false)
    (rw slice at c.in-len3.len_at_least) (rw slice at c.in-len3.len_below) (rw slice at c.salt-item.is) (rw slice at c.log-item.is) in (
      digits_value 10 log,
      c.parse_decimal.ensures ∙ ap (λ (cs : List ℕ). min (digits_value 10 cs) 4294967295) c.as_slice-2.ensures,
      record {
        characters = log;
        args = three ∙ ap (λ (t : List ℕ). codes "scrypt" ∷ t ∷ log ∷ []) (sym c.as_slice-else-not-is_scrypt.ensures ∙ c.if-not-read_base64.ensures.read);
        body_is = sym (c.in_ok-as_array.ensures.cases.same ∙ c.as_slice-3.ensures);
        work_factor = rw (c.as_slice-else-not-read_base64.ensures) at (c.if-not-is_work_factor.ensures.0 refl);
        log_is = refl;
        salt_bytes = c.read_base64.ensures.bytes;
        salt_length = omega arith;
        body_length = ap length c.in_ok-as_array.ensures.cases.same ∙ c.in_ok-as_array.ensures.cases.long;
      },
    )
