use Rattle.std.proofs.Common.{refl, arith}
use Rattle.std.specs.Prelude.{replicate}
use Rattle.age_stanza.proofs.{bytes_from_pass}
use Rattle.age_keys.proofs.{scrypt_has_text}
use Rattle.age_keys.proofs.scrypt.build_header.Goals as goal

pub returns-clause-text : goal.returns-clause-text
returns-clause-text c =
    rw (c.in_ok-push.ensures.ok, c.new-stanzas.ensures, c.in_ok-scrypt_stanza.ensures)
    (scrypt_has_text c.args.salt.now c.args.body.now (replicate 32 0) c.args.log c.told-salt (λ i. omega (arith, c.fits-salt i)) c.told-body
    (λ i. omega (arith, c.fits-body i)) c.requires refl (bytes_from_pass (replicate 32 0) refl))
