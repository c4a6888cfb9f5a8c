use Rattle.std.proofs.Common.{◌∙◌, sym}
use Rattle.std.proofs.lemmas.Slice.Eq.{bytes_eq-Decides}
use Rattle.age_vectors.proofs.kdf.rfc_scrypt.Goals as goal

pub returns-in-Ok : goal.returns-in-Ok
returns-in-Ok c = λ yes. sym c.in-Ok.ensures.key ∙ (bytes_eq-Decides c.in-Ok.key _).0 (sym c.eq.ensures ∙ yes)
