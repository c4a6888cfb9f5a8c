use Rattle.std.proofs.Common.{◌≡◌, List, ℕ, ap, ap₂, ◌++◌, ◌∙◌, length, refl}
use Rattle.std.specs.Prelude.{codes}
use Rattle.age_scrypt.specs.{scrypt}
use Rattle.age_keys.specs.{wrap_key}
use Rattle.age_keys.proofs.{over_the_end}
use Rattle.age_keys.proofs.scrypt.wrap_key.Goals as goal

pub returns-in-Ok-clause-key : goal.returns-in-Ok-clause-key
unfolding wrap_key
returns-in-Ok-clause-key c =
    let label : c.copy_from_slice.new.self ≡ codes "age-encryption.org/v1/scrypt" = c.copy_from_slice.ensures.after in
    c.in-Ok.ensures.key ∙ ap (λ (s : List ℕ). scrypt c.args.pass.now s c.args.log)
    (over_the_end 28 16 _ _ c.copy_from_slice-2.new.self (ap length label) refl
    ∙ ap₂ (λ (a s : List ℕ). a ++ s) label c.copy_from_slice-2.ensures.after)
