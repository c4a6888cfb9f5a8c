use Rattle.std.proofs.Common.{◌++◌, ◌∙◌, List, ℕ, refl, ap₂}
use Rattle.age_keys.proofs.{over_the_end}
use Rattle.age_c.proofs.wrap.hkdf_salt.Goals as goal

pub returns : goal.returns
returns c =
    over_the_end 32 32 _ _ c.copy_from_slice-2.new.self c.copy_from_slice.ensures.len refl
    ∙ ap₂ (λ (a s : List ℕ). a ++ s) c.copy_from_slice.ensures.after c.copy_from_slice-2.ensures.after
