use Rattle.std.proofs.lemmas.Grind.{common_steps}
use Rattle.std.proofs.Common.{arith}
use Rattle.std.proofs.lemmas.Bool.{OnTrue_from}
use Rattle.std.proofs.lemmas.List.{take_at}
use Rattle.age_cipher.specs.{tag}
use Rattle.age_cipher.proofs.SealingLemmas.{sealed_by_tag, opens_exactly}
use Rattle.age_cipher.proofs.aead.open_in_place.Goals as goal

pub returns-then-same-clause-exact : goal.returns-then-same-clause-exact
returns-then-same-clause-exact c =
    let split = c.split_at_mut-cipher.ensures in opens_exactly _ _ _ _ _ _ _ _ c.is_tag-same.ensures c.tag.ensures split.front split.back

pub returns-then-same-clause-text : goal.returns-then-same-clause-text
returns-then-same-clause-text c = grind (arith, common_steps, OnTrue_from, sealed_by_tag, take_at)

pub returns-else-same-clause-exact : goal.returns-else-same-clause-exact
returns-else-same-clause-exact c =
    let split = c.split_at_mut-cipher.ensures in opens_exactly _ _ _ _ _ _ _ _ c.is_tag-same.ensures c.tag.ensures split.front split.back
