use Rattle.age_file_encrypt.proofs.SealLemmas.{after_fails}
use Rattle.age_file_encrypt.proofs.encryption.encrypt.Goals as goal

pub returns-clause-fails : goal.returns-clause-fails
returns-clause-fails g c = after_fails _ _ _ c.encrypt_after.result (c.encrypt_after.ensures.fails _ c.in_ok-front.ensures.front)
