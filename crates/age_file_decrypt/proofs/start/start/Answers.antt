use Rattle.std.proofs.Common.{refl, rules}
use Rattle.age_file_input.proofs.ReadLemmas.{err_is}
use Rattle.age_file_decrypt.proofs.StartLemmas.{key_to_start, nonce_found, nonce_missed}
use Rattle.age_file_decrypt.proofs.start.start.Goals as goal

pub returns-in_err-key-clause-fails : goal.returns-in_err-key-clause-fails
returns-in_err-key-clause-fails g c =
    let p = err_is c.from_residual-in_err-key.result c.from_residual-in_err-key.ensures.1 in
    let head = c.in_ok-head.ensures.found in
    rw p (key_to_start (g.U.Unlock.allows c.args.unlock) (g.U.Unlock.refuses c.args.unlock) head c.in_err-key.field-0.0
    c.in_err-key.ensures.refused)

pub returns-in_err-nonce-clause-fails : goal.returns-in_err-nonce-clause-fails
returns-in_err-nonce-clause-fails g c =
    let p = err_is c.from_residual-in_err-nonce.result c.from_residual-in_err-nonce.ensures.1 in
    rw p (nonce_missed (g.U.Unlock.allows c.args.unlock) (g.U.Unlock.refuses c.args.unlock) c.in_ok-head.ensures.found
    c.in_ok-key.ensures.key c.in_err-nonce.field-0.0 c.in_err-nonce.ensures.fails)

pub returns-clause-found : goal.returns-clause-found
returns-clause-found g c =
    let head = c.in_ok-head.ensures.found in
    nonce_found (g.U.Unlock.allows c.args.unlock) (g.U.Unlock.refuses c.args.unlock) head c.in_ok-key.ensures.key _ refl (search rules)
    (c.file_id-id.ensures head.front head.hashed) c.in_ok-nonce.ensures.found
