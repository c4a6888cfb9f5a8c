use Rattle.age_keys.proofs.{if_none, shut}
use Rattle.age_keys.proofs.shared_secret.SharedSecret.key_in.Goals as goal

pub returns-in-Ok-clause-none : goal.returns-in-Ok-clause-none
returns-in-Ok-clause-none c =
    if_none c.unwrapped_key.result
    (λ none. shut c.args.self.now c.args.stanza.now c.in-Ok.read.share c.in-Ok.read.body c.in-Ok.ensures.read (rw c.wrap_key.ensures at none))
    c.unwrapped_key.ensures.none
