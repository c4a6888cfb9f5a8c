use Rattle.age_keys.proofs.{opens_alone}
use Rattle.age_keys.proofs.laws.passphrase_opens.Goals as goal

pub returns : goal.returns
returns c = opens_alone
