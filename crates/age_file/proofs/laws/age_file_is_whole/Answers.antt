use Rattle.age_file.proofs.ThereAndBackLemmas.{whole}
use Rattle.age_file.proofs.laws.age_file_is_whole.Goals as goal

pub returns : goal.returns
returns c = whole c.passphrase_opens.ensures
