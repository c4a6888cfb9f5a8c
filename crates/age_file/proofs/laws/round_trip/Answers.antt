use Rattle.age_file.proofs.ThereAndBackLemmas.{there_and_back}
use Rattle.age_file.proofs.laws.round_trip.Goals as goal

pub returns : goal.returns
returns c = there_and_back c.one_header.ensures c.passphrase_opens.ensures
