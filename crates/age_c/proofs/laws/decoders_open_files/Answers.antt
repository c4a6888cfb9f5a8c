use Rattle.age_c.proofs.OpeningLemmas.{decoders_open_files}
use Rattle.age_c.proofs.laws.decoders_open_files.Goals as goal

pub returns : goal.returns
returns c = decoders_open_files
