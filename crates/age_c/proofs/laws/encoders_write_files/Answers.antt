use Rattle.age_c.proofs.EncoderLemmas.{encoders_write_files}
use Rattle.age_c.proofs.laws.encoders_write_files.Goals as goal

pub returns : goal.returns
returns c = encoders_write_files
