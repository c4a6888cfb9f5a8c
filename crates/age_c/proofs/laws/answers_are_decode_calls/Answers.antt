use Rattle.age_c.proofs.DecoderLemmas.{answers_are_decode_calls}
use Rattle.age_c.proofs.laws.answers_are_decode_calls.Goals as goal

pub returns : goal.returns
returns c = answers_are_decode_calls
