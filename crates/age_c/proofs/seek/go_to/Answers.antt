use Rattle.std.proofs.Common.{refl}
use Rattle.age_c.proofs.{at_fresh}
use Rattle.age_c.proofs.seek.go_to.Goals as goal

pub returns : goal.returns
returns c = record { at = at_fresh _ refl; unrefused = refl; same = record { file_key = refl; nonce = refl; payload_at = refl } }
