use Rattle.std.proofs.lemmas.Grind.{common_steps}
use Rattle.std.proofs.Common.{arith}
use Rattle.std.proofs.lemmas.List.{length-append}
use Rattle.age_io.proofs.{Consumes-nil, Consumes-kept, Consumes-trans}
use Rattle.age_file_input.proofs.buffer.InputBuffer.refill.Goals as goal

pub returns-in-Err-clause-refills : goal.returns-in-Err-clause-refills
returns-in-Err-clause-refills g c = grind (arith, common_steps, Consumes-kept, Consumes-nil, Consumes-trans, length-append)
