use Rattle.std.proofs.lemmas.Grind.{common_steps}
use Rattle.std.proofs.Common.{arith}
use Rattle.std.proofs.lemmas.Bool.{cases_lt}
use Rattle.std.proofs.lemmas.List.{take_all}
use Rattle.age_kdf.specs.{pbkdf2_once}
use Rattle.age_kdf.proofs.{joined, length-joined, length-pbkdf2_block, joined_more, chunk_written}
use Rattle.age_kdf.proofs.pbkdf2_once.Goals as goal

pub loop-i-preserved : goal.loop-i-preserved
loop-i-preserved c =
    grind (arith, common_steps, cases_lt, chunk_written, joined, joined_more, length-joined, length-pbkdf2_block, take_all)

pub returns : goal.returns
unfolding pbkdf2_once
returns c = grind (arith, common_steps)
