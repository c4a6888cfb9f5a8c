use Rattle.std.proofs.Common.{rules, arith}
use Rattle.std.proofs.lemmas.Grind.{common_steps}
use Rattle.age_cli_files.proofs.{does_only, gave_puts}
use Rattle.age_cli_memory.proofs.files.MemFilesFileSet.TheImpl.Goals as goal

pub check_streams-tells : goal.check_streams-tells
check_streams-tells g x c = record { same = search rules; faults = grind (arith, common_steps) }

pub open-tells : goal.open-tells
open-tells g x c = record { noted = search rules; begun = grind (arith, common_steps); named = grind (arith, common_steps); faults = grind (arith, common_steps) }

pub close_input-tells : goal.close_input-tells
close_input-tells g x c = record { over = grind (arith, common_steps); does = grind (arith, common_steps, does_only, gave_puts) }

pub create-tells : goal.create-tells
create-tells g x c = record { noted = search rules; begun = grind (arith, common_steps); named = grind (arith, common_steps); faults = grind (arith, common_steps) }

pub prepare-tells : goal.prepare-tells
prepare-tells g x c = record { same = search rules; faults = grind (arith, common_steps) }

pub check_absent-tells : goal.check_absent-tells
check_absent-tells g x c = record { same = search rules; faults = grind (arith, common_steps) }

pub durable_len-tells : goal.durable_len-tells
durable_len-tells g x c = record { noted = search rules; same = search rules; most = grind (arith, common_steps) }

pub known_durable_len-tells : goal.known_durable_len-tells
known_durable_len-tells g x c = record { noted = search rules; most = grind (arith, common_steps) }

pub close-tells : goal.close-tells
close-tells g x c = record { noted = grind (arith, common_steps); closed = grind (arith, common_steps); faults = search rules }

pub discard-tells : goal.discard-tells
discard-tells g x c = record { noted = grind (arith, common_steps); discarded = grind (arith, common_steps) }

pub replace-tells : goal.replace-tells
replace-tells g x c = record { noted = grind (arith, common_steps); faults = search rules }
