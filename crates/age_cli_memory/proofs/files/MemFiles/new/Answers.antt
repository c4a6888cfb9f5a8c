use Rattle.age_cli_memory.proofs.{kept_at_first}
use Rattle.age_cli_memory.proofs.files.MemFiles.new.Goals as goal

pub invariant_of-result : goal.invariant_of-result
invariant_of-result c = rw (c.new.ensures.items, c.new-3.ensures) kept_at_first
