use Rattle.std.proofs.Common.{rules}
use Rattle.age_cli_memory.proofs.{kept_then}
use Rattle.age_cli_memory.proofs.files.MemFiles.put_noted.Goals as goal

pub invariant_of-self-2 : goal.invariant_of-self-2
invariant_of-self-2 c = kept_then _ _ _ _ c.args.name c.args.bytes c.note-3.ensures (search rules) (search rules) (rw c.in_ok-put_entry.was at c.put_entry.ensures.puts) c.self.invariant
