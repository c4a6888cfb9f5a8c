pub mod InMemory
pub mod Runs
pub use InMemory.{AreTrue, Files, Fits, MemFails, PutsEntry, Shelf, empty_with, ended_with, entry_of, full_with}
pub use InMemory.{has_name, held_by, no_files, once, seen_in, shown_in, shown_out, size_in}
unfoldable pub use InMemory.{AllFit, stands}
unfoldable pub use Runs.*
pub use Rattle.age_cli_memory.specs.declared.entry.MemEntry.{MemEntry}
