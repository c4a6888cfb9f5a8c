pub mod EntryLemmas
pub mod RunLemmas
pub mod ShelfLemmas
unfoldable pub use EntryLemmas.*
pub use RunLemmas.{leaves, reports, spares_asked, spares_done, spares_refused}
pub use ShelfLemmas.{kept_at_first, kept_created, kept_one, kept_then}
