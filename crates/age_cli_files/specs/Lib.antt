pub mod FileSet
pub mod Notes
pub mod inner
pub use FileSet.{Absent, NotedSince, Does, Entry, FilesView, Found, Gave, HasGiven, HasGivenAll}
pub use FileSet.{IsMemoryOr, OpenFails, Outcome, Present, Put, PutsOnly, Reading, Settled}
pub use FileSet.{created_as, entry, looked_as, made_as, opened_as, put_as, reading_of}
pub use FileSet.{with_outcomes}
unfoldable pub use FileSet.{puts_in}
