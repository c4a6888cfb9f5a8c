pub mod Io
pub mod Supply
pub mod Taken
pub mod inner
pub use Io.{HasFailed, HasRisen, SinkView, SourceView, Writes, one_more}
pub use Supply.{Consumes, IsAtEnd, Keeps, ReadConsumes, Skips}
