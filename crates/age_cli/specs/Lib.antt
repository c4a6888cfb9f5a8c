pub mod Printing
pub mod Runs
pub mod inner
unfoldable pub use Printing.*
unfoldable pub use Runs.*
