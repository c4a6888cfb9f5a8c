pub mod OverwriteState
pub mod inner
unfoldable pub use OverwriteState.*
