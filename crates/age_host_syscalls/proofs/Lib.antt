pub mod OutLemmas
pub mod SaveLemmas
unfoldable pub use OutLemmas.*
unfoldable pub use SaveLemmas.*
