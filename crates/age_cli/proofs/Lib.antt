pub mod ObeyLemmas
pub mod RunLemmas
pub mod WordLemmas
unfoldable pub use ObeyLemmas.*
pub use RunLemmas.{runs}
