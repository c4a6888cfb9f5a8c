pub mod Outputs
pub mod Targets
pub mod inner
pub use Outputs.{HasNode, OutputView, Stays, as_sink}
unfoldable pub use Targets.*
