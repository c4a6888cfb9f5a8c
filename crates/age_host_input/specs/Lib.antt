pub mod Inputs
pub mod inner
pub use Inputs.{InputView, IsFresh, as_source}
