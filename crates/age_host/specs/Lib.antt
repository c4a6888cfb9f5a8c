pub mod Files
pub mod Laws
pub use Files.{HasAll, IsApart}
unfoldable pub use Laws.*
