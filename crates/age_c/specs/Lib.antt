pub mod Calls
pub mod Readers
pub mod Writers
pub mod Streams
pub mod Places
pub mod Headers
pub mod Decoders
pub mod Encoders
pub mod Wraps
pub mod inner
unfoldable pub use Calls.*
unfoldable pub use Readers.*
unfoldable pub use Writers.*
unfoldable pub use Streams.*
unfoldable pub use Places.*
unfoldable pub use Headers.*
unfoldable pub use Decoders.*
unfoldable pub use Encoders.*
unfoldable pub use Wraps.*
pub use Rattle.age_c.specs.declared.reader.Reader.{Reader}
