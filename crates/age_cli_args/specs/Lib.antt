pub mod Commands
pub mod Requests
pub mod inner
unfoldable pub use Commands.*
pub use Requests.{Asks, IsDecrypting, IsDrilling, IsEncrypting, IsForHelp, IsIdentityOptions, IsNumber}
pub use Requests.{IsPaths, IsRequest, IsResuming, is_given, option_text}
unfoldable pub use Requests.{named, refusals}
