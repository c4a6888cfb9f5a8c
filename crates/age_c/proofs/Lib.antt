pub mod ReaderLemmas
pub mod CallLemmas
pub mod WriterLemmas
pub mod StreamLemmas
pub mod FrontLemmas
pub mod HeaderLemmas
pub mod UndamagedOpeningLemmas
pub mod DecoderLemmas
pub mod EncoderLemmas
pub mod OpeningLemmas
pub mod PieceLemmas
pub mod WrapLemmas
pub use Rattle.age_keys.proofs.PassphraseLemmas.{mac_holds}
unfoldable pub use ReaderLemmas.*
unfoldable pub use CallLemmas.*
unfoldable pub use StreamLemmas.*
unfoldable pub use FrontLemmas.*
unfoldable pub use HeaderLemmas.*
