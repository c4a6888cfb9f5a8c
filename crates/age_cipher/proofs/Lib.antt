pub mod Poly1305Lemmas
pub mod KeystreamLemmas
pub mod SealingLemmas
unfoldable pub use Poly1305Lemmas.*
unfoldable pub use KeystreamLemmas.*
unfoldable pub use SealingLemmas.*
