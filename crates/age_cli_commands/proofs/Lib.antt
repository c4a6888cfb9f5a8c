pub mod DecryptionLemmas
pub mod DoneLemmas
pub mod EndingLemmas
pub mod EngineLemmas
pub mod FinalLemmas
pub mod LeftLemmas
pub mod OpeningLemmas
pub mod PutLemmas
pub mod ReadLemmas
unfoldable pub use DecryptionLemmas.*
unfoldable pub use EndingLemmas.*
unfoldable pub use EngineLemmas.*
unfoldable pub use FinalLemmas.*
unfoldable pub use OpeningLemmas.*
unfoldable pub use PutLemmas.*
unfoldable pub use ReadLemmas.*
pub use Rattle.age_cli_common.proofs.FileLemmas.{came_did, did_came}
