pub mod Endings
pub mod Files
pub mod Identities
pub mod inner
pub use Endings.{is_usage}
pub use Files.{AreFirst, without_line_feed}
pub use Identities.{Chooses, HoldsBytes, IsIdentity, IsPassphraseIn, IsSecretGiven, IsSharedIn, Makes}
pub use Identities.{MakesBy, allows_by, file_of, random_name, refuses_by}
