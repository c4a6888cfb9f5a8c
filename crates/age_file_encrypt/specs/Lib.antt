pub mod Encrypts
pub mod inner
pub use Encrypts.{AgeFile, EncryptsFront, IsFrontOf, SecretView}
