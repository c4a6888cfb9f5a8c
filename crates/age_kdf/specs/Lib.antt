pub mod Derivation
pub use Derivation.{derived_key_limit}
unfoldable pub use Derivation.{expanded_key, extracted_key, hkdf32, hmac, key_block, key_with_zeros}
unfoldable pub use Derivation.{pbkdf2_block, pbkdf2_once, xor_pad}
