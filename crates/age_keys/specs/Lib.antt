pub mod Keys
pub mod Scrypt
pub mod X25519
pub mod inner
pub use Keys.{AllowsAlone, Counts, FileOf, IsMacOf, IsScryptNotAlone, Opens, Refuses, RefusesKey, SpellsKey}
pub use Keys.{box, has_scrypt, has_type, is_scrypt, scrypt_not_alone, unbox}
unfoldable pub use Keys.{header_mac, payload_key, position_key, wrapped_key}
pub use Scrypt.{IsAllowed, IsPassphraseKey, IsScryptStanza, IsWorkFactor, OnlyScrypt, PassphraseIdentity}
pub use Scrypt.{PassphraseOpens, PassphraseRefuses, passphrase_steps}
unfoldable pub use Scrypt.{scrypt_head, scrypt_stanza, wrap_key}
pub use X25519.{IsBadStanza, IsFirstKey, IsSharedKey, IsX25519Stanza, OpensTo, ReadRefuses, Shared}
pub use X25519.{SharedRefuses, StaysShut, is_x25519}
unfoldable pub use X25519.{shared_wrap_key}
pub use Rattle.age_fault.specs.KeyFaults.{is_before_work, key_fault_number}
pub use Rattle.age_fault.specs.declared.key.KeyFault.{KeyFault}
pub use Rattle.age_fault.specs.declared.key.KeyFault.TheVariants.{BadScrypt, Memory, NoMatch}
pub use Rattle.age_fault.specs.declared.key.KeyFault.TheVariants.{ScryptNotAlone, WorkTooHigh, WrongKey}
