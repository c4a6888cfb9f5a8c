pub mod Poly1305
pub mod Keystream
pub mod Aead
pub mod inner
pub use Poly1305.{block, block_count, block_number, block_sum, prime}
unfoldable pub use Poly1305.{addend, little_endian, multiplier, poly1305, polynomial, tag_number}
pub use Keystream.{KeystreamIsBlocks, block_byte, block_place, state, state_word, stream_number}
unfoldable pub use Keystream.{ciphertext, keystream_byte}
pub use Aead.{DistinctSealings, IsSealing, OpensSealings, block_limit}
unfoldable pub use Aead.{mac_data, one_time_key, opening, padding, sealing, tag}
