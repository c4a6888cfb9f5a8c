-- What only private code cites, here of how a text is changed place by place.
use Rattle.std.specs.Prelude.{◌≡◌, ℕ, ◌/◌, ◌%◌, ◌<◌, List, length, bit_xor, slice_index}
use Rattle.std.specs.Int.{byte_at}
pub mod Absorbing
pub mod Limbs
unfoldable pub use Absorbing.*
unfoldable pub use Limbs.*

-- byte j of some words, each with its lowest byte first
abbrev pub word_byte : List ℕ → ℕ → ℕ
word_byte words j = byte_at (j % 4) (slice_index words (j / 4))

-- each byte of a text was changed by a stream's byte at its place
pub record IsXored (stream : ℕ → ℕ) (old new : List ℕ) : Type 0 where
  pub len : length new ≡ length old
  pub at : (j : ℕ) → j < length old → slice_index new j ≡ bit_xor (slice_index old j) (stream j)
