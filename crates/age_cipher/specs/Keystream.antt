-- The keystream of ChaCha20 (RFC 8439, 2.3 and 2.4), byte by byte.
--
-- RFC 8439 ends a block's initial state with a 32-bit counter and the three words of the nonce. The
-- generator reads the same four words as a counter of 64 bits and a stream number of 64 bits. So
-- the nonce's first word is the high half of its counter, and the other two are its stream.
use Rattle.std.specs.Prelude.{◌≡◌, ℕ, ◌+◌, ◌*◌, ◌/◌, ◌%◌, ◌^◌, ◌<◌, List, [], ◌∷◌, length, map, bit_xor}
use Rattle.std.specs.Prelude.{slice_index}
use Rattle.std.specs.List.{range_with_len}
use Rattle.std.specs.Int.{byte_at}
use Rattle.rand_chacha.specs.ChaCha.{word_at, key_of}
use Rattle.rand_chacha.specs.Block.{add32, double_rounds}
use Rattle.rand_core.specs.Steps.{u32_at}

-- ---- The keystream, and what it makes of a text.

-- the generator's stream number of a nonce: its last two words
abbrev pub stream_number : List ℕ → ℕ
stream_number nonce = u32_at nonce 1 + u32_at nonce 2 * 2 ^ 32

-- the place in the generator's stream of the first word of block `counter`; a block has 16 words
abbrev pub block_place : List ℕ → ℕ → ℕ
block_place nonce counter = 16 * (counter + u32_at nonce 0 * 2 ^ 32)

-- byte j of the keystream from block `counter` on: the words after ten double rounds, each with its
-- lowest byte first
unfoldable pub keystream_byte : List ℕ → List ℕ → ℕ → ℕ → ℕ
keystream_byte key nonce counter j =
    byte_at (j % 4)
    (word_at 10 (key_of key) (stream_number nonce) (block_place nonce counter + j / 4))

-- the ciphertext of a text (RFC 8439, 2.4): each byte XOR the keystream's byte at its place
unfoldable pub ciphertext : List ℕ → List ℕ → ℕ → List ℕ → List ℕ
ciphertext key nonce counter text =
    map (λ j. bit_xor (slice_index text j) (keystream_byte key nonce counter j))
    (range_with_len 0 (length text))

-- ---- The blocks of RFC 8439 (2.3), and the law that the keystream is these.

-- the state that a block begins with: four constants, the eight words of the key, the block
-- counter, and the three words of the nonce (RFC 8439, 2.3)
abbrev pub state : List ℕ → ℕ → List ℕ → List ℕ
state key counter nonce =
    0x61707865 ∷ 0x3320646e ∷ 0x79622d32 ∷ 0x6b206574
    ∷ u32_at key 0 ∷ u32_at key 1 ∷ u32_at key 2 ∷ u32_at key 3
    ∷ u32_at key 4 ∷ u32_at key 5 ∷ u32_at key 6 ∷ u32_at key 7
    ∷ counter ∷ u32_at nonce 0 ∷ u32_at nonce 1 ∷ u32_at nonce 2 ∷ []

-- word k of a block: the state's word after ten double rounds, plus its word before them
abbrev pub state_word : List ℕ → ℕ → ℕ
state_word x k = add32 (slice_index (double_rounds 10 x) k) (slice_index x k)

-- byte m of a block, whose words are written with their lowest byte first
abbrev pub block_byte : List ℕ → ℕ → List ℕ → ℕ → ℕ
block_byte key counter nonce m = byte_at (m % 4) (state_word (state key counter nonce) (m / 4))

-- the keystream from block `counter` on is the blocks of RFC 8439 one after the other: byte j is
-- byte j % 64 of the block j / 64 blocks on, while the block counter has 32 bits
abbrev pub KeystreamIsBlocks : Type 0
KeystreamIsBlocks = (key nonce : List ℕ) (counter j : ℕ)
    → ((k : ℕ) → slice_index nonce k < 256) → counter + j / 64 < 2 ^ 32
    → keystream_byte key nonce counter j ≡ block_byte key (counter + j / 64) nonce (j % 64)
