-- The AEAD of ChaCha20 and Poly1305 (RFC 8439, 2.8): the block that a plaintext seals to, and the
-- plaintext that a block opens to.
use Rattle.std.specs.Prelude.{◌≡◌, ◌↔◌, ℕ, ◌-◌, ◌%◌, List, [], ◌∷◌, ◌++◌, length, replicate, take}
use Rattle.std.specs.Prelude.{Option, Some, None, if◌then◌else◌}
use Rattle.std.specs.List.{concat}
use Rattle.std.specs.Int.{w64, to_le_bytes}
use Rattle.std.specs.Str.{bytes_eq}
use Rattle.age_cipher.specs.Keystream.{ciphertext}
use Rattle.age_cipher.specs.Poly1305.{poly1305}

-- ---- The sealing of a plaintext.

-- the one-time key of Poly1305: the first 32 bytes of block 0 (RFC 8439, 2.6)
unfoldable pub one_time_key : List ℕ → List ℕ → List ℕ
one_time_key key nonce = ciphertext key nonce 0 (replicate 32 0)

-- the zeros up to a multiple of 16 bytes
unfoldable pub padding : List ℕ → List ℕ
padding m = replicate ((16 - length m % 16) % 16) 0

-- mac_data (RFC 8439, 2.8): aad | pad16(aad) | ciphertext | pad16(ciphertext) | both lengths, each
-- as 8 bytes, the lowest first
unfoldable pub mac_data : List ℕ → List ℕ → List ℕ
mac_data aad cipher = concat (
    aad ∷ padding aad ∷ cipher ∷ padding cipher
    ∷ to_le_bytes w64 (length aad) ∷ to_le_bytes w64 (length cipher) ∷ [])

-- the tag of associated data and a ciphertext (RFC 8439, 2.8)
unfoldable pub tag : List ℕ → List ℕ → List ℕ → List ℕ → List ℕ
tag key nonce aad cipher = poly1305 (one_time_key key nonce) (mac_data aad cipher)

-- the greatest length of a block, a plaintext with its tag (a limit of this library: no block of an
-- age file is longer; RFC 8439 allows far more)
abbrev pub block_limit : ℕ
block_limit = 65552

-- the sealing of a plaintext: the ciphertext, from block 1 on, and its tag
unfoldable pub sealing : List ℕ → List ℕ → List ℕ → List ℕ → List ℕ
sealing key nonce aad text =
    let cipher = ciphertext key nonce 1 text in
    cipher ++ tag key nonce aad cipher

-- some plaintext seals to this block
abbrev pub IsSealing : List ℕ → List ℕ → List ℕ → List ℕ → Type 0
IsSealing key nonce aad block = (text : List ℕ) × (block ≡ sealing key nonce aad text)

-- different plaintexts seal to different blocks: a block is the sealing of at most one plaintext
abbrev pub DistinctSealings : Type 0
DistinctSealings =
    (key nonce aad text other : List ℕ)
    → sealing key nonce aad text ≡ sealing key nonce aad other → text ≡ other

-- ---- The opening of a block, computed. The definition of opening is the sealing alone: a block
-- opens to a plaintext if it is that plaintext's sealing. The law `OpensSealings` says that this
-- computes it. It is for crates above, whose boxes may use it.

-- the plaintext of a block, if it has one: all but the last 16 bytes is decrypted and sealed again,
-- and the block compared with that
unfoldable pub opening : List ℕ → List ℕ → List ℕ → List ℕ → Option (List ℕ)
opening key nonce aad block =
    let text = ciphertext key nonce 1 (take (length block - 16) block) in
    if bytes_eq (sealing key nonce aad text) block then Some text else None

-- a block opens to a plaintext exactly if it is that plaintext's sealing
abbrev pub OpensSealings : Type 0
OpensSealings = (key nonce aad block text : List ℕ)
    → (opening key nonce aad block ≡ Some text) ↔ (block ≡ sealing key nonce aad text)
