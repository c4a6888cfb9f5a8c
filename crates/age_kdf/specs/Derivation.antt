-- The derivation of keys from others: HMAC, HKDF and PBKDF2, all with SHA-256.
use Rattle.std.specs.Prelude.{ℕ, ◌-◌, List, ◌++◌, length, map, replicate, bit_xor, nat_le, if◌then◌else◌, []}
use Rattle.std.specs.Prelude.{◌∷◌, take}
use Rattle.std.specs.List.{range_with_len, flat_map}
use Rattle.std.specs.Int.{w32, to_be_bytes, div_ceil}
use Rattle.sha2.specs.Sha256.{sha256}

-- ---- HMAC-SHA-256 (RFC 2104, section 2), on lists of bytes. A block of SHA-256 has 64 bytes.

-- a key followed by zeros up to a block
unfoldable pub key_with_zeros : List ℕ → List ℕ
key_with_zeros key = key ++ replicate (64 - length key) 0

-- K: the key as a block; a key longer than a block is replaced by its digest first
unfoldable pub key_block : List ℕ → List ℕ
key_block key = key_with_zeros (if nat_le (length key) 64 then key else sha256 key)

-- K XOR a pad, which repeats one byte over the block
unfoldable pub xor_pad : ℕ → List ℕ → List ℕ
xor_pad pad block = map (λ byte. bit_xor byte pad) block

-- H(K XOR opad, H(K XOR ipad, text)), where ipad repeats 0x36 and opad 0x5c
unfoldable pub hmac : List ℕ → List ℕ → List ℕ
hmac key text =
    sha256 (xor_pad 0x5c (key_block key) ++ sha256 (xor_pad 0x36 (key_block key) ++ text))

-- ---- HKDF-SHA-256 (RFC 5869) with an output of 32 bytes, which is the first block of its expand
-- step.

-- the salt: if none is given, as many zeros as a digest has bytes (section 2.2)
abbrev pub salt_or_zeros : List ℕ → List ℕ
salt_or_zeros [] = replicate 32 0
salt_or_zeros (b ∷ bs) = b ∷ bs

-- PRK = HMAC(salt, IKM) (section 2.2)
unfoldable pub extracted_key : List ℕ → List ℕ → List ℕ
extracted_key salt ikm = hmac (salt_or_zeros salt) ikm

-- T(1) = HMAC(PRK, info | 0x01) (section 2.3)
unfoldable pub expanded_key : List ℕ → List ℕ → List ℕ
expanded_key prk info = hmac prk (info ++ 1 ∷ [])

-- the first 32 bytes of the output
unfoldable pub hkdf32 : List ℕ → List ℕ → List ℕ → List ℕ
hkdf32 ikm salt info = expanded_key (extracted_key salt ikm) info

-- ---- PBKDF2-HMAC-SHA-256 with an iteration count of 1 (RFC 8018, section 5.2), on lists of bytes.

-- T_i = U_1 = PRF(P, S || INT(i)): the block of number i, from 1, of 32 bytes
unfoldable pub pbkdf2_block : List ℕ → List ℕ → ℕ → List ℕ
pbkdf2_block pass salt i = hmac pass (salt ++ to_be_bytes w32 i)

-- the greatest length of a key in bytes (a limit of this library; RFC 8018 allows far more)
abbrev pub derived_key_limit : ℕ
derived_key_limit = 65536

-- DK: the first n bytes of T_1 || T_2 || .. || T_l, where l is n / 32, rounded up
unfoldable pub pbkdf2_once : List ℕ → List ℕ → ℕ → List ℕ
pbkdf2_once pass salt n =
    take n (flat_map (pbkdf2_block pass salt) (range_with_len 1 (div_ceil n 32)))
