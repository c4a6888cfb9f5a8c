-- The binding of a position to its file and to the plaintext before it. Not of the age format.
use Rattle.std.specs.Prelude.{ℕ, List, ◌++◌, codes, replicate, fold}
use Rattle.std.specs.Fmt.{decimal}
use Rattle.std.specs.Simd.{first_chunks}
use Rattle.sha2.specs.Sha256.{sha256}
use Rattle.age_stanza.specs.{base64_text}
use Rattle.age_kdf.specs.{hmac}
use Rattle.age_chunk.specs.{chunk_length}

-- ---- The hash chain over a plaintext.

-- one link of the hash chain: the digest of the link before it and the chunk
abbrev pub link : List ℕ → List ℕ → List ℕ
link so_far chunk = sha256 (so_far ++ chunk)

-- the hash chain over chunks, one link a chunk, from 32 zero bytes on
unfoldable pub chain : List (List ℕ) → List ℕ
chain chunks = fold link (replicate 32 0) chunks

-- the hash chain over this many chunks of a plaintext, the first ones
abbrev pub chain_over : ℕ → List ℕ → List ℕ
chain_over count text = chain (first_chunks chunk_length count text)

-- ---- The file, and the tag of a position.

-- the id of a file: the digest of its header's bytes and its payload nonce
unfoldable pub file_id : List ℕ → List ℕ → List ℕ
file_id front nonce = sha256 (front ++ nonce)

-- the text of a position up to its tag
unfoldable pub position_front : ℕ → List ℕ → List ℕ → List ℕ
position_front index id links = codes "age-position/v2 " ++ decimal index ++ codes " "
    ++ base64_text id ++ codes " " ++ base64_text links ++ codes " "

-- the tag of a position under a position key
unfoldable pub position_tag : List ℕ → ℕ → List ℕ → List ℕ → List ℕ
position_tag key index id links = hmac key (position_front index id links)
