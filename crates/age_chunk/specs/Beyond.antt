-- The extension of a box that meets its law only on bytes, such as one made of tables, to all lists
-- of numbers, so that it meets the law on them too.
use Rattle.std.specs.Prelude.{◌≡◌, ℕ, ◌+◌, List, ◌++◌, length, take, replicate, Some}
use Rattle.std.specs.Prelude.{None, nat_lt, nat_le, ◌&&◌, Bool, true, not, if◌then◌else◌}
use Rattle.std.specs.List.{list_all}
use Rattle.std.specs.Str.{bytes_eq}
use Rattle.age_chunk.specs.ChunkBoxes.{Seals, OpensBlock, IsChunkBox, tag_length, text_length}
use Rattle.age_chunk.specs.Payload.{chunk_length, block_length}

-- all numbers of a list are bytes
abbrev pub are_bytes : List ℕ → Bool
are_bytes = list_all (λ (b : ℕ). nat_lt b 256)

-- a nonce of bytes, and the plaintext of a chunk
abbrev pub is_text : List ℕ → List ℕ → Bool
is_text nonce text =
    are_bytes nonce && (are_bytes text && nat_le (length text) chunk_length)

-- a nonce of bytes, and a block
abbrev pub is_block : List ℕ → List ℕ → Bool
is_block nonce block =
    are_bytes nonce
    && (are_bytes block && (nat_le tag_length (length block) && nat_le (length block) block_length))

-- the law of a box, for inputs of bytes alone
pub record IsChunkBoxOnBytes (sealing : Seals) (opening : OpensBlock) : Type 0 where
  pub bytes : (nonce text : List ℕ) → length nonce ≡ 12 → is_text nonce text ≡ true
      → are_bytes (sealing nonce text) ≡ true
  pub longer : (nonce text : List ℕ) → length nonce ≡ 12 → is_text nonce text ≡ true
      → length (sealing nonce text) ≡ length text + tag_length
  pub opens : (nonce text : List ℕ) → length nonce ≡ 12 → is_text nonce text ≡ true
      → opening nonce (sealing nonce text) ≡ Some text
  pub only : (nonce text block : List ℕ) → length nonce ≡ 12 → is_block nonce block ≡ true
      → opening nonce block ≡ Some text
      → (is_text nonce text ≡ true) × (sealing nonce text ≡ block)

-- a list as long as a tag, of numbers that are no bytes
abbrev pub no_tag : List ℕ
no_tag = replicate tag_length 256

-- the extended sealing: a plaintext of bytes at a nonce of bytes is sealed as before, and to
-- anything else `no_tag` is appended
abbrev pub sealing_beyond : Seals → Seals
sealing_beyond sealing nonce text =
    if is_text nonce text then sealing nonce text else text ++ no_tag

-- the extended opening: a block of bytes opens as before, and any other list if it is a text with
-- `no_tag` appended
abbrev pub opening_beyond : OpensBlock → OpensBlock
opening_beyond opening nonce block =
    let front = take (text_length (length block)) block in
    let is_sealed = not (is_text nonce front) && bytes_eq (front ++ no_tag) block in
    if is_block nonce block then opening nonce block
    else (if is_sealed then Some front else None)

-- the extension of a box that meets the law on bytes meets it on all lists
abbrev pub BytesSuffice : Type 0
BytesSuffice = (sealing : Seals) (opening : OpensBlock) → IsChunkBoxOnBytes sealing opening
    → IsChunkBox (sealing_beyond sealing) (opening_beyond opening)
