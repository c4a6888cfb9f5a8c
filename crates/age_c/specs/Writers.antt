-- A writer of a plaintext in pieces: how it begins a file, and what one call does.
use Rattle.std.specs.Prelude.{◌≡◌, ◌≢◌, ◌⊎◌, ℕ, ◌+◌, ◌*◌, ◌<◌, ◌≤◌, false, List, [], ◌++◌, length, take, drop}
use Rattle.std.specs.Prelude.{map, ◌-◌, ◌/◌}
use Rattle.std.specs.List.{enumerate_from, flat_map}
use Rattle.std.specs.Simd.{first_chunks}
use Rattle.age_stanza.specs.{HeadText, HasText, stanza_text}
use Rattle.age_stanza.specs.declared.header.Header.{Header}
use Rattle.age_chunk.specs.{chunk_limit, chunk_length, block_length, tag_length, chunk_count, pair}
use Rattle.age_chunk.specs.{block_bytes, payload}
use Rattle.age_keys.specs.{box, IsMacOf, IsScryptNotAlone, IsAllowed, scrypt_head}
use Rattle.age_c.specs.declared.writer.Writer.{Writer}
use Rattle.age_c.specs.declared.write_stream.WriteStream.{WriteStream}

-- ---- The state that a writer's numbers stand for.

-- the numbers stand for a writer that isn't finished, at a chunk that a payload may have
pub record CanSeal (w : Writer) : Type 0 where
  pub unfinished : w.state ≡ 1
  pub chunk : w.chunk < chunk_limit

-- the writer was given this plaintext, in full chunks
pub record HasSealed (w : Writer) (text : List ℕ) : Type 0 where
  pub unfinished : w.state ≡ 1
  pub whole : length text ≡ w.chunk * chunk_length

-- the blocks of full chunks that aren't the last
abbrev pub blocks_of : Writer → List ℕ → List ℕ
blocks_of w text = block_bytes
    (map (pair (box w.file_key w.nonce) false)
    (enumerate_from 0 (first_chunks chunk_length w.chunk text)))

-- the file and its keys are the same
pub record SameKeys (was now : Writer) : Type 0 where
  pub file_key : now.file_key ≡ was.file_key
  pub nonce : now.nonce ≡ was.nonce

-- ---- The beginning of a file.

-- the file key in the random bytes of a file for a passphrase
abbrev pub key_in : List ℕ → List ℕ
key_in random = take 16 random

-- the stanza's salt in the random bytes of a file for a passphrase
abbrev pub salt_in : List ℕ → List ℕ
salt_in random = take 16 (drop 16 random)

-- the payload nonce in the random bytes of a file for a passphrase
abbrev pub nonce_in : List ℕ → List ℕ
nonce_in random = take 16 (drop 32 random)

-- the bytes are the header's text and the payload nonce, which come before the payload
pub record IsFileFront (header : Header) (nonce bytes : List ℕ) : Type 0 where
  pub front : List ℕ
  pub head : HeadText header front
  pub parts : bytes ≡ front ++ nonce
  pub size : length nonce ≡ 16

-- the bytes are what stands before the payload of a file with this header, whose MAC was made under
-- the file key, and the writer was given no plaintext
pub record IsBegun (header : Header) (key nonce bytes : List ℕ) (w : Writer) : Type 0 where
  pub front : IsFileFront header nonce bytes
  pub mac : IsMacOf header key
  pub has_key : w.file_key ≡ key
  pub has_nonce : w.nonce ≡ nonce
  pub start : HasSealed w []

-- a file was begun under a passphrase, with these random bytes
abbrev pub BeginsFileFrom : List ℕ → ℕ → List ℕ → List ℕ → Writer → Type 0
BeginsFileFrom pass work random bytes w =
    IsBegun (scrypt_head pass work (salt_in random) (key_in random)) (key_in random)
    (nonce_in random) bytes w

-- a call that isn't misused has a passphrase and a work factor within the limits, 48 random bytes,
-- and room for what stands before the payload
pub record IsStartCall (pass : List ℕ) (work : ℕ) (random out : List ℕ) : Type 0 where
  pub allowed : IsAllowed pass work
  pub bytes : length random ≡ 48
  pub room : 256 ≤ length out

-- the lines are the text of the header's stanzas
pub record HasLines (lines : List ℕ) (header : Header) : Type 0 where
  pub text : HasText header
  pub lines_are : lines ≡ flat_map stanza_text header.stanzas

-- a file was begun by its file key, which whoever made the lines wrapped in them, and the payload's
-- nonce, 16 random bytes each
abbrev pub BeginsFileWith : List ℕ → List ℕ → List ℕ → Writer → Type 0
BeginsFileWith lines random bytes w = (header : Header) × HasLines lines header
    × (¬ IsScryptNotAlone header)
    × IsBegun header (take 16 random) (drop 16 random) bytes w

-- the reason why no file is begun: memory runs out, a scrypt stanza stands beside another, or no
-- header can have the lines
abbrev pub RefusesLines : List ℕ → ℕ → Type 0
RefusesLines lines answer = (answer ≡ 28)
    ⊎ ((answer ≡ 9) × (header : Header) × HasLines lines header × IsScryptNotAlone header)
    ⊎ ((answer ≡ 3) × ((header : Header) → ¬ HasLines lines header))

-- a call that isn't misused has 32 random bytes, and room for what stands before the payload
pub record IsKeyCall (lines random out : List ℕ) : Type 0 where
  pub bytes : length random ≡ 32
  pub room : length lines + 256 ≤ length out

-- ---- One call on a writer.

-- the result of a call that isn't misused: it writes its part of the file, or refuses
pub record WritesOrRefuses {State : Type 0} (Writes : List ℕ → State → Type 0)
    (Refuses : ℕ → Type 0) (old : State) (answer : ℕ) (bytes : List ℕ) (new : State)
    : Type 0 where
  -- 0 says that the bytes are that part, and that the writer or stream stands after it
  pub wrote : answer ≡ 0 → Writes bytes new
  -- any other answer says why it refused
  pub refused : answer ≢ 0 → Refuses answer
  -- after a refusal the writer or stream is unchanged
  pub same : answer ≢ 0 → new ≡ old

-- ---- The plaintext that a stream's numbers and bytes stand for.

-- the bytes of the chunk that is open
abbrev pub held_chunk : WriteStream → List ℕ
held_chunk s = take s.held s.chunk

-- the stream was given this plaintext: its writer sealed full chunks, and what came after them is
-- held. That is a byte at least, unless the plaintext has none, so that the last chunk isn't sealed
-- too early
pub record HasTaken (s : WriteStream) (text : List ℕ) : Type 0 where
  pub chunks : List ℕ
  pub sealed : HasSealed s.writer chunks
  pub given : text ≡ chunks ++ held_chunk s
  pub some : s.held ≡ 0 → s.writer.chunk ≡ 0

-- ---- One call on a stream.

-- a stream of any plaintext was given this much more, and the call wrote the blocks of the chunks
-- that this made full and no longer the last
pub record TakesText (more : List ℕ) (old : WriteStream) (bytes : List ℕ) (new : WriteStream)
    : Type 0 where
  pub taken : (text : List ℕ) → HasTaken old text → HasTaken new (text ++ more)
  pub blocks : (text : List ℕ) → HasTaken old text
      → blocks_of new.writer (text ++ more) ≡ blocks_of old.writer text ++ bytes
  pub same : SameKeys old.writer new.writer

-- bytes are taken from the front of a piece: none are passed over, some of a piece that isn't empty,
-- and all of them unless the chunk is full
pub record FeedsText (piece : List ℕ) (taken : ℕ) (old : WriteStream) (bytes : List ℕ)
    (new : WriteStream) : Type 0 where
  pub takes : TakesText (take taken piece) old bytes new
  pub most : taken ≤ length piece
  pub some : 0 < length piece → 0 < taken
  pub all : taken < length piece → new.held ≡ chunk_length

-- the room that the blocks need of the chunks that a piece makes full and no longer the last
abbrev pub room_to_write : ℕ → List ℕ → ℕ
room_to_write held piece = (held + length piece - 1) / chunk_length * block_length

-- a feed is refused only if its chunk would be one too many: a byte comes, the chunk that is held is
-- full, and it can only be the last
pub record RefusesText (piece : List ℕ) (old : WriteStream) (answer : ℕ) : Type 0 where
  pub number : answer ≡ 22
  pub full : old.held ≡ chunk_length
  pub limit : old.writer.chunk + 1 ≡ chunk_limit
  pub more : 0 < length piece

-- the rest of the plaintext was sealed as the last chunk: with the blocks before it the bytes are
-- the payload of the complete plaintext
pub record FinishesText (old : WriteStream) (bytes : List ℕ) (new : WriteStream) : Type 0 where
  pub payload_is : (text : List ℕ) → HasTaken old text
      → payload (box old.writer.file_key old.writer.nonce) chunk_length text
      ≡ blocks_of old.writer text ++ bytes
  pub few : (text : List ℕ) → HasTaken old text → chunk_count chunk_length text ≤ chunk_limit
  pub finished : new.writer.state ≡ 2
  pub same : SameKeys old.writer new.writer

-- the call isn't misused: the stream can be used, and there is room for a block, if a byte comes
-- after a chunk that is full
pub record IsTextCall (s : WriteStream) (piece out : List ℕ) : Type 0 where
  pub usable : CanSeal s.writer
  pub short : s.held ≤ chunk_length
  pub some : s.held ≡ 0 → s.writer.chunk ≡ 0
  pub room : s.held ≡ chunk_length → 0 < length piece → block_length ≤ length out

-- the call of an end isn't misused: the stream can be used, and there is room for the block of what it
-- holds
pub record IsLastTextCall (s : WriteStream) (out : List ℕ) : Type 0 where
  pub usable : CanSeal s.writer
  pub short : s.held ≤ chunk_length
  pub some : s.held ≡ 0 → s.writer.chunk ≡ 0
  pub room : s.held + tag_length ≤ length out
