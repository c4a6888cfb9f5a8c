-- What only private code cites, of readers and of what writes.
use Rattle.std.specs.Prelude.{ℕ, List, [], ◌≡◌, ◌≢◌, ◌++◌, Some, true, false, ◌+◌, ◌<◌, ◌≤◌, Bool, Result}
use Rattle.std.specs.Prelude.{IfErr}
use Rattle.std.specs.Prelude.{◌-◌, ◌∷◌, drop, length, min, take, replicate}
use Rattle.std.specs.Bool.{OnTrue}
use Rattle.std.specs.List.{flat_map}
use Rattle.age_chunk.specs.{chunk_length, block_length, chunk_limit, chunk_count, payload}
use Rattle.age_chunk.specs.{tag_length}
use Rattle.age_keys.specs.{payload_key, is_before_work as is_before_work_on_keys, box, IsMacOf}
use Rattle.age_keys.specs.{IsScryptNotAlone}
use Rattle.age_keys.specs.inner.{opens}
use Rattle.age_c.specs.declared.reader.Reader.{Reader}
use Rattle.age_stream.specs.{OpenerView, Stands, has_failed, released}
use Rattle.age_stream.specs.declared.step.Status.{Status}
use Rattle.age_stream.specs.declared.step.Status.TheVariants.{Open, Done}
use Rattle.age_stream.specs.Segment.{Segment}
use Rattle.age_c.specs.Calls.{answer_of, reader_status}
use Rattle.age_c.specs.Readers.{CanBeUsed, SameFile}
use Rattle.age_c.specs.declared.start.StartFault.{StartFault}
use Rattle.age_c.specs.declared.start.StartFault.TheVariants.{Key}
use Rattle.age_stanza.specs.{stanza_text, end_line, line, version}
use Rattle.age_stanza.specs.declared.header.Stanza.{Stanza}
use Rattle.age_c.specs.declared.stanza_place.StanzaPlace.{StanzaPlace}
use Rattle.age_c.specs.Streams.{held_block, room_to_feed}
use Rattle.age_c.specs.declared.stream.Stream.{Stream}
use Rattle.age_c.specs.Writers.{CanSeal, HasLines, HasSealed, IsFileFront, SameKeys, blocks_of, held_chunk}
use Rattle.age_c.specs.Writers.{room_to_write}
use Rattle.age_stanza.specs.declared.header.Header.{Header}
use Rattle.age_c.specs.declared.writer.Writer.{Writer}
use Rattle.age_c.specs.declared.write_stream.WriteStream.{WriteStream}
use Rattle.age_c.specs.Decoders.{DecodeCall, IsDecodeCall}
use Rattle.age_c.specs.Streams.{TextCall, IsTextCallOn}
use Rattle.age_c.specs.declared.decoder.Decoder.{Decoder}
pub mod Tries

-- ---- By which key and box a payload is opened, and what the parts of a call do to an opener
-- and to a reader.

-- the payload's key
abbrev pub key_of_reader : Reader → List ℕ
key_of_reader r = payload_key r.file_key r.nonce

-- ---- What the parts of a call do.

-- an opener was given what makes each segment the next one, and passed on this plaintext
pub record PassesOn (next : Segment → Segment) (old new : OpenerView (List ℕ)) (text : List ℕ)
    : Type 0 where
  -- its key stays
  pub key : new.key ≡ old.key
  -- if it stood for a segment, it stands for the next
  pub stands : (s : Segment) → Stands opens chunk_length old s
      → Stands opens chunk_length new (next s)
  -- the plaintext is what the next segment releases more
  pub text_is : (s : Segment) → Stands opens chunk_length old s
      → released (opens old.key) chunk_length (next s)
      ≡ released (opens old.key) chunk_length s ++ text
  -- an opener that was refused passes nothing on
  pub nothing : has_failed new.status ≡ true → text ≡ []
  -- one that is open was open
  pub was_open : new.status ≡ Open → old.status ≡ Open

-- the reader can be used, what is left is shorter than a block, and there is room for its plaintext
pub record IsRestCall (r : Reader) (rest out : List ℕ) : Type 0 where
  pub usable : CanBeUsed r
  pub short : length rest < block_length
  pub room : length rest ≤ length out + tag_length

-- a reader keeps the chunk and the status of an opener
pub record Keeps (chunk : ℕ) (is : Status) (old new : Reader) : Type 0 where
  -- its numbers stand for the status
  pub status : reader_status new.state new.fault_chunk ≡ Some is
  -- it is at the chunk
  pub index : new.chunk ≡ chunk
  -- if nothing was refused, the answer is 0
  pub unfailed : has_failed is ≡ false → answer_of new.state ≡ 0
  -- after a refusal it isn't
  pub failed : has_failed is ≡ true → answer_of new.state ≢ 0
  -- a payload that is done has its number
  pub done : is ≡ Done → new.state ≡ 3
  -- the file and its keys are the same
  pub same : SameFile old new

-- this many bytes of a piece came after those that are held
pub record HoldsPiece (piece : List ℕ) (count : ℕ) (old new : Stream) : Type 0 where
  pub count_is : count ≡ min (length piece) (block_length - old.held)
  pub bytes : take (old.held + count) new.block ≡ held_block old ++ take count piece
  pub size : length new.block ≡ block_length
  pub reader : new.reader ≡ old.reader
  pub held : new.held ≡ old.held

-- this many bytes of a piece came after those of a header that are held
pub record HoldsFront (piece : List ℕ) (held count : ℕ) (old new : List ℕ) : Type 0 where
  pub count_is : count ≡ min (length piece) (length old - held)
  pub bytes : take (held + count) new ≡ take held old ++ take count piece
  pub size : length new ≡ length old

-- ---- How much work the start of a file takes, by a count of scrypt's steps.

-- the fault is found before any work: by looking at the header
abbrev pub starts_before_work : StartFault → Bool
starts_before_work (Key fault) = is_before_work_on_keys fault
starts_before_work other = true

-- what the count was before and after a file was begun or refused
pub record StartCounts (most : ℕ) (result : Result Reader StartFault) (old new : ℕ) : Type 0 where
  -- no step was made if the fault is found before any work
  pub before : IfErr result (λ fault. OnTrue (starts_before_work fault) (new ≡ old))
  -- there are never more steps than these
  pub within : new ≤ old + most

-- ---- Where stanzas stand in a header's text, and their bodies in a buffer.

-- of a stanza whose text begins at this place, and whose body at that one
abbrev pub place_of : ℕ → ℕ → Stanza → StanzaPlace
place_of at body_at s = record {
  args_at = at + 3;
  args_len = length (flat_map (λ a. 32 ∷ a) s.args) - 1;
  body_at = body_at;
  body_len = length s.body;
}

-- of stanzas whose texts, and bodies, stand one after the other from there on
abbrev pub places_from : ℕ → ℕ → List Stanza → List StanzaPlace
places_from at body_at [] = []
places_from at body_at (s ∷ ss) = place_of at body_at s
    ∷ places_from (at + length (stanza_text s)) (body_at + length s.body) ss

-- ---- By which key a payload is sealed, and what the parts of a call do to a writer and to a
-- stream.

-- the payload's key
abbrev pub key_of_writer : Writer → List ℕ
key_of_writer w = payload_key w.file_key w.nonce

-- the chunk was sealed as one before the last, and one more may follow
pub record SealsChunk (chunk : List ℕ) (old : Writer) (bytes : List ℕ) (new : Writer)
    : Type 0 where
  pub sealed : (text : List ℕ) → HasSealed old text → HasSealed new (text ++ chunk)
  pub blocks : (text : List ℕ) → HasSealed old text
      → blocks_of new (text ++ chunk) ≡ blocks_of old text ++ bytes
  pub usable : CanSeal new
  pub same : SameKeys old new

-- what is left was sealed as the last chunk: with the blocks before it the bytes are the payload of
-- the complete plaintext
pub record SealsLast (rest : List ℕ) (old : Writer) (bytes : List ℕ) (new : Writer)
    : Type 0 where
  pub payload_is : (text : List ℕ) → HasSealed old text
      → payload (box old.file_key old.nonce) chunk_length (text ++ rest)
      ≡ blocks_of old text ++ bytes
  pub few : (text : List ℕ) → HasSealed old text
      → chunk_count chunk_length (text ++ rest) ≤ chunk_limit
  pub finished : new.state ≡ 2
  pub same : SameKeys old new

-- the writer can be used, and there is a full chunk, and room for its block
pub record IsChunkCall (w : Writer) (chunk out : List ℕ) : Type 0 where
  pub usable : CanSeal w
  pub whole : length chunk ≡ chunk_length
  pub room : block_length ≤ length out

-- the writer can be used, and what is left has a byte, unless the complete plaintext has none, and
-- room for its block
pub record IsLastCall (w : Writer) (rest out : List ℕ) : Type 0 where
  pub usable : CanSeal w
  pub short : length rest ≤ chunk_length
  pub some : length rest ≡ 0 → w.chunk ≡ 0
  pub room : length rest + tag_length ≤ length out

-- the text of a header whose stanzas have these lines, with a MAC of zeros
abbrev pub zero_text : List ℕ → List ℕ
zero_text lines = line version ++ (lines ++ line (end_line (replicate 32 0)))

-- the bytes are what stands before the payload of a file whose stanzas have these lines, and whose
-- header's MAC was made under the key
pub record HasKeyFront (lines key nonce bytes : List ℕ) : Type 0 where
  pub header : Header
  pub has : HasLines lines header
  pub alone : ¬ IsScryptNotAlone header
  pub mac : IsMacOf header key
  pub front : IsFileFront header nonce bytes

-- this many bytes of a plaintext came after those that are held, and are held too
pub record HoldsText (piece : List ℕ) (count : ℕ) (old new : WriteStream) : Type 0 where
  pub count_is : count ≡ min (length piece) (chunk_length - old.held)
  pub bytes : held_chunk new ≡ held_chunk old ++ take count piece
  pub writer : new.writer ≡ old.writer
  pub held : new.held ≡ old.held + count

-- ---- One call of those by which a piece is taken whole.

-- a call took these bytes, and wrote these
pub record DecodesOne (old new : Decoder) (bytes wrote : List ℕ) : Type 0 where
  pub call : DecodeCall
  pub is : IsDecodeCall old call
  pub after : call.call.after ≡ new
  pub given : call.call.bytes ≡ bytes
  pub wrote_is : call.wrote ≡ wrote

-- a call took this plaintext, and wrote these bytes
pub record EncodesOne (old new : WriteStream) (text bytes : List ℕ) : Type 0 where
  pub call : TextCall
  pub is : IsTextCallOn old call
  pub goes_on : call.is_end ≡ false
  pub after : call.after ≡ new
  pub text_is : call.text ≡ text
  pub bytes_are : call.bytes ≡ bytes

-- ---- Calls that aren't misused, and the room that a call leaves.

-- the call isn't misused: the reader can be used, and there is a full block, and room for its
-- plaintext
pub record IsBlockCall (r : Reader) (block out : List ℕ) : Type 0 where
  pub usable : CanBeUsed r
  pub whole : length block ≡ block_length
  pub room : chunk_length ≤ length out

-- the stream can take what is left of the piece, and there is room for that if there was for all
pub record KeepsRoom (piece : List ℕ) (old : Stream) (taken written : ℕ) (new : Stream) : Type 0 where
  pub usable : CanBeUsed new.reader
  pub short : new.held < block_length
  pub room : room_to_feed new.held (drop taken piece) + written ≤ room_to_feed old.held piece

-- the call isn't misused: the stream can be used, and there is room for a chunk's plaintext, if the
-- piece fills the block that is open
pub record IsStreamCall (s : Stream) (piece out : List ℕ) : Type 0 where
  pub usable : CanBeUsed s.reader
  pub short : s.held < block_length
  pub room : block_length ≤ s.held + length piece → chunk_length ≤ length out

-- the stream can take what is left of the piece, and there is room for that if there was for all
pub record KeepsTextRoom (piece : List ℕ) (old : WriteStream) (taken written : ℕ) (new : WriteStream)
    : Type 0 where
  pub usable : CanSeal new.writer
  pub short : new.held ≤ chunk_length
  pub some : new.held ≡ 0 → new.writer.chunk ≡ 0
  pub room : room_to_write new.held (drop taken piece) + written ≤ room_to_write old.held piece
