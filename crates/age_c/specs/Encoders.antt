-- Encoders, which are streams that write: the beginning of a file, whatever the stream was used for
-- before.
use Rattle.std.specs.Prelude.{◌≡◌, ◌≢◌, ◌≤◌, ℕ, List, ◌++◌, take, drop, true}
use Rattle.age_chunk.specs.{chunk_length}
use Rattle.age_c.specs.Calls.{misused, PutsFront}
use Rattle.age_stanza.specs.declared.header.Header.{Header}
use Rattle.age_keys.specs.{FileOf, scrypt_head}
use Rattle.age_c.specs.Writers.{CanSeal, BeginsFileFrom, BeginsFileWith, HasLines, IsKeyCall, IsStartCall}
use Rattle.age_c.specs.Writers.{RefusesLines, key_in, nonce_in, room_to_write, salt_in}
use Rattle.age_c.specs.Streams.{TextCall, AreTextCalls, IsTextCallOn, stream_after, text_taken, bytes_written}
use Rattle.age_c.specs.declared.write_stream.WriteStream.{WriteStream}
use Rattle.age_c.specs.declared.writer.Writer.{Writer}

-- the promise of a call that begins a file: `Fits` says that it isn't misused, `Does` what it
-- writes and leaves, and `Why` what another result says. It names nothing of the stream before
pub record Begins (Fits : Type 0) (Does : List ℕ → Writer → Type 0) (Why : ℕ → Type 0)
    (new : WriteStream) (answer written : ℕ) (before after : List ℕ) : Type 0 where
  pub fits : Fits → answer ≢ misused
  pub meant : answer ≢ misused → Fits
  pub begun : answer ≡ 0 → Does (take written after) new.writer
  -- the stream has no bytes of another file
  pub empty : new.held ≡ 0
  -- after a refusal no call writes anything of the file before
  pub shut : answer ≢ 0 → ¬ CanSeal new.writer
  pub why : answer ≢ 0 → answer ≢ misused → Why answer
  pub nothing : answer ≢ 0 → written ≡ 0
  pub put : PutsFront written before after

-- ---- The file that an encoder writes.

-- a call that began a file and answered 0, any calls after it, and then an end that answered 0: what
-- all of them wrote is the age file of the plaintext that was taken, whatever the stream was before
abbrev pub EncodersWriteFiles : Type 0
EncodersWriteFiles = (s : WriteStream) (written : ℕ) (before after : List ℕ) (calls : List TextCall)
    (last : TextCall) → AreTextCalls s calls → IsTextCallOn (stream_after s calls) last
    → last.is_end ≡ true → last.answer ≡ 0
    → ((pass : List ℕ) (work : ℕ) (random : List ℕ)
    → Begins (IsStartCall pass work random before) (BeginsFileFrom pass work random)
    (λ answer. answer ≡ 28) s 0 written before after
    → FileOf (scrypt_head pass work (salt_in random) (key_in random)) (key_in random)
    (nonce_in random) (text_taken calls) (take written after ++ (bytes_written calls ++ last.bytes)))
    × ((lines random : List ℕ)
    → Begins (IsKeyCall lines random before) (BeginsFileWith lines random) (RefusesLines lines) s 0
    written before after
    → (header : Header) × HasLines lines header
    × FileOf header (take 16 random) (drop 16 random) (text_taken calls)
    (take written after ++ (bytes_written calls ++ last.bytes)))

-- ---- A piece that is taken whole.

-- the call isn't misused: a file was begun and not ended, and there is room for the blocks that the piece
-- makes
pub record IsTextPieceCall (s : WriteStream) (piece : List ℕ) (room : ℕ) : Type 0 where
  pub usable : CanSeal s.writer
  pub short : s.held ≤ chunk_length
  pub some : s.held ≡ 0 → s.writer.chunk ≡ 0
  pub enough : room_to_write s.held piece ≤ room

-- the stream took this plaintext, and wrote these bytes, by calls that `encoders_write_files`
-- speaks of
pub record EncodesMore (old new : WriteStream) (text bytes : List ℕ) : Type 0 where
  pub calls : List TextCall
  pub are : AreTextCalls old calls
  pub last : stream_after old calls ≡ new
  pub text_is : text_taken calls ≡ text
  pub bytes_are : bytes_written calls ≡ bytes
