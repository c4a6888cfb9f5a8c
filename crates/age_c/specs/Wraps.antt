-- The stanza that wraps a file key for an X25519 recipient (C2SP age.md, "The X25519 recipient type"),
-- and which keys of decoders open what an encoder writes.
use Rattle.std.specs.Prelude.{◌≡◌, ◌≢◌, ◌⊎◌, ℕ, ◌≤◌, List, [], ◌∷◌, ◌++◌, length, take, drop, codes, replicate}
use Rattle.std.specs.Prelude.{true, false}
use Rattle.base64.specs.GeneralPurpose.{IsBytes}
use Rattle.age_chunk.specs.{chunk_length, payload}
use Rattle.age_stanza.specs.{base64_text, stanza_text, IsStanza}
use Rattle.age_stanza.specs.declared.header.Header.{Header}
use Rattle.age_stanza.specs.declared.header.Stanza.{Stanza}
use Rattle.age_stream.specs.{HasUnambiguousEnd}
use Rattle.age_keys.specs.{AllowsAlone, IsAllowed, IsMacOf, IsScryptNotAlone, Shared, scrypt_head}
use Rattle.age_keys.specs.{box, shared_wrap_key, unbox, wrapped_key}
use Rattle.age_c.specs.Decoders.{Allowed, Allows, AreDecodeCalls, AreHeadCalls, AreOfFile, DecodeCall}
use Rattle.age_c.specs.Decoders.{DecoderKey, HeadCall, OpensFile, Refuses, Waits, calls_in, decoder_after}
use Rattle.age_c.specs.Decoders.{taken_all, wrote_all}
use Rattle.age_c.specs.Decoders.DecoderKey.{file_key, passphrase, shared}
use Rattle.age_c.specs.Encoders.{Begins}
use Rattle.age_c.specs.Readers.{AllAnswer, given_by}
use Rattle.age_c.specs.Streams.{AreTextCalls, IsTextCallOn, TextCall, bytes_written, stream_after}
use Rattle.age_c.specs.Streams.{text_taken}
use Rattle.age_c.specs.Writers.{BeginsFileFrom, BeginsFileWith, HasLines, IsKeyCall, IsStartCall}
use Rattle.age_c.specs.Writers.{RefusesLines, key_in, nonce_in, salt_in}
use Rattle.age_c.specs.declared.decoder.Decoder.{Decoder}
use Rattle.age_c.specs.declared.write_stream.WriteStream.{WriteStream}

-- the stanza `-> X25519 SHARE` of a share and a body
abbrev pub x25519_stanza : List ℕ → List ℕ → Stanza
x25519_stanza share body =
    record { args = codes "X25519" ∷ base64_text share ∷ []; body = body }

-- the bytes are the lines of such a stanza, whose body is the file key wrapped under a shared secret,
-- which isn't zero
pub record WrapsShared (x : Shared) (share key bytes : List ℕ) : Type 0 where
  pub text : bytes ≡ stanza_text (x25519_stanza share (wrapped_key (shared_wrap_key x share) key))
  pub valid : IsStanza (x25519_stanza share (wrapped_key (shared_wrap_key x share) key))
  pub some_secret : ¬ (x.secret ≡ replicate 32 0)
  pub share_bytes : IsBytes share
  pub share_length : length share ≡ 32
  pub key_length : length key ≡ 16

-- a call that isn't misused has 32 bytes of each, 16 of the file key, and room for the lines
pub record IsWrapCall (secret share recipient key out : List ℕ) : Type 0 where
  pub secret_length : length secret ≡ 32
  pub share_length : length share ≡ 32
  pub recipient_length : length recipient ≡ 32
  pub key_length : length key ≡ 16
  pub room : 98 ≤ length out

-- the reason why no stanza is made: memory runs out, or the secret is zero
abbrev pub RefusesWrap : List ℕ → ℕ → Type 0
RefusesWrap secret answer = (answer ≡ 28) ⊎ ((answer ≡ 15) × (secret ≡ replicate 32 0))

-- ---- The keys that open what an encoder writes.

-- a decoder's key finds the file key in the header of a file that was encoded by the same key, and
-- nothing else: a passphrase whose most work is that of the file or more; the file key, in any
-- header; and a shared secret in a header that has the stanza alone that it wrapped the file key in
abbrev pub KeysOpen : Type 0
KeysOpen =
    ((pass : List ℕ) (work most : ℕ) (random : List ℕ) → IsAllowed pass work → work ≤ most
    → length random ≡ 48 → IsBytes random
    → AllowsAlone (Allows (passphrase pass most)) (Refuses (passphrase pass most))
    (scrypt_head pass work (salt_in random) (key_in random)) (key_in random))
    × ((key : List ℕ) (header : Header) → (¬ IsScryptNotAlone header) → IsMacOf header key
    → AllowsAlone (Allows (file_key key)) (Refuses (file_key key)) header key)
    × ((x : Shared) (share key lines : List ℕ) (header : Header) → WrapsShared x share key lines
    → HasLines lines header → IsMacOf header key
    → AllowsAlone (Allows (shared x.secret x.recipient)) (Refuses (shared x.secret x.recipient))
    header key)

-- ---- A decoder gives back what an encoder wrote.

-- of a file that was encoded: a decoder that was begun with the key opens its header, unless memory is
-- lacking, in whatever pieces it comes; and, given the payload in any pieces and then its end, gives
-- the plaintext, and 0 each time, unless a full last block opens as one before the last too
abbrev pub GivesBack : DecoderKey → List ℕ → List ℕ → List ℕ → List ℕ → Type 0
GivesBack key own nonce text file = (d : Decoder) → ((front : List ℕ) → Waits d front)
    → (heads : List HeadCall) → AreHeadCalls (Allowed key) (Allows key) (Refuses key) d [] heads
    → AreOfFile file [] heads
    → ((front : List ℕ) × OpensFile front own nonce (taken_all heads) (decoder_after d heads))
    × ((decoder_after d heads).open ≢ 0 → (calls : List DecodeCall)
    → AreDecodeCalls (decoder_after d heads) calls → given_by 0 (calls_in calls) ≡ record {
      start = 0;
      bytes = payload (box own nonce) chunk_length text;
      ended = true;
      late = false;
    }
    → HasUnambiguousEnd (box own nonce) (unbox own nonce) chunk_length text
    → (wrote_all calls ≡ text) × AllAnswer 0 (calls_in calls))

-- the headline from an encoder's key to a decoder's: a call that began a file and answered 0, any calls
-- after it, and then an end that answered 0; and a decoder of that key, by the passphrase, by the file
-- key, or by the shared secret that the file key was wrapped under in the only stanza
abbrev pub EncodersAreRead : Type 0
EncodersAreRead = (s : WriteStream) (written : ℕ) (before after : List ℕ) (calls : List TextCall)
    (last : TextCall) → AreTextCalls s calls → IsTextCallOn (stream_after s calls) last
    → last.is_end ≡ true → last.answer ≡ 0
    → ((pass : List ℕ) (work most : ℕ) (random : List ℕ)
    → Begins (IsStartCall pass work random before) (BeginsFileFrom pass work random)
    (λ answer. answer ≡ 28) s 0 written before after → work ≤ most → IsBytes random
    → GivesBack (passphrase pass most) (key_in random) (nonce_in random) (text_taken calls)
    (take written after ++ (bytes_written calls ++ last.bytes)))
    × ((lines random : List ℕ)
    → Begins (IsKeyCall lines random before) (BeginsFileWith lines random) (RefusesLines lines) s 0
    written before after
    → GivesBack (file_key (take 16 random)) (take 16 random) (drop 16 random) (text_taken calls)
    (take written after ++ (bytes_written calls ++ last.bytes))
    × ((x : Shared) (share : List ℕ) → WrapsShared x share (take 16 random) lines
    → GivesBack (shared x.secret x.recipient) (take 16 random) (drop 16 random) (text_taken calls)
    (take written after ++ (bytes_written calls ++ last.bytes))))
