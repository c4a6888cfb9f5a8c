-- The keys of an age file and the file of a plaintext (C2SP age.md, "File key", "Header MAC",
-- "Payload", "Recipient stanza"), and what opening a header with them may return.
use Rattle.std.specs.Prelude.{ℕ, ◌≡◌, Bool, true, false, nat_lt, ◌&&◌, List, [], ◌∷◌, length, codes}
use Rattle.std.specs.Prelude.{replicate, Ok, ◌⊎◌, ◌+◌, ◌≤◌, Result, IfErr, ◌++◌, Option}
use Rattle.std.specs.List.{list_any}
use Rattle.std.specs.Str.{bytes_eq}
use Rattle.std.specs.Bool.{OnTrue}
use Rattle.hex.specs.Hex.{decode_sized}
use Rattle.age_stanza.specs.{mac_text, HeadText}
use Rattle.age_stanza.specs.declared.header.Header.{Header}
use Rattle.age_stanza.specs.declared.header.Stanza.{Stanza}
use Rattle.age_kdf.specs.{hmac, hkdf32}
use Rattle.age_cipher.specs.{sealing, opening}
use Rattle.age_fault.specs.{is_before_work}
use Rattle.age_fault.specs.declared.key.KeyFault.{KeyFault}
use Rattle.age_fault.specs.declared.key.KeyFault.TheVariants.{ScryptNotAlone, MacMismatch, Memory}
use Rattle.age_chunk.specs.{payload, chunk_length}

-- ---- The keys of an age file (C2SP age.md, "File key", "Header MAC", "Payload", "Recipient
-- stanza").

-- the MAC of a header under a file key (C2SP age.md, "Header MAC"): HMAC-SHA-256 of the text that
-- it covers, under HKDF-SHA-256 of the file key with no salt and the info "header"
unfoldable pub header_mac : List ℕ → Header → List ℕ
header_mac key h = hmac (hkdf32 key [] (codes "header")) (mac_text h)

-- the header's MAC was made under the file key
abbrev pub IsMacOf : Header → List ℕ → Type 0
IsMacOf h key = h.mac ≡ header_mac key h

-- the payload key (C2SP age.md, "Payload"): HKDF-SHA-256 of the file key with the payload nonce as
-- its salt and the info "payload"
unfoldable pub payload_key : List ℕ → List ℕ → List ℕ
payload_key key nonce = hkdf32 key nonce (codes "payload")

-- the key of the tags of positions in the payload that follows a nonce (not of the age format)
unfoldable pub position_key : List ℕ → List ℕ → List ℕ
position_key key nonce = hkdf32 key nonce (codes "age-tool position v2")

-- the body of a stanza that wraps a file key: ChaCha20-Poly1305 under the wrap key, with a nonce of
-- zeros
unfoldable pub wrapped_key : List ℕ → List ℕ → List ℕ
wrapped_key wrap_key key = sealing wrap_key (replicate 12 0) [] key

-- ---- The age file of a plaintext (C2SP age.md).

-- the sealing of a file key and a payload nonce: of a plaintext at a chunk's nonce, under the
-- payload key
abbrev pub box : List ℕ → List ℕ → List ℕ → List ℕ → List ℕ
box key nonce = λ chunk_nonce text. sealing (payload_key key nonce) chunk_nonce [] text

-- the opening of a file key and a payload nonce: of a block at a chunk's nonce, under the payload
-- key
abbrev pub unbox : List ℕ → List ℕ → List ℕ → List ℕ → Option (List ℕ)
unbox key nonce = λ chunk_nonce block. opening (payload_key key nonce) chunk_nonce [] block

-- the bytes are the age file of the plaintext: the header's text, the payload nonce, and the
-- payload in chunks of 65,536 bytes
pub record FileOf (h : Header) (key nonce text bytes : List ℕ) : Type 0 where
  pub front : List ℕ
  pub head : HeadText h front
  pub mac : IsMacOf h key
  pub size : length nonce ≡ 16
  pub parts : bytes ≡ (front ++ nonce) ++ payload (box key nonce) chunk_length text

-- ---- The types of stanzas.

-- a stanza is of a type, which is its first argument
abbrev pub has_type : List ℕ → List (List ℕ) → Bool
has_type kind [] = false
has_type kind (first ∷ others) = bytes_eq first kind

-- a stanza is of type scrypt
abbrev pub is_scrypt : Stanza → Bool
is_scrypt s = has_type (codes "scrypt") s.args

-- some stanza of a header is of type scrypt
abbrev pub has_scrypt : Header → Bool
has_scrypt h = list_any is_scrypt h.stanzas

-- a scrypt stanza stands beside another stanza
abbrev pub scrypt_not_alone : Header → Bool
scrypt_not_alone h = nat_lt 1 (length h.stanzas) && has_scrypt h

-- the claim that a scrypt stanza stands beside another stanza
abbrev pub IsScryptNotAlone : Header → Type 0
IsScryptNotAlone h = scrypt_not_alone h ≡ true

-- ---- A file key as text.

-- the text spells the 16 bytes of the key, each by two hexadecimal digits of either case
abbrev pub SpellsKey : List ℕ → List ℕ → Type 0
SpellsKey text key = decode_sized text 16 ≡ Ok key

-- ---- The results of opening a header, by the unlocker's two relations.

-- the header opens to the file key
pub record Opens (Allows : Header → List ℕ → Type 0) (h : Header) (key : List ℕ) : Type 0 where
  -- no scrypt stanza stands beside another
  pub alone : ¬ IsScryptNotAlone h
  -- the unlocker allows the key
  pub allowed : Allows h key
  -- the header's MAC was made under the key
  pub mac : IsMacOf h key
  pub size : length key ≡ 16

-- the fault of a header in which the unlocker allows a key
abbrev pub RefusesKey : Header → List ℕ → KeyFault → Type 0
RefusesKey h key MacMismatch = ¬ IsMacOf h key
RefusesKey h key Memory = Unit {0}
RefusesKey h key other = ⊥

-- the header is refused with the fault
pub record Refuses (Allows : Header → List ℕ → Type 0) (Refused : Header → KeyFault → Type 0)
    (h : Header) (fault : KeyFault) : Type 0 where
  -- a scrypt stanza beside another is refused as such
  pub not_alone : IsScryptNotAlone h → fault ≡ ScryptNotAlone
  -- any other header is refused with the unlocker's fault, or with the fault of a key that it
  -- allows
  pub alone : ¬ IsScryptNotAlone h
      → Refused h fault ⊎ ((key : List ℕ) × Allows h key × RefusesKey h key fault)

-- the only results for the header are the key and running out of memory
pub record AllowsAlone (Allows : Header → List ℕ → Type 0) (Refused : Header → KeyFault → Type 0)
    (h : Header) (key : List ℕ) : Type 0 where
  -- no scrypt stanza stands beside another
  pub alone : ¬ IsScryptNotAlone h
  -- the unlocker allows the key
  pub allowed : Allows h key
  -- the unlocker allows no other key
  pub no_other : (other : List ℕ) → Allows h other → other ≡ key
  -- the unlocker refuses the header only if memory runs out
  pub never : (fault : KeyFault) → Refused h fault → fault ≡ Memory
  -- the header's MAC was made under the key
  pub mac : IsMacOf h key

-- ---- The work of opening a header, by a count of scrypt's steps.

-- the change of the count of steps as a header is opened or refused
pub record Counts (most : ℕ) (result : Result (List ℕ) KeyFault) (old new : ℕ) : Type 0 where
  -- no step was made if the fault is found before any work
  pub before : IfErr result (λ fault. OnTrue (is_before_work fault) (new ≡ old))
  -- there are never more steps than these
  pub within : new ≤ old + most
