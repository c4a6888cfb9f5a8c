-- The file key that a shared secret finds in a header (C2SP age.md, "The X25519 recipient type").
use Rattle.std.specs.Prelude.{◌≡◌, ℕ, Bool, true, false, List, [], ◌∷◌, length, codes, ◌⊎◌, ◌++◌, Any}
use Rattle.std.specs.Prelude.{replicate}
use Rattle.std.specs.List.{list_any, AllByRecursion}
use Rattle.base64.specs.GeneralPurpose.{IsBytes}
use Rattle.age_stanza.specs.{base64_text}
use Rattle.age_stanza.specs.declared.header.Header.{Header}
use Rattle.age_stanza.specs.declared.header.Stanza.{Stanza}
use Rattle.age_kdf.specs.{hkdf32}
use Rattle.age_keys.specs.Keys.{has_type, wrapped_key}
use Rattle.age_fault.specs.declared.key.KeyFault.{KeyFault}
use Rattle.age_fault.specs.declared.key.KeyFault.TheVariants.{NoMatch, BadX25519, WrongKey}

-- ---- The X25519 stanza. The function X25519 isn't defined here: the shared secret is given.

-- a stanza is of type X25519
abbrev pub is_x25519 : Stanza → Bool
is_x25519 s = has_type (codes "X25519") s.args

-- the stanza `-> X25519 SHARE` of a share and a body, of 32 bytes each
pub record IsX25519Stanza (s : Stanza) (share body : List ℕ) : Type 0 where
  pub args : s.args ≡ codes "X25519" ∷ base64_text share ∷ []
  pub body_is : s.body ≡ body
  pub share_bytes : IsBytes share
  pub share_length : length share ≡ 32
  pub body_length : length body ≡ 32

-- the fault of a stanza that isn't a valid X25519 stanza
abbrev pub ReadRefuses : Stanza → KeyFault → Type 0
ReadRefuses s NoMatch = is_x25519 s ≡ false
ReadRefuses s BadX25519 = (is_x25519 s ≡ true)
    × ((share body : List ℕ) → IsX25519Stanza s share body → ⊥)
ReadRefuses s other = ⊥

-- ---- The file key that a shared secret finds in a header, and the headers that it refuses.

-- a shared secret, and the recipient for whom the stanzas are
pub record Shared : Type 0 where
  pub secret : List ℕ
  pub recipient : List ℕ

-- the wrap key of a shared secret: HKDF-SHA-256 of it, with the stanza's share and the recipient as
-- its salt
unfoldable pub shared_wrap_key : Shared → List ℕ → List ℕ
shared_wrap_key x share =
    hkdf32 x.secret (share ++ x.recipient) (codes "age-encryption.org/v1/X25519")

-- the stanza's body opens to the key
pub record OpensTo (x : Shared) (s : Stanza) (key : List ℕ) : Type 0 where
  pub share : List ℕ
  pub body : List ℕ
  pub stanza : IsX25519Stanza s share body
  pub opens : body ≡ wrapped_key (shared_wrap_key x share) key

-- the stanza's body opens to no key
abbrev pub StaysShut : Shared → Stanza → Type 0
StaysShut x s = (key : List ℕ) → ¬ OpensTo x s key

-- some stanza of a header is of type X25519
abbrev pub has_x25519 : Header → Bool
has_x25519 h = list_any is_x25519 h.stanzas

-- the shared secret is zero
abbrev pub IsZero : Shared → Type 0
IsZero x = x.secret ≡ replicate 32 0

-- a stanza of type X25519 that isn't valid
abbrev pub IsBadStanza : Stanza → Type 0
IsBadStanza s = ReadRefuses s BadX25519

-- the secret isn't zero, and no X25519 stanza is bad
pub record IsUsable (x : Shared) (h : Header) : Type 0 where
  pub secret : ¬ IsZero x
  pub stanzas : AllByRecursion (λ s. ¬ IsBadStanza s) h.stanzas

-- the key of the first stanza that opens
pub record IsFirstKey (x : Shared) (stanzas : List Stanza) (key : List ℕ) : Type 0 where
  pub before : List Stanza
  pub stanza : Stanza
  pub after : List Stanza
  pub parts : stanzas ≡ before ++ stanza ∷ after
  pub shut : AllByRecursion (StaysShut x) before
  pub opens : OpensTo x stanza key

-- the key that a shared secret finds in a header: the secret is usable, and the key is that of the
-- first stanza that opens
abbrev pub IsSharedKey : Shared → Header → List ℕ → Type 0
IsSharedKey x h key = IsUsable x h × IsFirstKey x h.stanzas key

-- the faults that a shared secret may return for a header: the first that applies
abbrev pub SharedRefuses : Shared → Header → KeyFault → Type 0
SharedRefuses x h NoMatch = has_x25519 h ≡ false
SharedRefuses x h BadX25519 = (has_x25519 h ≡ true) × (IsZero x ⊎ Any IsBadStanza h.stanzas)
SharedRefuses x h WrongKey = (has_x25519 h ≡ true) × IsUsable x h
    × AllByRecursion (StaysShut x) h.stanzas
SharedRefuses x h other = ⊥
