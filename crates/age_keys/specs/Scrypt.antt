-- The file key that a passphrase finds in a header (C2SP age.md, "The scrypt recipient type").
use Rattle.std.specs.Prelude.{◌≡◌, ◌≢◌, ℕ, List, [], ◌∷◌, ◌++◌, length, take, codes, ◌*◌, ◌^◌, ◌<◌, ◌≤◌, true}
use Rattle.std.specs.Prelude.{false}
use Rattle.std.specs.Fmt.{decimal}
use Rattle.std.specs.Str.Parse.{IsNumeral, digits_value}
use Rattle.base64.specs.GeneralPurpose.{IsBytes}
use Rattle.age_stanza.specs.{base64_text}
use Rattle.age_stanza.specs.declared.header.Header.{Header}
use Rattle.age_stanza.specs.declared.header.Stanza.{Stanza}
use Rattle.age_scrypt.specs.{scrypt, work_factor_limit}
use Rattle.age_keys.specs.Keys.{header_mac, wrapped_key, IsScryptNotAlone, has_scrypt, AllowsAlone}
use Rattle.age_fault.specs.declared.key.KeyFault.{KeyFault}
use Rattle.age_fault.specs.declared.key.KeyFault.TheVariants.{ScryptNotAlone, BadScrypt, WorkTooHigh}
use Rattle.age_fault.specs.declared.key.KeyFault.TheVariants.{NoMatch, WrongKey, Memory}

-- ---- The scrypt stanza.

-- the wrap key of a passphrase: scrypt, with a label and the stanza's salt as its salt, N = 2^log,
-- r = 8 and p = 1
unfoldable pub wrap_key : List ℕ → List ℕ → ℕ → List ℕ
wrap_key pass salt log = scrypt pass (codes "age-encryption.org/v1/scrypt" ++ salt) log

-- the characters of a work factor: decimal digits, as many as there may be, and the first isn't a
-- zero
pub record IsWorkFactor (characters : List ℕ) : Type 0 where
  pub digits : IsNumeral 10 characters
  pub no_leading_zero : take 1 characters ≢ codes "0"

-- the stanza `-> scrypt SALT LOG` of a salt of 16 bytes, a work factor and a body of 32 bytes
pub record IsScryptStanza (s : Stanza) (salt : List ℕ) (log : ℕ) (body : List ℕ) : Type 0 where
  pub characters : List ℕ
  pub args : s.args ≡ codes "scrypt" ∷ base64_text salt ∷ characters ∷ []
  pub body_is : s.body ≡ body
  pub work_factor : IsWorkFactor characters
  pub log_is : digits_value 10 characters ≡ log
  pub salt_bytes : IsBytes salt
  pub salt_length : length salt ≡ 16
  pub body_length : length body ≡ 32

-- the header's only stanza, which is a scrypt stanza, and its parts
pub record OnlyScrypt (h : Header) : Type 0 where
  pub stanza : Stanza
  pub alone : h.stanzas ≡ stanza ∷ []
  pub salt : List ℕ
  pub log : ℕ
  pub body : List ℕ
  pub valid : IsScryptStanza stanza salt log body

-- a scrypt stanza, as it is written
unfoldable pub scrypt_stanza : List ℕ → ℕ → List ℕ → Stanza
scrypt_stanza salt log body =
    record { args = codes "scrypt" ∷ base64_text salt ∷ decimal log ∷ []; body = body }

-- the header of one scrypt stanza, whose body is the file key wrapped under the passphrase, with
-- the file key's MAC, which covers the stanza alone
unfoldable pub scrypt_head : List ℕ → ℕ → List ℕ → List ℕ → Header
scrypt_head pass log salt key =
    let stanzas = scrypt_stanza salt log (wrapped_key (wrap_key pass salt log) key) ∷ [] in
    record { stanzas = stanzas; mac = header_mac key (record { stanzas = stanzas; mac = [] }) }

-- ---- The file key that a passphrase finds in a header, and the headers that it refuses.

-- a passphrase, and the greatest work factor that is accepted with it
pub record PassphraseIdentity : Type 0 where
  pub pass : List ℕ
  pub max_log : ℕ

-- the greatest length of a passphrase in bytes (a limit of this library: the standard sets none)
abbrev pub passphrase_limit : ℕ
passphrase_limit = 65536

-- a passphrase of 1 to 65,536 bytes, and a work factor of 1 to 22
pub record IsAllowed (pass : List ℕ) (log : ℕ) : Type 0 where
  pub some : 1 ≤ length pass
  pub most : length pass ≤ passphrase_limit
  pub least_log : 1 ≤ log
  pub most_log : log ≤ work_factor_limit

-- the key that is wrapped under the passphrase in the body of the header's only stanza
pub record IsPassphraseKey (w : PassphraseIdentity) (h : Header) (key : List ℕ) : Type 0 where
  pub only : OnlyScrypt h
  pub within : only.log ≤ w.max_log
  pub opens : only.body ≡ wrapped_key (wrap_key w.pass only.salt only.log) key

-- the faults that a passphrase may return for a header: the first that applies
abbrev pub PassphraseRefuses : PassphraseIdentity → Header → KeyFault → Type 0
PassphraseRefuses w h ScryptNotAlone = IsScryptNotAlone h
PassphraseRefuses w h NoMatch = has_scrypt h ≡ false
PassphraseRefuses w h BadScrypt =
    (¬ IsScryptNotAlone h) × (has_scrypt h ≡ true) × (¬ OnlyScrypt h)
PassphraseRefuses w h WorkTooHigh = (only : OnlyScrypt h) × (w.max_log < only.log)
PassphraseRefuses w h Memory = (only : OnlyScrypt h) × (only.log ≤ w.max_log)
PassphraseRefuses w h WrongKey = (only : OnlyScrypt h) × (only.log ≤ w.max_log)
    × ((key : List ℕ) → only.body ≢ wrapped_key (wrap_key w.pass only.salt only.log) key)
PassphraseRefuses w h other = ⊥

-- the steps of scrypt at the greatest work factor
abbrev pub passphrase_steps : PassphraseIdentity → ℕ
passphrase_steps w = 2 * 2 ^ w.max_log

-- ---- Laws about the definitions alone.

-- the passphrase that a header was made for finds the file key in it and nothing else, if the limit
-- allows the work factor
abbrev pub PassphraseOpens : Type 0
PassphraseOpens =
    (w : PassphraseIdentity) (log : ℕ) (salt key : List ℕ) → 1 ≤ log
    → log ≤ work_factor_limit → log ≤ w.max_log
    → length salt ≡ 16 → IsBytes salt → length key ≡ 16
    → AllowsAlone (IsPassphraseKey w) (PassphraseRefuses w) (scrypt_head w.pass log salt key) key
