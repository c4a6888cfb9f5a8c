-- What the passphrase that a header was made for finds in it.
use Rattle.std.proofs.lemmas.Grind.{common_steps}
use Rattle.std.proofs.Common.{◌≡◌, ℕ, ◌+◌, ◌≤◌, Option, Some, None, Result, List, ◌≢◌, true, [], ◌∷◌, length, replicate, refl, sym, ap, ap₂, ◌∙◌, arith}
use Rattle.std.specs.Fmt.{decimal}
use Rattle.std.specs.Option.{ok_or}
use Rattle.std.specs.Prelude.{IfSome, IfNone, MatchResult}
use Rattle.std.proofs.lemmas.Bool.{false≢true}
use Rattle.std.proofs.lemmas.Fmt.{decimal_is_IsNumeral, first_decimal}
use Rattle.age_cipher.proofs.SealingLemmas.{length-sealing, one_text as one_sealed}
use Rattle.age_stanza.proofs.Base64Lemmas.{one_text}
use Rattle.age_stanza.specs.declared.header.Header.{Header}
use Rattle.age_stanza.specs.declared.header.Stanza.{Stanza}
use Rattle.base64.specs.GeneralPurpose.{IsBytes}
use Rattle.age_keys.specs.{KeyFault, WrongKey, ScryptNotAlone, BadScrypt, WorkTooHigh, NoMatch, Memory, Counts, header_mac, wrapped_key, has_scrypt, IsMacOf}
use Rattle.age_keys.specs.{AllowsAlone, PassphraseIdentity, IsPassphraseKey, PassphraseRefuses, wrap_key, IsWorkFactor, IsScryptStanza, OnlyScrypt}
use Rattle.age_keys.specs.{scrypt_stanza, scrypt_head}
use Rattle.age_keys.proofs.StanzaLemmas.{not_beside}
use Rattle.age_keys.proofs.WorkFactorLemmas.{zero_first}

-- ---- what a count of steps says of an answer

-- a body was tried
pub was_tried : (most : ℕ) (found : Option (List ℕ)) (result : Result (List ℕ) KeyFault) (old new : ℕ) → new ≤ old + most → result ≡ ok_or found WrongKey
    → Counts most result old new
was_tried most (Some key) result old new within e = rw e (record { before = tt; within = within })
was_tried most None result old new within e = rw e (record { before = tt; within = within })

-- ---- what the passphrase that a header was made for finds in it

length-wrapped : (wrap key : List ℕ) → length (wrapped_key wrap key) ≡ length key + 16
unfolding wrapped_key
length-wrapped wrap key = length-sealing wrap (replicate 12 0) [] key

one_wrapped : (wrap key other : List ℕ) → wrapped_key wrap key ≡ wrapped_key wrap other → key ≡ other
unfolding wrapped_key
one_wrapped wrap key other e = one_sealed wrap (replicate 12 0) [] key other e

-- ---- a stanza as it is written is valid

factor_is : (log : ℕ) → 1 ≤ log → log ≤ 22 → IsWorkFactor (decimal log)
factor_is log some few =
    let first = first_decimal log some (omega arith) in
    record { digits = (decimal_is_IsNumeral log (omega arith)).0; no_leading_zero = λ zero_is. let first_is = zero_first (decimal log) zero_is in omega arith }

stanza_is : (salt body : List ℕ) (log : ℕ) → 1 ≤ log → log ≤ 22 → length salt ≡ 16 → IsBytes salt → length body ≡ 32
    → IsScryptStanza (scrypt_stanza salt log body) salt log body
unfolding scrypt_stanza
stanza_is salt body log some few size fits body_size = record {
  characters = decimal log;
  args = refl;
  body_is = refl;
  work_factor = factor_is log some few;
  log_is = (decimal_is_IsNumeral log (omega arith)).1;
  salt_bytes = fits;
  salt_length = size;
  body_length = body_size;
}

-- ---- what the code found

abbrev pub only_scrypt : (h : Header) (s : Stanza) (salt : List ℕ) (log : ℕ) (body : List ℕ) → h.stanzas ≡ s ∷ [] → IsScryptStanza s salt log body → OnlyScrypt h
only_scrypt h s salt log body one valid = record { stanza = s; alone = one; salt = salt; log = log; body = body; valid = valid }

-- the key that the body opens to, or that it opens to none
pub found_or_wrong : (w : PassphraseIdentity) (h : Header) (only : OnlyScrypt h) (wrap : List ℕ) (found : Option (List ℕ)) (result : Result (List ℕ) KeyFault)
    → only.log ≤ w.max_log → wrap ≡ wrap_key w.pass only.salt only.log
    → IfSome found (λ key. only.body ≡ wrapped_key wrap key) → IfNone found ((key : List ℕ) → only.body ≢ wrapped_key wrap key) → result ≡ ok_or found WrongKey
    → MatchResult result (IsPassphraseKey w h) (PassphraseRefuses w h)
found_or_wrong w h only wrap (Some key) result within is some none e = rw e (record { only = only; within = within; opens = rw (← is) some })
found_or_wrong w h only wrap None result within is some none e = rw e (only, within, rw (← is) none)

-- ---- a header has the parts of one scrypt stanza

pub record SameParts (salt other : List ℕ) (log more : ℕ) (body rest : List ℕ) : Type 0 where
  pub salts : salt ≡ other
  pub logs : log ≡ more
  pub bodies : body ≡ rest

same_parts : (h : Header) (a b : OnlyScrypt h) → SameParts a.salt b.salt a.log b.log a.body b.body
same_parts h a b = grind (arith, common_steps, one_text)

-- ---- the law

-- the stanza's body is the wrapped key
abbrev Wraps : PassphraseIdentity → (h : Header) → OnlyScrypt h → List ℕ → Type 0
Wraps w h only key = only.body ≡ wrapped_key (wrap_key w.pass only.salt only.log) key

abbrev HasOwn : PassphraseIdentity → Header → ℕ → List ℕ → Type 0
HasOwn w h log key = (only : OnlyScrypt h) × (only.log ≡ log) × Wraps w h only key

own : (w : PassphraseIdentity) (log : ℕ) (salt key : List ℕ) → 1 ≤ log → log ≤ 22 → length salt ≡ 16 → IsBytes salt → length key ≡ 16
    → HasOwn w (scrypt_head w.pass log salt key) log key
unfolding scrypt_head
own w log salt key some few size fits key_size =
    let wrap = wrap_key w.pass salt log in
    let body = wrapped_key wrap key in
    let long : length body ≡ 32 = omega (arith, length-wrapped wrap key) in (
      record {
        stanza = scrypt_stanza salt log body;
        alone = refl;
        salt = salt;
        log = log;
        body = body;
        valid = stanza_is salt body log some few size fits long;
      },
      refl,
      refl,
    )

pub mac_holds : (pass : List ℕ) (log : ℕ) (salt key : List ℕ) → IsMacOf (scrypt_head pass log salt key) key
unfolding scrypt_head header_mac
mac_holds pass log salt key = refl

own_type : (w : PassphraseIdentity) (log : ℕ) (salt key : List ℕ) → has_scrypt (scrypt_head w.pass log salt key) ≡ true
unfolding scrypt_head scrypt_stanza
own_type w log salt key = refl

-- the parts of a stanza open to one key only
other_key : (w : PassphraseIdentity) (h : Header) (key other : List ℕ) (only : OnlyScrypt h) → Wraps w h only key → IsPassphraseKey w h other → other ≡ key
other_key w h key other only wraps found =
    let same = same_parts h found.only only in
    let wrap : wrap_key w.pass found.only.salt found.only.log ≡ wrap_key w.pass only.salt only.log = ap₂ (wrap_key w.pass) same.salts same.logs in
    one_wrapped (wrap_key w.pass only.salt only.log) other key
    (ap (λ (k : List ℕ). wrapped_key k other) (sym wrap) ∙ sym found.opens ∙ same.bodies ∙ wraps)

only_memory : (w : PassphraseIdentity) (h : Header) (key : List ℕ) (only : OnlyScrypt h) → Wraps w h only key → only.log ≤ w.max_log → has_scrypt h ≡ true
    → (fault : KeyFault) → PassphraseRefuses w h fault → fault ≡ Memory
only_memory w h key only wraps within typed ScryptNotAlone r = absurd (not_beside h only.stanza only.alone r)
only_memory w h key only wraps within typed NoMatch r = absurd (false≢true (sym r ∙ typed))
only_memory w h key only wraps within typed BadScrypt r = absurd (r.2 only)
only_memory w h key only wraps within typed WorkTooHigh r = absurd (omega (arith, r.1, (same_parts h r.0 only).logs, within))
only_memory w h key only wraps within typed WrongKey r =
    let same = same_parts h r.0 only in
    absurd (r.2 key (same.bodies ∙ wraps ∙ ap (λ (k : List ℕ). wrapped_key k key) (sym (ap₂ (wrap_key w.pass) same.salts same.logs))))
only_memory w h key only wraps within typed Memory r = refl
only_memory w h key only wraps within typed fault r = absurd r

pub opens_alone : (w : PassphraseIdentity) (log : ℕ) (salt key : List ℕ) → 1 ≤ log → log ≤ 22 → log ≤ w.max_log → length salt ≡ 16 → IsBytes salt
    → length key ≡ 16 → AllowsAlone (IsPassphraseKey w) (PassphraseRefuses w) (scrypt_head w.pass log salt key) key
opens_alone w log salt key some few within size fits key_size =
    let h : Header = scrypt_head w.pass log salt key in
    let has : HasOwn w h log key = own w log salt key some few size fits key_size in
    let log_is = has.1 in
    let within' : has.0.log ≤ w.max_log = omega arith in
    record {
      alone = not_beside h has.0.stanza has.0.alone;
      allowed = record { only = has.0; within = within'; opens = has.2 };
      no_other = λ other found. other_key w h key other has.0 has.2 found;
      never = only_memory w h key has.0 has.2 within' (own_type w log salt key);
      mac = mac_holds w.pass log salt key;
    }
