-- The stanza of a shared secret, and which keys open what an encoder writes.
use Rattle.std.proofs.lemmas.Grind.{common_steps}
use Rattle.std.proofs.Common.{inl, inr, ◌≡◌, ℕ, zero, suc, ◌<◌, ◌≤◌, refl, ap, sym, subst, ◌∙◌, arith, List, [], ◌∷◌, ◌++◌, length, take, drop, true, get_or}
use Rattle.std.specs.Prelude.{Any, codes, replicate}
use Rattle.std.specs.List.{AllByRecursion, list_any}
use Rattle.std.proofs.lemmas.Bool.{false≢true}
use Rattle.std.proofs.lemmas.List.{append-nil, append_assoc, length-append, length-drop, length-take}
use Rattle.base64.specs.GeneralPurpose.{IsBytes}
use Rattle.age_chunk.specs.{chunk_count, chunk_length, chunk_limit}
use Rattle.age_cipher.proofs.SealingLemmas.{length-sealing, one_text as one_sealed}
use Rattle.age_stanza.specs.{IsStanza, Spells, base64_text, end_line, head_text, line, stanza_text, version}
use Rattle.age_stanza.specs.declared.header.Header.{Header}
use Rattle.age_stanza.specs.declared.header.Stanza.{Stanza}
use Rattle.age_stanza.proofs.{IsBytes-drop, length-text, visible_from_test}
use Rattle.age_stanza.proofs.TextLemmas.{IsBytes-take}
use Rattle.age_stanza.proofs.Base64Lemmas.{one_text}
use Rattle.age_stanza.proofs.LineLemmas.{in_lines-short}
use Rattle.age_stanza.proofs.PlaceLemmas.{one_header}
use Rattle.age_keys.specs.{AllowsAlone, FileOf, IsBadStanza, IsMacOf, IsSharedKey, IsX25519Stanza, KeyFault, Memory, NoMatch}
use Rattle.age_keys.specs.{OpensTo, Shared, SharedRefuses, StaysShut, WrongKey, is_x25519, scrypt_head, shared_wrap_key, wrapped_key}
use Rattle.age_fault.specs.declared.key.KeyFault.TheVariants.{BadX25519}
use Rattle.age_keys.proofs.{not_beside}
use Rattle.age_keys.proofs.ScryptLemmas.{text_visible}
use Rattle.age_keys.proofs.PassphraseLemmas.{opens_alone}
use Rattle.age_c.specs.{Allows, DecoderKey, EncodersAreRead, GivesBack, Refuses, bytes_written, key_in, nonce_in, salt_in, text_taken, HasLines, KeysOpen, x25519_stanza}
use Rattle.age_c.specs.Decoders.DecoderKey.{file_key, passphrase, shared}
use Rattle.age_c.proofs.EncoderLemmas.{writes}
use Rattle.age_c.proofs.OpeningLemmas.{decoders_open_files, decoders_read_back}

-- ---- The lines of the stanza.

pub x25519_text : (share body : List ℕ) → length body ≡ 32
    → stanza_text (x25519_stanza share body) ≡ (((codes "-> X25519 " ++ base64_text share) ++ codes "\n") ++ base64_text body) ++ codes "\n"
x25519_text share body size =
    let short : length (base64_text body) < 64 = omega (arith, length-text body) in
    ap (λ (l : List ℕ). line (codes "-> X25519 " ++ (base64_text share ++ [])) ++ l) (in_lines-short (base64_text body) short)
    ∙ grind (arith, common_steps, append_assoc, append-nil)

pub x25519_size : (share body : List ℕ) → length share ≡ 32 → length body ≡ 32 → length (stanza_text (x25519_stanza share body)) ≡ 98
x25519_size share body size body_size =
    let t = base64_text share in
    let b = base64_text body in
    ap length (x25519_text share body body_size)
    ∙ omega (
      arith,
      size,
      body_size,
      length-text share,
      length-text body,
      length-append (codes "-> X25519 ") t,
      length-append (codes "-> X25519 " ++ t) (codes "\n"),
      length-append ((codes "-> X25519 " ++ t) ++ codes "\n") b,
      length-append (((codes "-> X25519 " ++ t) ++ codes "\n") ++ b) (codes "\n"),
    )

-- it is a stanza
pub x25519_valid : (share body : List ℕ) → length share ≡ 32 → IsBytes share → IsBytes body → IsStanza (x25519_stanza share body)
x25519_valid share body size fits body_fits = record {
  some_argument = omega arith;
  arguments = (
    (omega arith, visible_from_test (codes "X25519") refl),
    ((omega (arith, length-text share, size), text_visible share fits), tt),
  );
  body = body_fits;
}

-- ---- A header with the stanza alone.

-- a header whose lines are a stanza's has that stanza alone
only_stanza : (s : Stanza) (h : Header) → IsStanza s → HasLines (stanza_text s) h → h.stanzas ≡ s ∷ []
only_stanza s h valid has =
    let own : Header = record { stanzas = s ∷ []; mac = h.mac } in
    let spells = has.text.1.spells in
    let same : head_text h ≡ head_text own = ap (λ (l : List ℕ). line version ++ (l ++ line (end_line h.mac)))
    (sym has.lines_are ∙ sym (append-nil (stanza_text s))) in
    let spells_own : Spells own (head_text own) = record {
      valid = record { some_stanza = omega arith; stanzas = (valid, tt); mac_length = spells.valid.mac_length; mac = spells.valid.mac };
      bytes_are = refl;
    } in
    ap (λ (k : Header). k.stanzas)
    (one_header h own has.text.0 (head_text own) [] [] spells spells_own (ap (λ (l : List ℕ). l ++ []) (spells.bytes_are ∙ same))).0

module _ (x : Shared) (share key : List ℕ) (some_secret : ¬ (x.secret ≡ replicate 32 0)) (fits : IsBytes share)
    (share_size : length share ≡ 32) (key_size : length key ≡ 16) where
  abbrev body : List ℕ
  body = wrapped_key (shared_wrap_key x share) key

  abbrev own : Stanza
  own = x25519_stanza share body

  long : length body ≡ 32
  unfolding wrapped_key
  long = omega (arith, length-sealing (shared_wrap_key x share) (replicate 12 0) [] key)

  own_is : IsX25519Stanza own share body
  own_is = record { args = refl; body_is = refl; share_bytes = fits; share_length = share_size; body_length = long }

  own_opens : OpensTo x own key
  own_opens = record { share = share; body = body; stanza = own_is; opens = refl }

  one_share : (other rest : List ℕ) → IsX25519Stanza own other rest → other ≡ share
  one_share other rest it =
      one_text other share it.share_bytes fits (ap (λ (args : List (List ℕ)). get_or args 1 []) (sym it.args))

  -- it opens to no other key
  one_key : (other : List ℕ) → OpensTo x own other → other ≡ key
  unfolding wrapped_key
  one_key other it =
      let same = one_share it.share it.body it.stanza in
      one_sealed (shared_wrap_key x share) (replicate 12 0) [] other key
      (ap (λ (s : List ℕ). wrapped_key (shared_wrap_key x s) other) (sym same) ∙ (sym it.opens ∙ sym it.stanza.body_is))

  not_bad : ¬ IsBadStanza own
  not_bad bad = bad.1 share body own_is

  first_is : (before after : List Stanza) (s : Stanza) → own ∷ [] ≡ before ++ s ∷ after → s ≡ own
  first_is [] after s e = ap (λ (ss : List Stanza). get_or ss 0 s) (sym e)
  first_is (b ∷ before) after s e =
      let none : 0 ≡ length (before ++ s ∷ after) = ap (λ (ss : List Stanza). length (drop 1 ss)) e in
      absurd (omega (arith, none, length-append before (s ∷ after)))

  typed : (h : Header) → h.stanzas ≡ own ∷ [] → list_any is_x25519 h.stanzas ≡ true
  typed h one = ap (list_any is_x25519) one

  at_own : (s : Stanza) (i : ℕ) → i < 1 → get_or (own ∷ []) i s ≡ s → s ≡ own
  at_own s zero lt e = sym e
  at_own s (suc i) lt e = absurd (omega arith)

  none_bad : (h : Header) → h.stanzas ≡ own ∷ [] → ¬ Any IsBadStanza h.stanzas
  none_bad h one any =
      let it : Any IsBadStanza (own ∷ []) = subst (Any IsBadStanza) one any in
      not_bad (subst IsBadStanza (at_own it.1 it.0 it.2 it.3) it.4)

  refuses_none : (h : Header) → h.stanzas ≡ own ∷ [] → (fault : KeyFault) → SharedRefuses x h fault → fault ≡ Memory
  refuses_none h one NoMatch r = absurd (false≢true (sym r ∙ typed h one))
  refuses_none h one BadX25519 (is, inl nil) = absurd (some_secret nil)
  refuses_none h one BadX25519 (is, inr any) = absurd (none_bad h one any)
  refuses_none h one WrongKey r = absurd ((subst (AllByRecursion (StaysShut x)) one r.2).0 key own_opens)
  refuses_none h one fault r = absurd r

  shared_alone : (h : Header) → h.stanzas ≡ own ∷ [] → IsMacOf h key → AllowsAlone (IsSharedKey x) (SharedRefuses x) h key
  shared_alone h one mac = record {
    alone = not_beside h own one;
    allowed = (
      record { secret = some_secret; stanzas = rw one (not_bad, tt) },
      record { before = []; stanza = own; after = []; parts = one; shut = tt; opens = own_opens },
    );
    no_other = λ other found.
        one_key other (subst (λ (s : Stanza). OpensTo x s other) (first_is found.1.before found.1.after found.1.stanza (sym one ∙ found.1.parts)) found.1.opens);
    never = refuses_none h one;
    mac = mac;
  }

-- ---- The law.

pub keys_open : KeysOpen
keys_open = (
  λ pass work most random allowed within size fits.
      opens_alone (record { pass = pass; max_log = most }) work (salt_in random) (key_in random) allowed.least_log allowed.most_log within
      (omega (arith, size, length-drop 16 random, length-take 16 (drop 16 random))) (IsBytes-take 16 (drop 16 random) (IsBytes-drop 16 random fits))
      (omega (arith, size, length-take 16 random)),
  λ key header alone mac. record {
    alone = alone;
    allowed = refl;
    no_other = λ other is. is;
    never = λ fault r. absurd r;
    mac = mac;
  },
  λ x share key lines header wraps has mac.
      let own : Stanza = x25519_stanza share (wrapped_key (shared_wrap_key x share) key) in
      shared_alone x share key wraps.some_secret wraps.share_bytes wraps.share_length wraps.key_length header
      (only_stanza own header wraps.valid (subst (λ (l : List ℕ). HasLines l header) wraps.text has)) mac,
)

-- ---- From an encoder to a decoder.

gives_back : (key : DecoderKey) (header : Header) (k nonce text file : List ℕ) → FileOf header k nonce text file
    → AllowsAlone (Allows key) (Refuses key) header k → chunk_count chunk_length text ≤ chunk_limit → GivesBack key k nonce text file
gives_back key header k nonce text file it alone few d begun heads are of = (
  (it.front, decoders_open_files key header k nonce text file it alone d begun heads are of),
  λ some calls made given closed.
      decoders_read_back key header k nonce text file it alone d begun heads are of some calls made given few closed,
)

pub encoders_are_read : EncodersAreRead
encoders_are_read s written before after calls last are is_call is_end ok = (
  λ pass work most random it within fits.
      let call = it.meant (λ is. omega (arith, is)) in
      let wrote = writes _ _ _ _ s calls last (it.begun refl) it.empty are is_call is_end ok in
      gives_back (passphrase pass most) (scrypt_head pass work (salt_in random) (key_in random)) (key_in random) (nonce_in random) (text_taken calls)
      (take written after ++ (bytes_written calls ++ last.bytes)) wrote.0 (keys_open.0 pass work most random call.allowed within call.bytes fits) wrote.1,
  λ lines random it.
      let begun = it.begun refl in
      let wrote = writes begun.0 _ _ _ s calls last begun.3 it.empty are is_call is_end ok in (
        gives_back (file_key (take 16 random)) begun.0 (take 16 random) (drop 16 random) (text_taken calls)
            (take written after ++ (bytes_written calls ++ last.bytes)) wrote.0 (keys_open.1 (take 16 random) begun.0 begun.2 begun.3.mac) wrote.1,
        λ x share wraps.
            gives_back (shared x.secret x.recipient) begun.0 (take 16 random) (drop 16 random) (text_taken calls)
            (take written after ++ (bytes_written calls ++ last.bytes)) wrote.0
            (keys_open.2 x share (take 16 random) lines begun.0 wraps begun.1 begun.3.mac) wrote.1,
      ),
)
