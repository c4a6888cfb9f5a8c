-- What stands before a payload: a header that is made of the lines of its stanzas, or for a passphrase.
use Rattle.std.proofs.lemmas.Grind.{common_steps}
use Rattle.std.proofs.Common.{◌≡◌, ◌≢◌, ℕ, ◌+◌, ◌<◌, ◌≤◌, List, [], ◌∷◌, ◌++◌, length, take, drop, get_or, zero, suc, refl, sym, ap, subst, ◌∙◌}
use Rattle.std.proofs.Common.{arith}
use Rattle.std.specs.Prelude.{codes, replicate}
use Rattle.std.specs.List.{flat_map}
use Rattle.std.proofs.lemmas.List.{append-nil, drop_at, length-append, length-take, take_all, take_at, take-append-drop}
use Rattle.age_stanza.specs.{HeadText, end_line, head_text, line, stanza_text, version, OneHeader, HasHeader, base64_text}
use Rattle.age_stanza.specs.declared.header.Header.{Header}
use Rattle.age_stanza.proofs.{bytes_from_pass, length-text, text-three, text-two, length-head}
use Rattle.age_keys.specs.{IsMacOf, header_mac, wrapped_key, scrypt_head}
use Rattle.age_keys.proofs.{other_mac, scrypt_size, size_of_one}
use Rattle.age_c.specs.{HasHead, HasNoHead, start_fault_number, HasLines, IsFileFront}
use Rattle.age_c.specs.declared.start.StartFault.{StartFault}
use Rattle.age_c.specs.inner.{zero_text}
use Rattle.age_cipher.proofs.SealingLemmas.{length-sealing}

-- ---- another MAC

pub with_mac : (lines mac : List ℕ) (h : Header) → HasLines lines h → length mac ≡ 32 → ((i : ℕ) → get_or mac i 0 < 256)
    → HasLines lines (record { stanzas = h.stanzas; mac = mac })
with_mac lines mac h has size bytes = record { text = other_mac h mac has.text size bytes; lines_are = has.lines_are }

-- the MAC covers the stanzas alone
pub mac_made : (key mac : List ℕ) (h : Header) → mac ≡ header_mac key h → IsMacOf (record { stanzas = h.stanzas; mac = mac }) key
unfolding header_mac
mac_made key mac h is = is

-- ---- the text with a MAC of zeros

abbrev zeros : List ℕ
zeros = replicate 32 0

-- three of them are four letters A
abbrev threes : ℕ → List ℕ
threes zero = 0 ∷ 0 ∷ []
threes (suc n) = 0 ∷ 0 ∷ 0 ∷ threes n

abbrev fours : ℕ → List ℕ
fours zero = codes "AAA"
fours (suc n) = 65 ∷ 65 ∷ 65 ∷ 65 ∷ fours n

zero_letters : (n : ℕ) → base64_text (threes n) ≡ fours n
zero_letters zero = text-two 0 0
zero_letters (suc n) = text-three 0 0 0 (threes n) ∙ ap (λ (t : List ℕ). 65 ∷ 65 ∷ 65 ∷ 65 ∷ t) (zero_letters n)

-- its last line
pub zero_line : codes "--- AAAAAAAAAAAAAAAAAAAAAAAAAAAAAAAAAAAAAAAAAAA\n" ≡ line (end_line (replicate 32 0))
zero_line = ap (λ (t : List ℕ). line (codes "--- " ++ t)) (sym (zero_letters 10))

abbrev with_zeros : Header → Header
with_zeros h = record { stanzas = h.stanzas; mac = zeros }

-- if a header's stanzas have the lines, the text is one of these stanzas
zero_head : (lines : List ℕ) (h : Header) → HasLines lines h → HeadText (with_zeros h) (zero_text lines)
zero_head lines h has =
    let other = other_mac h zeros has.text refl (bytes_from_pass zeros refl) in
    let same : other.0 ≡ zero_text lines =
    other.1.spells.bytes_are ∙ ap (λ (t : List ℕ). line version ++ (t ++ line (end_line zeros))) (sym has.lines_are) in
    subst (HeadText (with_zeros h)) same other.1

has_header : (lines : List ℕ) (h : Header) → HasLines lines h → HasHeader (zero_text lines)
has_header lines h has = (with_zeros h, zero_text lines, [], zero_head lines h has, sym (append-nil (zero_text lines)))

-- and whatever header is read of it is all of the text
read_whole : OneHeader → (lines : List ℕ) (h p : Header) (len : ℕ) → HasLines lines h → HasHead (zero_text lines) p len
    → length (zero_text lines) ≤ len
read_whole law lines h p len has head =
    let text : List ℕ = zero_text lines in
    let one = law p (with_zeros h) (take len text) text (drop len text) [] head.text.spells (zero_head lines h has).spells
    (take-append-drop len text ∙ sym (append-nil text)) in
    omega (arith, length-take len text, ap length one.1)

-- so no header has the lines if less is read
pub none_of_lines : OneHeader → (lines text : List ℕ) (p : Header) (len : ℕ) → text ≡ zero_text lines → HasHead text p len
    → len < length (zero_text lines) → (h : Header) → ¬ HasLines lines h
none_of_lines law lines text p len same head short h has =
    absurd (omega (arith, short, read_whole law lines h p len has (rw same at head)))

-- what is refused, and not for want of memory, begins with no header
no_header : (front : List ℕ) (fault : StartFault) → HasNoHead front fault → start_fault_number fault ≢ 28 → ¬ HasHeader front
no_header front fault h0 h1 = grind (arith, common_steps)

-- and is made of no header's lines
pub no_lines : (lines text : List ℕ) (fault : StartFault) → text ≡ zero_text lines → HasNoHead text fault → start_fault_number fault ≢ 28
    → (h : Header) → ¬ HasLines lines h
no_lines lines text fault same none other h has = no_header (zero_text lines) fault (rw same at none) other (has_header lines h has)

-- ---- what was read of that text

length_end : (mac : List ℕ) → length mac ≡ 32 → length (line (end_line mac)) ≡ 48
length_end mac long = omega (arith, long, length-append (end_line mac) (10 ∷ []), length-append (codes "--- ") (base64_text mac), length-text mac)

pub lines_read : (lines bytes : List ℕ) (p : Header) (len : ℕ) → bytes ≡ zero_text lines → HasHead bytes p len → length (zero_text lines) ≤ len
    → HasLines lines p
lines_read lines bytes p len same read whole =
    let head = rw same at read in
    let text : List ℕ = zero_text lines in
    let last : List ℕ = line (end_line zeros) in
    let ending : List ℕ = line (end_line p.mac) in
    let stanzas : List ℕ = flat_map stanza_text p.stanzas in
    let all : text ≡ head_text p = sym (take_all len text whole) ∙ head.text.spells.bytes_are in
    let rest : lines ++ last ≡ stanzas ++ ending =
    sym (drop_at (line version) (lines ++ last) 22 refl) ∙ (ap (drop 22) all ∙ drop_at (line version) (stanzas ++ ending) 22 refl) in
    let size : length lines ≡ length stanzas = omega (
      arith,
      ap length rest,
      length-append lines last,
      length-append stanzas ending,
      length_end zeros refl,
      length_end p.mac head.text.spells.valid.mac_length,
    ) in
    record {
      text = (take len text, head.text);
      lines_are = sym (take_at lines last (length lines) refl) ∙ (ap (take (length lines)) rest ∙ take_at stanzas ending (length lines) (sym size));
    }

-- ---- how long what stands before the payload is

pub key_front_size : (lines nonce bytes : List ℕ) (h : Header) → HasLines lines h → IsFileFront h nonce bytes → length bytes ≤ length lines + 256
key_front_size lines nonce bytes h has front = grind (arith, common_steps, length-append, length-head)

-- ---- How long the header of a passphrase is.

wrapped_size : (wrap key : List ℕ) → length key ≡ 16 → length (wrapped_key wrap key) ≡ 32
unfolding wrapped_key
wrapped_size wrap key size = omega (arith, length-sealing wrap (replicate 12 0) [] key, size)

head_size : (pass salt key : List ℕ) (work : ℕ) → length salt ≡ 16 → length key ≡ 16 → work ≤ 22 → length (scrypt_head pass work salt key).mac ≡ 32
    → length (head_text (scrypt_head pass work salt key)) ≤ 170
unfolding scrypt_head
head_size pass salt key work size key_size few mac = grind (arith, common_steps, scrypt_size, size_of_one, wrapped_size)

pub front_size : (pass : List ℕ) (work : ℕ) (key salt nonce bytes : List ℕ)
    → IsFileFront (scrypt_head pass work salt key) nonce bytes → length salt ≡ 16 → length key ≡ 16 → work ≤ 22 → length bytes ≤ 256
front_size pass work key salt nonce bytes it size key_size few = grind (arith, common_steps, head_size, length-append)
