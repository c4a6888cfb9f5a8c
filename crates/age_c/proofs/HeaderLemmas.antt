-- What is told of a header and its stanzas, and where it ends.
use Rattle.std.proofs.lemmas.Grind.{common_steps}
use Rattle.std.proofs.Common.{◌≡◌, ℕ, ◌+◌, ◌-◌, ◌<◌, ◌≤◌, List, [], ◌∷◌, ◌++◌, length, take, drop, min, refl, sym, ap, ◌∙◌, arith, get_or, set, ap₂, subst}
use Rattle.std.specs.Prelude.{codes, get_or, nat_eq}
use Rattle.std.specs.List.{flat_map, AllByRecursion, starts_with}
use Rattle.std.proofs.lemmas.List.{append_assoc, drop_at, length-append, take_at, take-append-drop, drop-drop, drop_more, length-take, take_more_set}
use Rattle.std.proofs.lemmas.List.{append-nil, get_or_at}
use Rattle.std.proofs.lemmas.List.Concat.{flat_map-append}
use Rattle.std.proofs.lemmas.Slice.{drop-put_mid, take-put_mid}
use Rattle.age_stanza.specs.{IsStanza, argument_line, end_line, head_text, in_lines, line, stanza_text, version, header_limit, stanzas_text, base64_text}
use Rattle.age_stanza.specs.declared.header.Header.{Header}
use Rattle.age_stanza.specs.declared.header.Stanza.{Stanza}
use Rattle.age_stanza.proofs.LineLemmas.{spaced}
use Rattle.age_stanza.proofs.{All-back, length-body, written_next, length-text}
use Rattle.age_keys.specs.{IsScryptStanza}
use Rattle.age_keys.proofs.{work_factor_some}
use Rattle.age_c.specs.{HasStanza, IsWork, HasStanzas, bodies_of, HasHead, HasFront}
use Rattle.age_c.specs.inner.Tries.{EndsAt}
use borrow.Rule.Slice.PartMut.{put_mid}
use Rattle.age_c.specs.declared.stanza_place.StanzaPlace.{StanzaPlace}
use Rattle.age_c.specs.inner.{place_of, places_from}

-- ---- the work factor

-- what was read of the only stanza is the header's work factor
pub work_from : (h : Header) (s : Stanza) (salt body : List ℕ) (log work : ℕ) → h.stanzas ≡ s ∷ [] → work ≡ min log 4294967295
    → IsScryptStanza s salt log body → IsWork h work
work_from h s salt body log work one is valid =
    let least = work_factor_some valid.characters valid.work_factor in
    let log_is = valid.log_is in
    record {
      some = λ _. (record { stanza = s; alone = one; salt = salt; log = log; body = body; valid = valid }, is);
      none = λ zero _. absurd (omega (arith, zero, is));
    }

-- a stanza that isn't valid has none
pub no_work : (h : Header) (s : Stanza) → h.stanzas ≡ s ∷ []
    → ((salt : List ℕ) (log : ℕ) (body : List ℕ) → IsScryptStanza s salt log body → ⊥) → IsWork h 0
no_work h s one none = record {
  some = λ other. absurd (other refl);
  none = λ _ only. let same : only.stanza ≡ s = cc (only.alone, one) in
      none only.salt only.log only.body (rw same at only.valid);
}

-- ---- how long texts are

-- a stanza's text, by its parts
pub length-stanza : (s : Stanza) → length (stanza_text s) ≡ length (spaced s.args) + length (in_lines (base64_text s.body)) + 3
length-stanza s = grind (arith, common_steps, length-append)

-- a body is no longer than its lines
pub body_within : (body : List ℕ) → length body ≤ length (in_lines (base64_text body))
body_within body = grind (arith, common_steps, length-body)

-- ---- where a stanza stands

-- a header's text: what is before a stanza, its text, and what follows
pub head_parts : (h : Header) (before after : List Stanza) (s : Stanza) → h.stanzas ≡ before ++ s ∷ after
    → head_text h ≡ stanzas_text before ++ (stanza_text s ++ (flat_map stanza_text after ++ line (end_line h.mac)))
head_parts h before after s parts = grind (arith, common_steps, append_assoc, flat_map-append)

-- the arguments of a stanza that has some, without the space before them
abbrev pub letters : List (List ℕ) → List ℕ
letters args = drop 1 (spaced args)

spaced_is : (args : List (List ℕ)) → 0 < length args → spaced args ≡ 32 ∷ letters args
spaced_is [] some = absurd (omega arith)
spaced_is (a ∷ args) some = refl

-- a stanza's text begins with its mark and they follow
marked : (args : List (List ℕ)) (w lines more : List ℕ) → spaced args ≡ 32 ∷ w
    → (line (argument_line args) ++ lines) ++ more ≡ codes "-> " ++ (w ++ ((10 ∷ lines) ++ more))
marked args w lines more e = grind (arith, common_steps, append_assoc)

-- where they stand
args_there : (front lines letters rest : List ℕ) (at : ℕ) → front ≡ lines ++ (letters ++ rest) → at ≡ length lines
    → (take (length letters) (drop at front) ≡ letters) × (at + length letters ≤ length front)
args_there front lines letters rest at e is = grind (arith, common_steps, drop_at, length-append, take_at)

-- what is told of it
pub has_stanza : (front : List ℕ) (h : Header) (len : ℕ) (before after : List Stanza) (s : Stanza) (args_at args_len : ℕ) (body : List ℕ)
    → HasHead front h len → h.stanzas ≡ before ++ s ∷ after
    → args_at ≡ length (stanzas_text before) + 3 → args_len ≡ length (spaced s.args) - 1 → body ≡ s.body
    → HasStanza front h (length before) args_at args_len body
has_stanza front h len before after s args_at args_len body has parts at_is len_is body_is =
    let valid : AllByRecursion IsStanza (before ++ s ∷ after) = rw (← parts) has.text.spells.valid.stanzas in
    let spaces = spaced_is s.args (All-back IsStanza before (s ∷ after) valid).0.some_argument in
    let rest : List ℕ = flat_map stanza_text after ++ line (end_line h.mac) in
    let behind : List ℕ = (10 ∷ in_lines (base64_text s.body)) ++ (rest ++ drop len front) in
    let text : front ≡ (stanzas_text before ++ codes "-> ") ++ (letters s.args ++ behind) =
    sym (take-append-drop len front) ∙ (ap (λ (t : List ℕ). t ++ drop len front) (has.text.spells.bytes_are ∙ head_parts h before after s parts)
    ∙ (append_assoc (stanzas_text before) (stanza_text s ++ rest) (drop len front) ∙ (ap (λ (t : List ℕ). stanzas_text before ++ t)
    (append_assoc (stanza_text s) rest (drop len front)
    ∙ marked s.args (letters s.args) (in_lines (base64_text s.body)) (rest ++ drop len front) spaces)
    ∙ sym (append_assoc (stanzas_text before) (codes "-> ") (letters s.args ++ behind))))) in
    let size = ap length spaces in
    let there = args_there front (stanzas_text before ++ codes "-> ") (letters s.args) behind args_at text
    (omega (arith, at_is, length-append (stanzas_text before) (codes "-> "))) in
    let length_is : args_len ≡ length (letters s.args) = omega (arith, len_is, size) in
    record {
      before = before;
      stanza = s;
      after = after;
      parts = parts;
      index_is = refl;
      at = at_is;
      args = ap (λ (n : ℕ). 32 ∷ take n (drop args_at front)) length_is ∙ ap (λ (t : List ℕ). 32 ∷ t) there.0 ∙ sym spaces;
      within = omega (arith, length_is, there.1);
      body_is = body_is;
    }

-- ---- All stanzas, and their bodies.

-- ---- how long the parts are

-- the stanzas stand within the header, and the header within the bytes
pub stanzas_within : (front : List ℕ) (h : Header) (len : ℕ) → HasHead front h len
    → (length (stanzas_text h.stanzas) ≤ header_limit) × (length (stanzas_text h.stanzas) ≤ length front)
stanzas_within front h len has = grind (arith, common_steps, length-append, length-take)

-- bodies are no longer than the stanzas that they are in
pub bodies_within : (ss : List Stanza) → length (bodies_of ss) ≤ length (flat_map stanza_text ss)
bodies_within [] = omega arith
bodies_within (s ∷ ss) =
    let more = bodies_within ss in
    let first = length-stanza s in
    let body = body_within s.body in
    omega (arith, length-append s.body (bodies_of ss), length-append (stanza_text s) (flat_map stanza_text ss))

-- ---- a loop that puts the place of each stanza

-- how long the texts from a stanza on are
pub stanzas_next : (ss : List Stanza) (i : ℕ) (s : Stanza) → i < length ss → s ≡ get_or ss i s
    → length (flat_map stanza_text (drop i ss)) ≡ length (stanza_text s) + length (flat_map stanza_text (drop (i + 1) ss))
stanzas_next ss i s lt is = grind (arith, common_steps, drop_more, length-append)

pub place_next : (places next : List StanzaPlace) (ss : List Stanza) (i at body_at : ℕ) (s : Stanza) (all : List StanzaPlace)
    → i < length ss → s ≡ get_or ss i s → i < length places → next ≡ set places i (place_of at body_at s)
    → take i places ++ places_from at body_at (drop i ss) ≡ all
    → take (i + 1) next ++ places_from (at + length (stanza_text s)) (body_at + length s.body) (drop (i + 1) ss) ≡ all
place_next places next ss i at body_at s all lt is room put told = grind (arith, common_steps, append_assoc, drop_more, take_more_set)

-- ---- a loop that puts the body of each stanza

-- what holds after one more was put at its place
pub record IsPut (ss : List Stanza) (i n : ℕ) (initial out : List ℕ) : Type 0 where
  pub most : n ≤ length out
  pub told : take n out ++ bodies_of (drop i ss) ≡ bodies_of ss
  pub after : drop n out ≡ drop n initial

pub body_next : (ss : List Stanza) (i : ℕ) (s : Stanza) (n k : ℕ) (out initial put body : List ℕ) → i < length ss → s ≡ get_or ss i s
    → body ≡ s.body → put ≡ body → k ≡ length body → length (bodies_of ss) ≤ length out → IsPut ss i n initial out
    → IsPut ss (i + 1) (n + length body) initial (put_mid n k out put)
body_next ss i s n k out initial put body lt is body_is put_is k_is room was =
    grind (arith, common_steps, drop-drop, drop-put_mid, drop_more, length-append, length-take, take-put_mid, written_next)

-- ---- what is told of all stanzas

-- the bytes of a body, after those of the stanzas before it
body_there : (done rest : List Stanza) (s : Stanza) → (take (length s.body) (drop (length (bodies_of done)) (bodies_of (done ++ s ∷ rest))) ≡ s.body)
    × (length (bodies_of done) + length s.body ≤ length (bodies_of (done ++ s ∷ rest)))
body_there done rest s = grind (arith, common_steps, drop_at, flat_map-append, length-append, take_at)

-- what is told of the stanza at one place
abbrev Told : List ℕ → Header → ℕ → StanzaPlace → Type 0
Told front h index it =
    HasStanza front h index it.args_at it.args_len (take it.body_len (drop it.body_at (bodies_of h.stanzas)))
    × (it.body_at + it.body_len ≤ length (bodies_of h.stanzas))

told_one : (front : List ℕ) (h : Header) (len : ℕ) (done rest : List Stanza) (s : Stanza) → HasHead front h len → h.stanzas ≡ done ++ s ∷ rest
    → Told front h (length done) (place_of (length (stanzas_text done)) (length (bodies_of done)) s)
told_one front h len done rest s has parts = grind (arith, common_steps, body_there, has_stanza)

told_from : (front : List ℕ) (h : Header) (len at body_at : ℕ) (done rest : List Stanza) → HasHead front h len
    → h.stanzas ≡ done ++ rest → at ≡ length (stanzas_text done) → body_at ≡ length (bodies_of done)
    → (before : List StanzaPlace) (it : StanzaPlace) (after : List StanzaPlace)
    → places_from at body_at rest ≡ before ++ it ∷ after → Told front h (length done + length before) it
told_from front h len at body_at done [] has parts at_is body_is [] it after is = cc
told_from front h len at body_at done [] has parts at_is body_is (b ∷ before) it after is = cc
told_from front h len at body_at done (s ∷ rest) has parts at_is body_is [] it after is =
    let place : place_of (length (stanzas_text done)) (length (bodies_of done)) s ≡ it =
    ap₂ (λ (n m : ℕ). place_of n m s) (sym at_is) (sym body_is) ∙ cc is in
    let index : length done ≡ length done + 0 = omega arith in
    subst (λ (n : ℕ). Told front h n it) index (subst (Told front h (length done)) place (told_one front h len done rest s has parts))
told_from front h len at body_at done (s ∷ rest) has parts at_is body_is (b ∷ before) it after is =
    let more : List Stanza = done ++ s ∷ [] in
    let text : at + length (stanza_text s) ≡ length (stanzas_text more) = omega (
      arith,
      at_is,
      length-append (line version) (flat_map stanza_text done),
      length-append (line version) (flat_map stanza_text more),
      ap length (flat_map-append stanza_text done (s ∷ [])),
      length-append (flat_map stanza_text done) (stanza_text s ++ []),
      length-append (stanza_text s) [],
    ) in
    let bodies : body_at + length s.body ≡ length (bodies_of more) = omega (
      arith,
      body_is,
      ap length (flat_map-append (λ (t : Stanza). t.body) done (s ∷ [])),
      length-append (bodies_of done) (s.body ++ []),
      length-append s.body [],
    ) in
    let index : length more + length before ≡ length done + length (b ∷ before) = omega (arith, length-append done (s ∷ [])) in
    subst (λ (n : ℕ). Told front h n it) index (told_from front h len (at + length (stanza_text s)) (body_at + length s.body) more rest has
    (parts ∙ sym (append_assoc done (s ∷ []) rest)) text bodies before it after (cc is))

length-places : (at body_at : ℕ) (ss : List Stanza) → length (places_from at body_at ss) ≡ length ss
length-places at body_at [] = refl
length-places at body_at (s ∷ ss) = omega (arith, length-places (at + length (stanza_text s)) (body_at + length s.body) ss)

pub has_stanzas : (front : List ℕ) (h : Header) (len : ℕ) (places : List StanzaPlace) (bodies : List ℕ) → HasHead front h len
    → places ≡ places_from 22 0 h.stanzas → bodies ≡ bodies_of h.stanzas → HasStanzas front h places bodies
has_stanzas front h len places bodies has told bodies_are = record {
  all = ap length told ∙ length-places 22 0 h.stanzas;
  bodies_are = bodies_are;
  each = λ before it after is. let from : Told front h (length before) it =
      subst (λ (n : ℕ). Told front h n it) (omega arith)
      (told_from front h len 22 0 [] h.stanzas has refl refl refl before it after (sym told ∙ is)) in
      subst (λ (t : List ℕ). HasStanza front h (length before) it.args_at it.args_len (take it.body_len (drop it.body_at t))
      × (it.body_at + it.body_len ≤ length t)) (sym bodies_are) from;
}

-- ---- Where a header ends.

-- the bytes are whole lines, at least in that an LF is their last
abbrev Ended : List ℕ → Type 0
Ended bytes = (before : List ℕ) × (bytes ≡ before ++ 10 ∷ [])

ended-append : (a b : List ℕ) → Ended b → Ended (a ++ b)
ended-append a b e = (a ++ e.0, ap (λ (b : List ℕ). a ++ b) e.1 ∙ sym (append_assoc a e.0 (10 ∷ [])))

ended_body : (characters : List ℕ) → Ended (in_lines characters)
unfolding in_lines
ended_body characters = ended-append _ _ (_, refl)

ended_stanzas : (ss : List Stanza) (base : List ℕ) → Ended base → Ended (base ++ flat_map stanza_text ss)
ended_stanzas [] base e = (e.0, append-nil base ∙ e.1)
ended_stanzas (s ∷ ss) base e =
    let here : Ended (base ++ stanza_text s) =
    ended-append base (stanza_text s)
    (ended-append (line (argument_line s.args)) (in_lines (base64_text s.body)) (ended_body (base64_text s.body))) in
    let more = ended_stanzas ss (base ++ stanza_text s) here in
    (more.0, sym (append_assoc base (stanza_text s) (flat_map stanza_text ss)) ∙ more.1)

-- the lines before the end line, without their last LF
before_end : (h : Header) → (before : List ℕ) × (head_text h ≡ before ++ (10 ∷ codes "--- " ++ (base64_text h.mac ++ 10 ∷ [])))
before_end h =
    let lines = ended_stanzas h.stanzas (line version) (version, refl) in
    let last = line (end_line h.mac) in (
      lines.0,
      sym (append_assoc (line version) (flat_map stanza_text h.stanzas) last) ∙ (ap (λ (t : List ℕ). t ++ last) lines.1
          ∙ (append_assoc lines.0 (10 ∷ []) last
          ∙ ap (λ (t : List ℕ). lines.0 ++ (10 ∷ t)) (append_assoc (codes "--- ") (base64_text h.mac) (10 ∷ [])))),
    )

-- so a header that is whole, with its nonce, ends so
pub front_ends : (front : List ℕ) (header : Header) (len : ℕ) → HasFront front header len → (at : ℕ) × (at + 49 ≡ len) × EndsAt front at
front_ends front header len has =
    let lines = before_end header in
    let before = lines.0 in
    let mac = base64_text header.mac in
    let rest = drop len front in
    let text : take len front ≡ before ++ (10 ∷ codes "--- " ++ (mac ++ 10 ∷ [])) =
    has.text.spells.bytes_are ∙ lines.1 in
    let mac_size : length mac ≡ 43 = omega (arith, length-text header.mac, has.text.spells.valid.mac_length) in
    let size : length before + 49 ≡ len = omega (
      arith,
      has.within,
      length-take len front,
      ap length text,
      length-append before (10 ∷ codes "--- " ++ (mac ++ 10 ∷ [])),
      length-append mac (10 ∷ []),
      mac_size,
    ) in
    let there : drop (length before) front ≡ 10 ∷ codes "--- " ++ (mac ++ 10 ∷ rest) =
    ap (drop (length before)) (sym (take-append-drop len front) ∙ ap (λ (t : List ℕ). t ++ rest) text)
    ∙ (ap (drop (length before)) (append_assoc before (10 ∷ codes "--- " ++ (mac ++ 10 ∷ [])) rest) ∙ (drop_at before _ (length before) refl
    ∙ ap (λ (t : List ℕ). 10 ∷ codes "--- " ++ t) (append_assoc mac (10 ∷ []) rest))) in (
      length before,
      size,
      record {
        within = omega (arith, size, has.within);
        begins = ap (λ (d : List ℕ). starts_with nat_eq d (10 ∷ codes "--- ")) there;
        ends = ap (λ (d : List ℕ). get_or d 48 0) there ∙ get_or_at (10 ∷ codes "--- " ++ mac) 10 rest 0 48 (omega (arith, mac_size));
      },
    )
