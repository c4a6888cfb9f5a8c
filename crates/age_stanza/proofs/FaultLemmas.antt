-- A line that is refused is the first faulty one, finished lines and a begun one have none, and no bytes have two first faults.
use Rattle.std.proofs.lemmas.Grind.{common_steps}
use Rattle.std.proofs.lemmas.Bool.Decides.{eqb_tells}
use Rattle.std.proofs.Common.{◌≡◌, ℕ, ◌<◌, ◌≤◌, ◌+◌, eqb, nat_eq, cond, List, [], ◌∷◌, ◌++◌, length, take, drop, Some, None, Ok, Err, refl, sym, ap, ap₂, subst}
use Rattle.std.proofs.Common.{◌∙◌, arith, inl, inr}
use Rattle.std.specs.Prelude.{count_by, if◌then◌else◌}
use Rattle.std.specs.List.{flat_map, AllByRecursion}
use Rattle.std.proofs.lemmas.Bool.{ne_eqb, cases_lt}
use Rattle.std.proofs.lemmas.Option.{none-some}
use Rattle.std.proofs.lemmas.List.{append-nil, append_assoc, append_cancel_left, length-append, same_from_push, take_all, take_at, take-append-drop}
use Rattle.std.proofs.lemmas.List.{take-append-le}
use Rattle.std.proofs.lemmas.List.Sums.{sum_by-append, sum_by-cons}
use Rattle.base64.specs.GeneralPurpose.{IsBytes}
use Rattle.age_stanza.specs.{Stanza, HeadKind, NotAge, Armored, BadStanzaLine, BadBody, BadEndLine, NoStanza, HeadTooLong, HeadCut, Memory, HeadFault, LineState}
use Rattle.age_stanza.specs.{Start, Between, InBody, Go, line, version, stanza_text, end_line, head_text, IsStanza, IsHeader, Spells, Begins, IsLine, AreLines}
use Rattle.age_stanza.specs.{FirstFault, stanzas_text, RefusesBetween, RefusesLine, line_after, NoFault, HasHeader, IsLineFault, IsFault, head_fault_number}
use Rattle.age_stanza.specs.inner.{base64_bytes, walk, step, arguments_of, fault_at, bytes_before, IsPlace, LeadTo, UnderWay, Fails}
use Rattle.age_stanza.proofs.TextLemmas.{bytes_from_pass, no_bytes, IsBytes-append, decoded-text, text-none}
use Rattle.age_stanza.proofs.LineLemmas.{tested, All-append, All-front, All-back}
use Rattle.age_stanza.proofs.PlaceLemmas.{stanzas_pushed, Reports, Leads, leads, walk_line, step_last, stanzas_walk, end_walk, text_walk}

-- ---- the number of a line

abbrev ends_line : ℕ → ℕ
ends_line c = cond (eqb c 10) 1 0

count_none : (l : List ℕ) → IsLine l → count_by (λ c. eqb c 10) l ≡ 0
count_none [] lined = refl
count_none (c ∷ l) lined =
    let other : ends_line c ≡ 0 = rw (ne_eqb c 10 lined.0) refl in
    sum_by-cons ends_line c l ∙ rw other (rw (count_none l lined.1) refl)

pub line_after-begun : (front l : List ℕ) → IsLine l → line_after (front ++ l) ≡ line_after front
line_after-begun front l lined = grind (arith, common_steps, count_none, sum_by-append)

pub line_after-line : (front l : List ℕ) → IsLine l → line_after (front ++ line l) ≡ line_after front + 1
line_after-line front l lined = grind (arith, common_steps, append_assoc, line_after-begun, sum_by-append)

-- ---- where finished lines lead

pub at_start : LeadTo Start 1
at_start = record { known = tt; reaches = λ rest. refl; line_is = refl; are_lines = inl refl; are_bytes = no_bytes }

pub next_lead : (place next : LineState) (n : ℕ) (l : List ℕ) → LeadTo place n → IsLine l → IsBytes l → step place l ≡ Ok (Go next) → LeadTo next (n + 1)
next_lead place next n l led lined fits e =
    let to = subst (Leads place l) e (leads place l led.known fits) in
    record {
      known = to.1;
      reaches = λ rest. ap (λ (t : List ℕ). walk Start [] (t ++ rest)) to.0 ∙ ap (walk Start []) (append_assoc (bytes_before place) (line l) rest)
          ∙ led.reaches (line l ++ rest) ∙ walk_line place l rest _ lined e;
      line_is = ap (λ k. k + 1) led.line_is ∙ sym (line_after-line (bytes_before place) l lined) ∙ ap line_after (sym to.0);
      are_lines = inr (bytes_before place ++ l, to.0 ∙ sym (append_assoc (bytes_before place) l (10 ∷ [])));
      are_bytes = subst IsBytes (sym to.0) (IsBytes-append (bytes_before place) (line l) led.are_bytes
          (IsBytes-append l (10 ∷ []) fits (bytes_from_pass (10 ∷ []) refl)));
    }

-- ---- each place can be completed

abbrev zeros : List ℕ
zeros = 0 ∷ 0 ∷ 0 ∷ 0 ∷ 0 ∷ 0 ∷ 0 ∷ 0 ∷ 0 ∷ 0 ∷ 0 ∷ 0 ∷ 0 ∷ 0 ∷ 0 ∷ 0 ∷ 0 ∷ 0 ∷ 0 ∷ 0 ∷ 0 ∷ 0 ∷ 0 ∷ 0 ∷ 0 ∷ 0 ∷ 0 ∷ 0 ∷ 0 ∷ 0 ∷ 0 ∷ 0 ∷ []

zeros_bytes : IsBytes zeros
zeros_bytes = bytes_from_pass zeros refl

abbrev letter : Stanza
letter = record { args = (120 ∷ []) ∷ []; body = [] }

letter_valid : IsStanza letter
letter_valid = record { some_argument = omega arith; arguments = ((omega arith, ((omega arith, omega arith), tt)), tt); body = no_bytes }

some_pushed : (ss : List Stanza) (s : Stanza) → 0 < length (ss ++ s ∷ [])
some_pushed [] s = omega arith
some_pushed (x ∷ ss) s = omega arith

pushed_valid : (ss : List Stanza) (s : Stanza) → AllByRecursion IsStanza ss → IsStanza s → IsHeader (record { stanzas = ss ++ s ∷ []; mac = zeros })
pushed_valid ss s known valid =
    record { some_stanza = some_pushed ss s; stanzas = All-append IsStanza ss (s ∷ []) known (valid, tt); mac_length = refl; mac = zeros_bytes }

begins_between : (ss : List Stanza) → AllByRecursion IsStanza ss → Begins (stanzas_text ss)
begins_between ss known =
    let end = line (end_line zeros) in (
      record { stanzas = ss ++ letter ∷ []; mac = zeros },
      stanza_text letter ++ end,
      record {
        valid = pushed_valid ss letter known letter_valid;
        bytes_are = sym (append_assoc (stanzas_text ss) (stanza_text letter) end) ∙ ap (λ (t : List ℕ). t ++ end) (sym (stanzas_pushed ss letter))
            ∙ append_assoc (line version) (flat_map stanza_text (ss ++ letter ∷ [])) end;
      },
    )

-- an empty line ends a body
empty_ends : (ss : List Stanza) (args : List (List ℕ)) (body : List ℕ)
    → step (InBody ss args body) [] ≡ Ok (Go (Between (ss ++ (record { args = args; body = body ++ [] }) ∷ [])))
empty_ends ss args body = step_last ss args body [] [] (omega arith) (subst (λ (t : List ℕ). base64_bytes t ≡ Some []) text-none (decoded-text [] no_bytes))

pub begins_front : (a b : List ℕ) → Begins (a ++ b) → Begins a
begins_front a b has = (has.0, b ++ has.1, subst (Spells has.0) (append_assoc a b has.1) has.2)

begins : (place : LineState) → IsPlace place → Begins (bytes_before place)
begins Start known = begins_front [] (stanzas_text []) (begins_between [] tt)
begins (Between ss) known = begins_between ss known
begins (InBody ss args body) known =
    let to = subst (Leads (InBody ss args body) []) (empty_ends ss args body) (leads (InBody ss args body) [] known no_bytes) in
    begins_front (bytes_before (InBody ss args body)) (line [])
    (subst Begins to.0 (begins_between (ss ++ (record { args = args; body = body ++ [] }) ∷ []) to.1))

-- ---- what is reported of a line that is refused

no_text : (ss : List Stanza) → [] ≡ stanzas_text ss → ⊥
no_text ss e = cc

not_first : (ss : List Stanza) (args : List (List ℕ)) (body : List ℕ) → bytes_before (InBody ss args body) ≡ [] → ⊥
not_first ss args body e = cc

-- an empty line is valid in a body, and between stanzas it isn't
empty_refused : (ss : List Stanza) (rest : List ℕ) → walk (Between ss) [] (line [] ++ rest) ≡ None
unfolding walk step arguments_of
empty_refused ss rest = refl

empty_goes : (ss : List Stanza) (args : List (List ℕ)) (body : List ℕ) → let s : Stanza = record { args = args; body = body ++ [] } in
    walk (InBody ss args body) [] (line [] ++ (line (end_line zeros) ++ [])) ≡ Some (record { stanzas = ss ++ s ∷ []; mac = zeros }, [])
empty_goes ss args body =
    walk_line (InBody ss args body) [] (line (end_line zeros) ++ []) _ tt (empty_ends ss args body) ∙ end_walk _ zeros [] (some_pushed ss _) refl zeros_bytes

not_between : (ss ts : List Stanza) (args : List (List ℕ)) (body : List ℕ) (n : ℕ) → LeadTo (InBody ss args body) n
    → AllByRecursion IsStanza ts → bytes_before (InBody ss args body) ≡ stanzas_text ts → ⊥
not_between ss ts args body n led valid e =
    let end : List ℕ = line (end_line zeros) ++ [] in
    none-some _ (sym (empty_refused ts end) ∙ sym (stanzas_walk ts (line [] ++ end) valid) ∙ ap (λ (b : List ℕ). walk Start [] (b ++ (line [] ++ end))) (sym e)
    ∙ led.reaches (line [] ++ end) ∙ empty_goes ss args body)

refuses : (place : LineState) (n : ℕ) (l : List ℕ) (kind : HeadKind) → LeadTo place n → Reports place l kind → RefusesLine (bytes_before place) l kind
refuses Start n l kind led reported =
    record { first = λ _. reported; between = λ ss valid is. absurd (no_text ss is); in_body = λ some _. absurd (some refl) }
refuses (Between ss) n l kind led reported =
    record { first = λ none. absurd (no_text ss (sym none)); between = λ ts valid is. reported; in_body = λ some other. absurd (other ss led.known refl) }
refuses (InBody ss args body) n l kind led reported = record {
  first = λ none. absurd (not_first ss args body none);
  between = λ ts valid is. absurd (not_between ss ts args body n led valid is);
  in_body = λ some other. reported;
}

-- ---- bytes that hold no header

-- where a walk finds no header, no header's text is whole
no_header : (bytes : List ℕ) → walk Start [] bytes ≡ None → HasHeader bytes → ⊥
no_header bytes none (h, front, rest, text, is) =
    none-some _ (sym none ∙ ap (walk Start []) (is ∙ ap (λ (t : List ℕ). t ++ rest) text.spells.bytes_are) ∙ text_walk h rest text.spells.valid)

walk_within : (place : LineState) (l w : List ℕ) → IsLine w → walk place l w ≡ None
unfolding walk
walk_within place l [] lined = refl
walk_within place l (c ∷ w) lined = rw (ne_eqb c 10 lined.0) (walk_within place (l ++ c ∷ []) w lined.1)

pub none_begun : (held : List ℕ) → UnderWay held → HasHeader held → ⊥
none_begun held h = no_header held (ap (walk Start []) h.parts ∙ h.led.reaches h.l ∙ walk_within h.place [] h.l h.one_line)

-- ---- a line that is refused

refused_walk : (place : LineState) (n : ℕ) (l rest : List ℕ) (kind : HeadKind) → LeadTo place n → IsLine l → step place l ≡ Err kind
    → walk Start [] (bytes_before place ++ (line l ++ rest)) ≡ None
refused_walk place n l rest kind led lined e = led.reaches (line l ++ rest) ∙ walk_line place l rest _ lined e

-- no text goes on after it
no_text_goes_on : (place : LineState) (n : ℕ) (l : List ℕ) (kind : HeadKind) → LeadTo place n → IsLine l → step place l ≡ Err kind
    → Begins (bytes_before place ++ line l) → ⊥
no_text_goes_on place n l kind led lined e (h, r, spells) =
    none-some _ (sym (refused_walk place n l r kind led lined e) ∙ ap (walk Start [])
    (sym (append_assoc (bytes_before place) (line l) r) ∙ spells.bytes_are ∙ sym (append-nil (head_text h))) ∙ text_walk h [] spells.valid)

line_of_kind : (kind : HeadKind) (n : ℕ) → (kind ≡ Memory → ⊥) → fault_at kind n ≡ record { kind = kind; line = n }
line_of_kind Memory n not = absurd (not refl)
line_of_kind kind n not = refl

-- and it is the fault of the bytes
pub line_fails : (place : LineState) (n : ℕ) (l : List ℕ) (kind : HeadKind) → LeadTo place n → IsLine l → IsBytes l → step place l ≡ Err kind
    → length (bytes_before place ++ line l) ≤ 1048576 → Fails (fault_at kind n) (bytes_before place ++ line l)
line_fails place n l kind led lined fits e room =
    let bytes = bytes_before place ++ line l in
    let to = subst (Leads place l) e (leads place l led.known fits) in
    let none = ap (λ (t : List ℕ). walk Start [] (bytes_before place ++ t)) (sym (append-nil (line l))) ∙ refused_walk place n l [] kind led lined e in
    let first : FirstFault bytes (bytes_before place) l = record {
      rest = [];
      parts = ap (λ (t : List ℕ). bytes_before place ++ t) (sym (append-nil (line l)));
      whole = led.are_lines;
      one_line = lined;
      valid_before = begins place led.known;
      faulty = no_text_goes_on place n l kind led lined e;
    } in
    rw (line_of_kind kind n to.1) (record {
      why = inr (
        no_header bytes none,
        inl (rw (take_all 1048576 bytes room) (bytes_before place, l, first, led.line_is, refuses place n l kind led to.0)),
      );
    })

-- ---- whole lines at the front of bytes

pub last_of : (x : ℕ) (xs : List ℕ) → (front : List ℕ) × (c : ℕ) × (x ∷ xs ≡ front ++ c ∷ [])
last_of x [] = ([], x, refl)
last_of x (y ∷ ys) =
    let deeper = last_of y ys in
    (x ∷ deeper.0, deeper.1, ap (λ (t : List ℕ). x ∷ t) deeper.2)

-- whole lines have no line begun after them
nothing_begun : (xs ys l : List ℕ) → IsLine l → xs ++ 10 ∷ [] ≡ ys ++ l → l ≡ []
nothing_begun xs ys [] lined e = refl
nothing_begun xs ys (x ∷ l) lined e =
    let last = last_of x l in
    let lined' : IsLine (last.0 ++ last.1 ∷ []) = subst IsLine last.2 lined in
    let other = All-back (λ c. c ≡ 10 → ⊥) last.0 (last.1 ∷ []) lined' in
    let both = same_from_push xs (ys ++ last.0) 10 last.1 (e ∙ ap (λ (t : List ℕ). ys ++ t) last.2 ∙ sym (append_assoc ys last.0 (last.1 ∷ []))) in
    absurd (other.0 (sym both.1))

begun_is_none : (before x : List ℕ) → AreLines (before ++ x) → IsLine x → length x ≡ 0
begun_is_none before x (inl none) lined =
    let size = ap length none in
    omega (arith, size, length-append before x)
begun_is_none before x (inr (front, is)) lined = ap length (nothing_begun front before x lined (sym is))

-- of two fronts of one list the shorter begins the longer
pub prefix_of : (a x b y : List ℕ) → a ++ x ≡ b ++ y → length a ≤ length b → b ≡ a ++ drop (length a) b
prefix_of a x b y e le =
    let front : take (length a) b ≡ a = sym (take-append-le (length a) b y le) ∙ ap (take (length a)) (sym e) ∙ take_at a x (length a) refl in
    sym (take-append-drop (length a) b) ∙ ap (λ (t : List ℕ). t ++ drop (length a) b) front

-- whole lines that end within a line, or before it, end before it
lines_within : (front x before l rest : List ℕ) → AreLines front → IsLine l → front ++ x ≡ before ++ (l ++ rest) → length front ≤ length (before ++ l)
    → length front ≤ length before
lines_within front x before l rest whole lined e le =
    elim (cases_lt (length before) (length front)) [
      | inl lt ↦
          let y = drop (length before) front in
          let is : front ≡ before ++ y = prefix_of before (l ++ rest) front x (sym e) (omega arith) in
          let size : length front ≡ length before + length y = ap length is ∙ length-append before y in
          let more : y ++ x ≡ l ++ rest = append_cancel_left before (y ++ x) (l ++ rest)
          (sym (append_assoc before y x) ∙ ap (λ (t : List ℕ). t ++ x) (sym is) ∙ e) in
          let part : l ≡ y ++ drop (length y) l = prefix_of y x l rest more (omega (arith, size, length-append before l)) in
          let none = begun_is_none before y (subst AreLines is whole) (All-front (λ c. c ≡ 10 → ⊥) y (drop (length y) l) (subst IsLine part lined)) in
          omega (arith, size, none)
      | inr ge ↦ ge
    ]

-- finished lines and a begun one have no fault
pub no_fault : (bytes : List ℕ) → IsBytes bytes → UnderWay bytes → NoFault bytes
no_fault bytes fits h before l f =
    let front = before ++ line l in
    let all : front ++ f.rest ≡ bytes_before h.place ++ (h.l ++ []) = append_assoc before (line l) f.rest ∙ sym f.parts ∙ h.parts
    ∙ ap (λ (t : List ℕ). bytes_before h.place ++ t) (sym (append-nil h.l)) in
    let within = lines_within front f.rest (bytes_before h.place) h.l [] (inr (before ++ l, sym (append_assoc before l (10 ∷ [])))) h.one_line all
    (omega (
      arith,
      ap length all,
      length-append front f.rest,
      length-append (bytes_before h.place) h.l,
      length-append (bytes_before h.place) (h.l ++ []),
      length-append h.l [],
    )) in
    f.faulty (begins_front front (drop (length front) (bytes_before h.place)) (subst Begins
    (prefix_of front f.rest (bytes_before h.place) (h.l ++ []) all within) (begins h.place h.led.known)))

-- ---- one faulty line

-- of two faulty lines neither stands before the other
not_before : (bytes before l before' l' : List ℕ) → FirstFault bytes before l → FirstFault bytes before' l' → length before < length before' → ⊥
not_before bytes before l before' l' f g lt =
    let both : before' ++ (line l' ++ g.rest) ≡ before ++ (line l ++ f.rest) = sym g.parts ∙ f.parts in
    elim (cases_lt (length before') (length (before ++ line l))) [
      | inl short ↦
          let within = lines_within before' (line l' ++ g.rest) before l (10 ∷ f.rest) g.whole f.one_line
          (both ∙ ap (λ (t : List ℕ). before ++ t) (append_assoc l (10 ∷ []) f.rest))
          (omega (arith, length-append before (line l), length-append before l, length-append l (10 ∷ []))) in
          omega arith
      | inr long ↦
          f.faulty (begins_front (before ++ line l) (drop (length (before ++ line l)) before') (subst Begins
          (prefix_of (before ++ line l) f.rest before' (line l' ++ g.rest) (append_assoc before (line l) f.rest ∙ sym both) long) g.valid_before))
    ]

same_front : (a x b y : List ℕ) → a ++ x ≡ b ++ y → length a ≡ length b → a ≡ b
same_front a x b y e size = sym (take_at a x (length b) size) ∙ ap (take (length b)) e ∙ take_at b y (length b) refl

same_before : (bytes before l before' l' : List ℕ) → FirstFault bytes before l → FirstFault bytes before' l' → before ≡ before'
same_before bytes before l before' l' f g = elim (cases_lt (length before) (length before')) [
  | inl lt ↦ absurd (not_before bytes before l before' l' f g lt)
  | inr ge ↦ elim (cases_lt (length before') (length before)) [
    | inl lt ↦ absurd (not_before bytes before' l' before l g f lt)
    | inr ge' ↦ same_front before (line l ++ f.rest) before' (line l' ++ g.rest) (sym f.parts ∙ g.parts) (omega arith)
  ]
]

head_of : (x y : ℕ) (xs ys : List ℕ) → x ∷ xs ≡ y ∷ ys → (x ≡ y) × (xs ≡ ys)
head_of x y xs ys e = (cc, cc)

same_line : (l l' r r' : List ℕ) → IsLine l → IsLine l' → line l ++ r ≡ line l' ++ r' → l ≡ l'
same_line [] [] r r' p q e = refl
same_line [] (y ∷ l') r r' p q e = absurd (q.0 (sym (head_of 10 y r (line l' ++ r') e).0))
same_line (x ∷ l) [] r r' p q e = absurd (p.0 (head_of x 10 (line l ++ r) r' e).0)
same_line (x ∷ l) (y ∷ l') r r' p q e =
    let parts = head_of x y (line l ++ r) (line l' ++ r') e in
    let rest = same_line l l' r r' p.1 q.1 parts.1 in
    cc

-- ---- one fault

-- the kind of a number
abbrev kind_of : ℕ → HeadKind
kind_of n =
    if eqb n 1 then NotAge else if eqb n 2 then Armored else if eqb n 3 then BadStanzaLine else if eqb n 4 then BadBody else if eqb n 5 then BadEndLine
    else if eqb n 6 then NoStanza else if eqb n 7 then HeadTooLong else if eqb n 8 then HeadCut else Memory

numbered : (k : HeadKind) → kind_of (head_fault_number k) ≡ k
numbered k = grind (arith, common_steps)

-- kinds that can't differ are equal
same_unless : (k k' : HeadKind) → ((k ≡ k' → ⊥) → ⊥) → k ≡ k'
same_unless k k' never = grind (arith, common_steps, eqb_tells, numbered)

same_between : (l : List ℕ) (k k' : HeadKind) → RefusesBetween l k → RefusesBetween l k' → k ≡ k'
same_between l k k' r r' = grind (arith, common_steps, same_unless, tested)

same_kind : (before l : List ℕ) (k k' : HeadKind) → RefusesLine before l k → RefusesLine before l k' → k ≡ k'
same_kind before l k k' r r' = grind (arith, common_steps, same_between, same_unless)

abbrev made : HeadKind → ℕ → HeadFault
made k n = record { kind = k; line = n }

same_line_fault : (bytes : List ℕ) (f g : HeadFault) → IsLineFault bytes f → IsLineFault bytes g → f ≡ g
same_line_fault bytes f g (before, l, first, line_is, refuses) (before', l', first', line_is', refuses') =
    let front : before ≡ before' = same_before bytes before l before' l' first first' in
    let after : line l ++ first.rest ≡ line l' ++ first'.rest =
    append_cancel_left before (line l ++ first.rest) (line l' ++ first'.rest) (sym first.parts ∙ first'.parts
    ∙ ap (λ (t : List ℕ). t ++ (line l' ++ first'.rest)) (sym front)) in
    let here : l ≡ l' = same_line l l' first.rest first'.rest first.one_line first'.one_line after in
    ap₂ made (same_kind before l f.kind g.kind refuses (rw (front, here) refuses')) (line_is ∙ ap line_after front ∙ sym line_is')

pub one_fault : (bytes : List ℕ) (f g : HeadFault) → IsBytes bytes → IsFault bytes f → IsFault bytes g → f ≡ g
one_fault bytes f g fits (inl p) (inl q) = same_line_fault (take 1048576 bytes) f g p q
one_fault bytes f g fits (inl p) (inr q) = absurd (q.0 p.0 p.1 p.2)
one_fault bytes f g fits (inr p) (inl q) = absurd (p.0 q.0 q.1 q.2)
one_fault bytes f g fits (inr p) (inr q) = p.2 ∙ sym q.2
