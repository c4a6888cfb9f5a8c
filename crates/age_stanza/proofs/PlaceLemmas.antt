-- Where the lines of a header lead: each to a place that says of the bytes before it what they are, and those of a header's text to the header.
use Rattle.std.proofs.lemmas.Grind.{common_steps}
use Rattle.std.proofs.Common.{◌≡◌, ℕ, zero, suc, ◌<◌, ◌≤◌, ◌+◌, ◌*◌, ◌/◌, ◌%◌, Bool, true, false, cond, eqb, nat_eq, ◌||◌, List, [], ◌∷◌, ◌++◌, length}
use Rattle.std.proofs.Common.{take, drop, Option, Some, None, Result, Ok, Err, refl, sym, ap, ◌∙◌, arith, inl, inr}
use Rattle.std.specs.Prelude.{codes}
use Rattle.std.specs.List.{flat_map, AllByRecursion, starts_with}
use Rattle.std.specs.Str.{bytes_eq}
use Rattle.std.proofs.lemmas.Bool.{cond_both, eqb-true, eqb-false, ltb-false, eq-eqb, ne_eqb, le-ltb, cases_lt}
use Rattle.std.proofs.lemmas.List.{append-nil, append_assoc, length-append, length-take, length-drop, nil_from_length, take-append-drop}
use Rattle.std.proofs.lemmas.List.Concat.{flat_map-append}
use Rattle.std.proofs.lemmas.Option.{none-some, same_Some}
use Rattle.std.proofs.lemmas.Slice.Eq.{bytes_eq-Decides}
use Rattle.base64.specs.GeneralPurpose.{IsBytes}
use Rattle.age_stanza.specs.{Stanza, Header, HeadKind, NotAge, Armored, BadBody, Memory, LineState, Start, Between, InBody, Go, base64_text, line, version}
use Rattle.age_stanza.specs.{IsArgument, argument_line, in_lines, stanza_text, end_line, head_text, IsStanza, IsHeader, Spells, HeadText, mac_text, IsLine}
use Rattle.age_stanza.specs.{stanzas_text, armor, IsEndLine, RefusesBetween}
use Rattle.age_stanza.specs.declared.place.Next.{Next}
use Rattle.age_stanza.specs.declared.place.Next.TheVariants.{Done}
use Rattle.age_stanza.specs.inner.{base64_bytes, walk, after, step, end_line_result, argument_line_result, body_line_result, arguments_of, mac_of, whole_lines}
use Rattle.age_stanza.specs.inner.{bytes_before, IsPlace}
use Rattle.age_stanza.proofs.TextLemmas.{text-append, text-none, length-text, text_of_decoded, decoded-text, no_bytes, IsBytes-append, IsBytes-take}
use Rattle.age_stanza.proofs.TextLemmas.{IsBytes-drop, IsLine-append, text_line, line_from_test}
use Rattle.age_stanza.proofs.LineLemmas.{visible_other, starts_from, All-append, whole_lines-full, in_lines-full, in_lines-short, full_line, last_line}
use Rattle.age_stanza.proofs.LineLemmas.{argument_line_read, read_argument_line, end_line_read, read_end_line}

regrouped : (a b c d : List ℕ) → a ++ (b ++ (c ++ d)) ≡ (a ++ (b ++ c)) ++ d
regrouped a b c d = simp append_assoc

pub two_parts : (a b c d : List ℕ) → (a ++ (b ++ c)) ++ d ≡ (a ++ b) ++ (c ++ d)
two_parts a b c d = simp append_assoc

-- ---- lines of 64 characters

whole_line : (l : List ℕ) → length l ≡ 64 → whole_lines l ≡ line l
unfolding whole_lines
whole_line l len = ap whole_lines (sym (append-nil l)) ∙ whole_lines-full l [] len ∙ append-nil (line l)

-- whole lines before a text that a function puts into lines
whole_before : (f : List ℕ → List ℕ) → ((l rest : List ℕ) → length l ≡ 64 → f (l ++ rest) ≡ line l ++ f rest) → (k : ℕ) (t l : List ℕ) → length t ≡ k * 64
    → f (t ++ l) ≡ whole_lines t ++ f l
unfolding whole_lines
whole_before f full zero t l e =
    rw (nil_from_length t (omega (arith, e))) refl
whole_before f full (suc k) t l e =
    let first = take 64 t in
    let rest = drop 64 t in
    let parts = take-append-drop 64 t in
    let len : length first ≡ 64 = omega (arith, e, length-take 64 t) in
    let on = whole_before f full k rest l (omega (arith, e, length-drop 64 t)) in
    ap (λ (x : List ℕ). f (x ++ l)) (sym parts) ∙ ap f (append_assoc first rest l) ∙ full first (rest ++ l) len ∙ ap (λ (x : List ℕ). line first ++ x) on
    ∙ sym (append_assoc (line first) (whole_lines rest) (f l)) ∙ ap (λ (x : List ℕ). x ++ f l) (sym (whole_lines-full first rest len) ∙ ap whole_lines parts)

-- whole lines before the last line of a body, or before more whole lines
body_lines : (f : List ℕ → List ℕ) → ((l rest : List ℕ) → length l ≡ 64 → f (l ++ rest) ≡ line l ++ f rest) → (body more l : List ℕ) → length body % 48 ≡ 0
    → l ≡ base64_text more → f l ≡ line l → f (base64_text (body ++ more)) ≡ whole_lines (base64_text body) ++ line l
body_lines f full body more l whole is one =
    let third : length body % 3 ≡ 0 = omega arith in
    let lines : length (base64_text body) ≡ length body / 48 * 64 = omega (arith, length-text body) in
    ap f (text-append body more third ∙ ap (λ (t : List ℕ). base64_text body ++ t) (sym is))
    ∙ whole_before f full (length body / 48) (base64_text body) l lines ∙ ap (λ (t : List ℕ). whole_lines (base64_text body) ++ t) one

pub stanzas_pushed : (ss : List Stanza) (s : Stanza) → stanzas_text (ss ++ s ∷ []) ≡ stanzas_text ss ++ stanza_text s
stanzas_pushed ss s = grind (arith, common_steps, append-nil, append_assoc, flat_map-append)

-- ---- what a line leads to

-- what is reported of a line that is refused at a place
abbrev pub Reports : LineState → List ℕ → HeadKind → Type 0
Reports Start l kind = kind ≡ cond (bytes_eq l armor || bytes_eq l (armor ++ 13 ∷ [])) Armored NotAge
Reports (Between ss) l kind = RefusesBetween l kind
Reports (InBody ss args body) l kind = kind ≡ BadBody

-- a line is refused, or its bytes were added to those before the place, or to those of a header
abbrev pub Leads : LineState → List ℕ → Result Next HeadKind → Type 0
Leads place l (Err kind) = Reports place l kind × (kind ≡ Memory → ⊥)
Leads place l (Ok (Go next)) = (bytes_before next ≡ bytes_before place ++ line l) × IsPlace next
Leads place l (Ok (Done h)) = (head_text h ≡ bytes_before place ++ line l) × IsHeader h

true_false : (b : Bool) → b ≡ true → b ≡ false → ⊥
true_false b t f = cc

end_starts : (l : List ℕ) → IsEndLine l → starts_with nat_eq l (codes "---") ≡ true
end_starts l has = starts_from l (codes "---") (32 ∷ base64_text has.0) has.3

pub no_end : (l : List ℕ) → mac_of l ≡ None → IsEndLine l → ⊥
no_end l is has = none-some has.0 (sym is ∙ ap mac_of has.3 ∙ read_end_line has.0 has.1 has.2)

leads_ended : (ss : List Stanza) (l : List ℕ) (o : Option (List ℕ)) → AllByRecursion IsStanza ss → IsBytes l → starts_with nat_eq l (codes "---") ≡ true
    → mac_of l ≡ o → Leads (Between ss) l (end_line_result ss o)
leads_ended ss l None known fits starts is = (
  record { no_stanza = λ has. absurd (no_end l is has); bad_end = λ _ _. refl; bad_stanza = λ f. absurd (true_false _ starts f) },
  λ e. cc,
)
leads_ended [] l (Some mac) known fits starts is =
    let read = end_line_read l mac fits is in (
      record { no_stanza = λ _. refl; bad_end = λ _ not. absurd (not (mac, read.1, read.2, read.0)); bad_stanza = λ f. absurd (true_false _ starts f) },
      λ e. cc,
    )
leads_ended (s ∷ ss) l (Some mac) known fits starts is =
    let read = end_line_read l mac fits is in (
      rw read.0 (sym (append_assoc (line version) (flat_map stanza_text (s ∷ ss)) (line (end_line mac)))),
      record { some_stanza = omega arith; stanzas = known; mac_length = read.1; mac = read.2 },
    )

leads_begun : (ss : List Stanza) (l : List ℕ) (o : Option (List (List ℕ))) → AllByRecursion IsStanza ss → starts_with nat_eq l (codes "---") ≡ false
    → arguments_of l ≡ o → Leads (Between ss) l (argument_line_result ss o)
unfolding whole_lines
leads_begun ss l o h0 h1 h2 = grind (arith, common_steps, append-nil, argument_line_read, end_starts, no_bytes, text-none, true_false)

leads_body : (ss : List Stanza) (args : List (List ℕ)) (body l : List ℕ) (full : Bool) (o : Option (List ℕ)) → IsPlace (InBody ss args body) → IsBytes l
    → length l ≤ 64 → eqb (length l) 64 ≡ full → base64_bytes l ≡ o → Leads (InBody ss args body) l (body_line_result ss args body full o)
leads_body ss args body l true None known fits le long is = (refl, λ e. cc)
leads_body ss args body l false None known fits le long is = (refl, λ e. cc)
leads_body ss args body l true (Some more) known fits le long is =
    let read = text_of_decoded l more fits is in
    let len : length l ≡ 64 = eqb-true (length l) 64 long in
    let size : (4 * length more + 2) / 3 ≡ 64 = sym (length-text more) ∙ ap length (sym read.0) ∙ len in
    let whole : length body % 48 ≡ 0 = known.4 in
    let joined = body_lines whole_lines whole_lines-full body more l whole read.0 (whole_line l len) in (
      ap (λ (t : List ℕ). stanzas_text ss ++ (line (argument_line args) ++ t)) joined
          ∙ regrouped (stanzas_text ss) (line (argument_line args)) (whole_lines (base64_text body)) (line l),
      (known.0, known.1, known.2, IsBytes-append body more known.3 read.1, rw length-append (omega arith)),
    )
leads_body ss args body l false (Some more) known fits le long is =
    let read = text_of_decoded l more fits is in
    let ne = eqb-false (length l) 64 long in
    let s : Stanza = record { args = args; body = body ++ more } in
    let valid : IsStanza s = record { some_argument = known.1; arguments = known.2; body = IsBytes-append body more known.3 read.1 } in
    let joined = body_lines in_lines in_lines-full body more l known.4 read.0 (in_lines-short l (omega arith)) in (
      stanzas_pushed ss s ∙ ap (λ (t : List ℕ). stanzas_text ss ++ (line (argument_line args) ++ t)) joined
          ∙ regrouped (stanzas_text ss) (line (argument_line args)) (whole_lines (base64_text body)) (line l),
      All-append IsStanza ss (s ∷ []) known.0 (valid, tt),
    )

pub leads : (place : LineState) (l : List ℕ) → IsPlace place → IsBytes l → Leads place l (step place l)
unfolding step
leads place l h0 h1 = grind (arith, common_steps, append-nil, cond_both, bytes_eq-Decides, leads_begun, leads_body, leads_ended, ltb-false)

-- ---- lines hold no end of line

spaced_line : (args : List (List ℕ)) → AllByRecursion IsArgument args → IsLine (flat_map (λ a. 32 ∷ a) args)
spaced_line [] valid = tt
spaced_line (a ∷ args) valid = IsLine-append (32 ∷ a) (flat_map (λ b. 32 ∷ b) args) ((λ e. omega arith), visible_other 10 a (omega arith) valid.0.1) (spaced_line args valid.1)

argument_line_line : (args : List (List ℕ)) → AllByRecursion IsArgument args → IsLine (argument_line args)
argument_line_line args valid = IsLine-append (codes "->") (flat_map (λ b. 32 ∷ b) args) (line_from_test (codes "->") refl) (spaced_line args valid)

end_line_line : (mac : List ℕ) → IsLine (end_line mac)
end_line_line mac = IsLine-append (codes "--- ") (base64_text mac) (line_from_test (codes "--- ") refl) (text_line mac)

-- ---- a walk over one line

pub walk_text : (place : LineState) (l w cs : List ℕ) → IsLine w → walk place l (line w ++ cs) ≡ after cs (λ next. walk next [] cs) (step place (l ++ w))
unfolding walk
walk_text place l [] cs lined = rw append-nil refl
walk_text place l (c ∷ w) cs lined =
    rw (ne_eqb c 10 lined.0)
    (walk_text place (l ++ c ∷ []) w cs lined.1 ∙ ap (λ (x : List ℕ). after cs (λ next. walk next [] cs) (step place x)) (append_assoc l (c ∷ []) w))

pub walk_line : (place : LineState) (w cs : List ℕ) (leads_to : Result Next HeadKind) → IsLine w → step place w ≡ leads_to
    → walk place [] (line w ++ cs) ≡ after cs (λ q. walk q [] cs) leads_to
walk_line place w cs leads_to lined e = walk_text place [] w cs lined ∙ ap (after cs (λ q. walk q [] cs)) e

-- ---- where valid lines lead

step_version : step Start version ≡ Ok (Go (Between []))
unfolding step
step_version = refl

step_end : (ss : List Stanza) (mac : List ℕ) → 0 < length ss → length mac ≡ 32 → IsBytes mac → step (Between ss) (end_line mac)
    ≡ Ok (Done (record { stanzas = ss; mac = mac }))
unfolding step
step_end [] mac some long fits = absurd (omega arith)
step_end (s ∷ ss) mac some long fits = rw (read_end_line mac long fits) refl

step_arguments : (ss : List Stanza) (args : List (List ℕ)) → 0 < length args → AllByRecursion IsArgument args → step (Between ss) (argument_line args)
    ≡ Ok (Go (InBody ss args []))
unfolding step
step_arguments ss [] some valid = absurd (omega arith)
step_arguments ss (a ∷ args) some valid = rw (read_argument_line (a ∷ args) some valid) refl

step_full : (ss : List Stanza) (args : List (List ℕ)) (body l more : List ℕ) → length l ≡ 64 → base64_bytes l ≡ Some more
    → step (InBody ss args body) l ≡ Ok (Go (InBody ss args (body ++ more)))
unfolding step
step_full ss args body l more long is = rw (le-ltb 64 (length l) (omega arith), eq-eqb (length l) 64 long, is) refl

pub step_last : (ss : List Stanza) (args : List (List ℕ)) (body l more : List ℕ) → length l < 64 → base64_bytes l ≡ Some more
    → step (InBody ss args body) l ≡ Ok (Go (Between (ss ++ (record { args = args; body = body ++ more }) ∷ [])))
unfolding step
step_last ss args body l more short is = rw (le-ltb 64 (length l) (omega arith), ne_eqb (length l) 64 (λ e. omega arith), is) refl

-- ---- a walk over a header's text

abbrev PassesBody : List Stanza → List (List ℕ) → List ℕ → List ℕ → List ℕ → Type 0
PassesBody ss args body rest cs = walk (InBody ss args body) [] (in_lines (base64_text rest) ++ cs)
    ≡ walk (Between (ss ++ (record { args = args; body = body ++ rest }) ∷ [])) [] cs

last_body : (ss : List Stanza) (args : List (List ℕ)) (body rest cs : List ℕ) → length rest < 48 → IsBytes rest → PassesBody ss args body rest cs
last_body ss args body rest cs lt fits = grind (arith, common_steps, decoded-text, last_line, length-text, step_last, text_line, walk_line)

body_walk : (fuel : ℕ) (ss : List Stanza) (args : List (List ℕ)) (body rest cs : List ℕ) → length rest ≤ fuel → IsBytes rest → PassesBody ss args body rest cs
body_walk zero ss args body rest cs le fits = last_body ss args body rest cs (omega arith) fits
body_walk (suc fuel) ss args body rest cs le fits = elim (cases_lt (length rest) 48) [
  | inl lt ↦ last_body ss args body rest cs lt fits
  | inr ge ↦
      let a : List ℕ = take 48 rest in
      let b : List ℕ = drop 48 rest in
      let long : length (base64_text (take 48 rest)) ≡ 64 = omega (arith, length-text (take 48 rest), length-take 48 rest) in
      let one = walk_line (InBody ss args body) (base64_text a) (in_lines (base64_text b) ++ cs) _ (text_line a)
      (step_full ss args body (base64_text a) a long (decoded-text a (IsBytes-take 48 rest fits))) in
      let on = body_walk fuel ss args (body ++ a) b cs (omega (arith, length-drop 48 rest)) (IsBytes-drop 48 rest fits) in
      let joined : (body ++ a) ++ b ≡ body ++ rest = append_assoc body a b ∙ ap (λ (t : List ℕ). body ++ t) (take-append-drop 48 rest) in
      rw (full_line rest ge, append_assoc (line (base64_text (take 48 rest))))
      (one ∙ on ∙ ap (λ (t : List ℕ). walk (Between (ss ++ (record { args = args; body = t }) ∷ [])) [] cs) joined)
]

pub three_parts : (a b c r : List ℕ) → ((a ++ b) ++ c) ++ r ≡ a ++ (b ++ (c ++ r))
three_parts a b c r = simp append_assoc

stanzas_reach : (more ss : List Stanza) (rest : List ℕ) → AllByRecursion IsStanza more
    → walk (Between ss) [] (flat_map stanza_text more ++ rest) ≡ walk (Between (ss ++ more)) [] rest
stanzas_reach [] ss rest valid = rw append-nil refl
stanzas_reach (s ∷ more) ss rest valid =
    let after : List ℕ = flat_map stanza_text more ++ rest in
    ap (walk (Between ss) []) (three_parts (line (argument_line s.args)) (in_lines (base64_text s.body)) (flat_map stanza_text more) rest)
    ∙ walk_line (Between ss) (argument_line s.args) (in_lines (base64_text s.body) ++ after) _ (argument_line_line s.args valid.0.arguments)
    (step_arguments ss s.args valid.0.some_argument valid.0.arguments)
    ∙ body_walk (length s.body) ss s.args [] s.body after (omega arith) valid.0.body ∙ stanzas_reach more (ss ++ s ∷ []) rest valid.1
    ∙ ap (λ (x : List Stanza). walk (Between x) [] rest) (append_assoc ss (s ∷ []) more)

-- the version line and whole stanzas lead between stanzas
pub stanzas_walk : (ss : List Stanza) (rest : List ℕ) → AllByRecursion IsStanza ss → walk Start [] (stanzas_text ss ++ rest) ≡ walk (Between ss) [] rest
stanzas_walk ss rest valid =
    ap (walk Start []) (append_assoc (line version) (flat_map stanza_text ss) rest)
    ∙ walk_line Start version (flat_map stanza_text ss ++ rest) _ (line_from_test version refl) step_version ∙ stanzas_reach ss [] rest valid

-- and the end line to the header
pub end_walk : (ss : List Stanza) (mac rest : List ℕ) → 0 < length ss → length mac ≡ 32 → IsBytes mac
    → walk (Between ss) [] (line (end_line mac) ++ rest) ≡ Some (record { stanzas = ss; mac = mac }, rest)
end_walk ss mac rest some long fits = walk_line (Between ss) (end_line mac) rest _ (end_line_line mac) (step_end ss mac some long fits)

-- a walk over a header's text finds the header, whatever follows
pub text_walk : (h : Header) (rest : List ℕ) → IsHeader h → walk Start [] (head_text h ++ rest) ≡ Some (h, rest)
text_walk h rest valid =
    ap (walk Start []) (two_parts (line version) (flat_map stanza_text h.stanzas) (line (end_line h.mac)) rest)
    ∙ stanzas_walk h.stanzas (line (end_line h.mac) ++ rest) valid.stanzas ∙ end_walk h.stanzas h.mac rest valid.some_stanza valid.mac_length valid.mac

-- ---- laws of headers' texts

pub one_header : (h k : Header) (a b x y : List ℕ) → Spells h a → Spells k b → a ++ x ≡ b ++ y → (h ≡ k) × (a ≡ b)
one_header h k a b x y p q e =
    let left : walk Start [] (a ++ x) ≡ Some (h, x) = rw p.bytes_are (text_walk h x p.valid) in
    let right : walk Start [] (b ++ y) ≡ Some (k, y) = rw q.bytes_are (text_walk k y q.valid) in
    let same : h ≡ k = ap (λ (p : Header × List ℕ). p.0) (same_Some _ _ (sym left ∙ ap (walk Start []) e ∙ right)) in
    (same, p.bytes_are ∙ ap head_text same ∙ sym q.bytes_are)

pub mac_text_is_front : (h : Header) (bytes : List ℕ) → HeadText h bytes → (last : List ℕ) × (length last ≡ 45) × (bytes ≡ mac_text h ++ last)
mac_text_is_front h bytes is =
    let last : List ℕ = 32 ∷ (base64_text h.mac ++ 10 ∷ []) in
    let long = is.spells.valid.mac_length in (
      last,
      omega (arith, length-append (base64_text h.mac) (10 ∷ []), length-text h.mac),
      is.spells.bytes_are ∙ regrouped (line version) (flat_map stanza_text h.stanzas) (codes "---") last,
    )
