-- How long the texts of a header are.
use Rattle.std.proofs.lemmas.Grind.{common_steps}
use Rattle.std.proofs.Common.{◌≡◌, ℕ, ◌<◌, ◌≤◌, ◌+◌, ◌-◌, ◌*◌, ◌/◌, true, List, [], ◌∷◌, ◌++◌, length, get_or, drop, is_some, Option, Some, None, refl, sym, ap}
use Rattle.std.proofs.Common.{◌∙◌, arith, inl, inr}
use Rattle.std.specs.List.{flat_map, AllByRecursion}
use Rattle.std.specs.Option.{SomeIff}
use Rattle.std.specs.Int.{div_ceil}
use Rattle.std.proofs.lemmas.Bool.{cases_lt}
use Rattle.std.proofs.lemmas.List.{length-append, drop_more}
use Rattle.base64.specs.GeneralPurpose.{IsBytes}
use Rattle.age_stanza.specs.{Stanza, Header, base64_text, in_lines, stanza_text, head_text, IsStanza, HeadText, HasText}
use Rattle.age_stanza.specs.inner.{HasArguments, Leaves, IsHeaderLength}
use Rattle.age_stanza.proofs.LineLemmas.{length-in_lines}
use Rattle.age_stanza.proofs.TextLemmas.{length-text}

pub length-body : (body : List ℕ) → length (in_lines (base64_text body)) ≡ (4 * length body + 2) / 3 + (4 * length body + 2) / 3 / 64 + 1
length-body body = grind (arith, common_steps, length-in_lines, length-text)

pub length-head : (h : Header) → length h.mac ≡ 32 → length (head_text h) ≡ length (flat_map stanza_text h.stanzas) + 70
length-head h long = grind (arith, common_steps, length-append, length-text)

pub head_least : (h : Header) (bytes : List ℕ) → HeadText h bytes → 70 ≤ length (head_text h)
head_least h bytes is = grind (arith, common_steps, length-head)

-- what a difference leaves
pub leaves : (r : Option ℕ) (size n room : ℕ) → SomeIff r (size ≤ room) (room - size) → n ≡ size → Leaves room n r
leaves r size n room h0 h1 = grind (arith, common_steps, cases_lt)

-- three bytes are four characters
pub div_ceil-characters : (n : ℕ) → div_ceil (4 * n) 3 ≡ (4 * n + 2) / 3
div_ceil-characters n = omega arith

pub text_characters : (bytes : List ℕ) → div_ceil (4 * length bytes) 3 ≡ length (base64_text bytes)
text_characters bytes = div_ceil-characters (length bytes) ∙ sym (length-text bytes)

-- ---- the texts of stanzas

-- a stanza's text is part of the texts from it on
pub stanza_within : (ss : List Stanza) (i : ℕ) (s : Stanza) → i < length ss → s ≡ get_or ss i s → length (stanza_text s)
    ≤ length (flat_map stanza_text (drop i ss))
stanza_within ss i s lt is = grind (arith, common_steps, drop_more, length-append)

valid_stanzas : (ss : List Stanza) → AllByRecursion HasArguments ss → AllByRecursion (λ s. IsBytes s.body) ss → AllByRecursion IsStanza ss
valid_stanzas [] args bodies = tt
valid_stanzas (s ∷ ss) args bodies = (record { some_argument = args.0.0; arguments = args.0.1; body = bodies.0 }, valid_stanzas ss args.1 bodies.1)

-- a valid header whose text is within the limit has one
pub has_text : (h : Header) (r : Option ℕ) → IsHeaderLength h r → is_some r ≡ true → 0 < length h.stanzas → AllByRecursion HasArguments h.stanzas
    → HasText h
has_text h r h0 h1 h2 h3 = grind (arith, common_steps, valid_stanzas)

-- a header that has a text is valid, and its text is within the limit
pub text_within : (h : Header) (r : Option ℕ) → IsHeaderLength h r → HasText h → is_some r ≡ true
text_within h r h0 h1 = grind (arith, common_steps)
