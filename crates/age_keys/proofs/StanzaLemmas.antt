-- Stanzas: their arguments, which of them a shared secret opens, and bytes that stand after others.
use Rattle.std.proofs.lemmas.Grind.{common_steps}
use Rattle.std.proofs.Common.{◌≡◌, ℕ, ◌<◌, ◌≤◌, true, List, [], ◌∷◌, length, get_or, sym, ap, ap₂, ◌∙◌, arith, ◌≢◌, ◌+◌, ◌++◌, take, drop, Option, Some, None}
use Rattle.std.proofs.Common.{subst, ◌-◌}
use Rattle.std.specs.List.{AllByRecursion}
use Rattle.std.specs.Prelude.{IfNone}
use Rattle.std.proofs.lemmas.Bool.{false≢true}
use Rattle.std.proofs.lemmas.List.{take_more, drop_more, take-append-drop, length-append, length-drop, append-nil, take_at, drop_all}
use Rattle.std.proofs.lemmas.Slice.Eq.{bytes_eq-Decides}
use Rattle.age_stanza.proofs.Base64Lemmas.{one_text}
use Rattle.age_stanza.proofs.{All-append}
use Rattle.age_stanza.specs.declared.header.Header.{Header}
use Rattle.age_stanza.specs.declared.header.Stanza.{Stanza}
use borrow.Rule.Slice.PartMut.{put_mid}
use Rattle.age_keys.specs.{has_type, IsScryptNotAlone, wrapped_key, IsX25519Stanza, Shared, shared_wrap_key, StaysShut}

-- ---- the arguments of a stanza of a type, and the only stanza of a header

-- two arguments; the first is the type
pub two_arguments : (kind t : List ℕ) (args : List (List ℕ)) → has_type kind args ≡ true → 2 ≤ length args → length args < 3
    → t ≡ get_or args 1 t → args ≡ kind ∷ t ∷ []
two_arguments kind t (a ∷ b ∷ []) typed least most e = ap₂ (λ x y. x ∷ y ∷ []) ((bytes_eq-Decides a kind).0 typed) (sym e)
two_arguments kind t args typed least most e = absurd (omega arith)

-- three arguments; the first is the type
pub three_arguments : (kind t u : List ℕ) (args : List (List ℕ)) → has_type kind args ≡ true → 3 ≤ length args → length args < 4
    → t ≡ get_or args 1 t → u ≡ get_or args 2 u → args ≡ kind ∷ t ∷ u ∷ []
three_arguments kind t u args h0 h1 h2 h3 h4 = grind (arith, common_steps, bytes_eq-Decides)

-- a list of one
pub only_one : (ss : List Stanza) (s : Stanza) → 1 ≤ length ss → length ss < 2 → s ≡ get_or ss 0 s → ss ≡ s ∷ []
only_one (t ∷ []) s least most e = ap (λ x. x ∷ []) (sym e)
only_one ss s least most e = absurd (omega arith)

-- and of a slice of them
pub only_one_of : (ss items : List Stanza) (s : Stanza) → items ≡ ss → 1 ≤ length items → length items < 2 → s ≡ get_or items 0 s → ss ≡ s ∷ []
only_one_of ss items s same least most e = sym same ∙ only_one items s least most e

-- nothing stands beside a stanza that is the only one
pub not_beside : (h : Header) (s : Stanza) → h.stanzas ≡ s ∷ [] → ¬ IsScryptNotAlone h
not_beside h s one beside = grind (arith, common_steps, false≢true)

-- ---- stanzas in the order of a header, and which of them a shared secret opens

-- one stanza more
pub all_more : (P : Stanza → Type 0) (ss : List Stanza) (i : ℕ) (s : Stanza) → i < length ss → s ≡ get_or ss i s → AllByRecursion P (take i ss) → P s
    → AllByRecursion P (take (i + 1) ss)
all_more P ss i s lt is all here = rw (take_more ss i s lt) (All-append P (take i ss) (get_or ss i s ∷ []) all (subst P is here, tt))

-- those before a stanza, it, and those after it
pub around : (ss : List Stanza) (i : ℕ) (s : Stanza) → i < length ss → s ≡ get_or ss i s → ss ≡ take i ss ++ s ∷ drop (i + 1) ss
around ss i s lt is = grind (arith, common_steps, drop_more, take-append-drop)

-- a stanza has one share
one_share : (s : Stanza) (share other body rest : List ℕ) → IsX25519Stanza s share body → IsX25519Stanza s other rest → share ≡ other
one_share s share other body rest is is_too =
    one_text share other is.share_bytes is_too.share_bytes (ap (λ (args : List (List ℕ)). get_or args 1 []) (sym is.args ∙ is_too.args))

-- a stanza whose body opens to no key
pub shut : (x : Shared) (s : Stanza) (share body : List ℕ) → IsX25519Stanza s share body
    → ((key : List ℕ) → body ≢ wrapped_key (shared_wrap_key x share) key) → StaysShut x s
shut x s share body is none key opened =
    none key
    (sym is.body_is ∙ opened.stanza.body_is ∙ opened.opens
    ∙ ap (λ (sh : List ℕ). wrapped_key (shared_wrap_key x sh) key) (one_share s opened.share share opened.body body opened.stanza is))

pub if_none : {X A B : Type 0} (o : Option X) → (A → B) → IfNone o A → IfNone o B
if_none None f h = f h
if_none (Some x) f h = tt

-- ---- bytes that stand, or are written, after others

-- over the second part of an array
pub over_the_end : (n k : ℕ) (a z s : List ℕ) → length a ≡ n → length z ≡ k → put_mid n k (a ++ z) s ≡ a ++ s
over_the_end n k a z s first second = grind (arith, common_steps, append-nil, drop_all, length-append, length-drop, take_at)

-- all but the last 16 bytes
pub front_of : (a z : List ℕ) → length z ≡ 16 → take (length (a ++ z) - 16) (a ++ z) ≡ a
front_of a z size = take_at a z (length (a ++ z) - 16) (omega (arith, length-append a z))
