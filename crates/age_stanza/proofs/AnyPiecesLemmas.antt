-- It doesn't matter how bytes were cut into pieces.
use Rattle.std.proofs.lemmas.Grind.{common_steps}
use Rattle.std.proofs.Common.{◌≡◌, ℕ, ◌<◌, ◌≤◌, ◌+◌, ◌-◌, List, [], ◌∷◌, ◌++◌, length, take, drop, Result, Ok, Err, refl, sym, ap, subst, ◌∙◌, arith, inl, inr}
use Rattle.std.specs.Prelude.{◌⊎◌}
use Rattle.std.specs.List.{concat}
use Rattle.std.proofs.lemmas.Bool.{cases_lt}
use Rattle.std.proofs.lemmas.List.{append-nil, append_assoc, length-take, take-append-drop, take-append-le, take_all}
use Rattle.std.proofs.Math.Seq.{take-append-add}
use Rattle.age_stanza.specs.{Header, HeadStep, More, Ready, HeadFault, memory_fault, Begins, FirstFault, HasHeader, IsLineFault, IsFault, reading, complete}
use Rattle.age_stanza.specs.{refused, IsOpen, FeedsParser, line, Spells, HeadText, Fed, none, more, StandsFor}
use Rattle.age_stanza.specs.Parsing.{Parsing}
use Rattle.age_stanza.specs.inner.{Fails}
use Rattle.age_stanza.proofs.FaultLemmas.{begins_front, prefix_of}

-- ---- what more bytes leave as it was

-- the first bytes, with more after them
take_more_bytes : (n : ℕ) (bytes piece : List ℕ) → (rest : List ℕ) × (take n (bytes ++ piece) ≡ take n bytes ++ rest)
take_more_bytes n bytes piece = elim (cases_lt (length bytes) n) [
  | inl lt ↦
      let k : n ≡ length bytes + (n - length bytes) = omega arith in
      let all : take n bytes ≡ bytes = take_all n bytes (omega arith) in (
        take (n - length bytes) piece,
        ap (λ j. take j (bytes ++ piece)) k ∙ take-append-add bytes piece (n - length bytes)
            ∙ ap (λ (t : List ℕ). t ++ take (n - length bytes) piece) (sym all),
      )
  | inr ge ↦ ([], take-append-le n bytes piece ge ∙ sym (append-nil (take n bytes)))
]

more_first : (bytes rest before l : List ℕ) → FirstFault bytes before l → FirstFault (bytes ++ rest) before l
more_first bytes rest before l f = grind (arith, common_steps, append_assoc)

more_line_fault : (bytes piece : List ℕ) (fault : HeadFault) → IsLineFault (take 1048576 bytes) fault → IsLineFault (take 1048576 (bytes ++ piece)) fault
more_line_fault bytes piece fault f =
    let longer = take_more_bytes 1048576 bytes piece in
    rw (longer.1) (f.0, f.1, more_first (take 1048576 bytes) longer.0 f.0 f.1 f.2, f.3, f.4)

-- no header ends inside the bytes, and none after them
none_longer : (bytes piece : List ℕ) → (HasHeader bytes → ⊥)
    → ((h : Header) (front : List ℕ) → HeadText h front → length bytes < length front → front ≡ bytes ++ drop (length bytes) front → ⊥)
    → HasHeader (bytes ++ piece) → ⊥
none_longer bytes piece inside after has = elim (cases_lt (length bytes) (length has.1)) [
  | inl lt ↦ after has.0 has.1 has.3 lt (prefix_of bytes piece has.1 has.2 has.4 (omega arith))
  | inr ge ↦ inside (has.0, has.1, drop (length has.1) bytes, has.3, prefix_of has.1 has.2 bytes piece (sym has.4) ge)
]

no_text : (bytes before l : List ℕ) → FirstFault (take 1048576 bytes) before l → (h : Header) (front : List ℕ) → HeadText h front → length bytes < length front
    → front ≡ bytes ++ drop (length bytes) front → ⊥
no_text bytes before l f h front text lt is =
    let within = text.within in
    let bytes-is : bytes ≡ (before ++ line l) ++ f.rest = sym (take_all 1048576 bytes (omega arith)) ∙ f.parts ∙ sym (append_assoc before (line l) f.rest) in
    f.faulty (begins_front (before ++ line l) f.rest (subst Begins bytes-is (h, drop (length bytes) front, subst (Spells h) is text.spells)))

pub more_fault : (bytes piece : List ℕ) (fault : HeadFault) → (HasHeader bytes → ⊥) → IsFault bytes fault → (HasHeader (bytes ++ piece) → ⊥)
    × IsFault (bytes ++ piece) fault
more_fault bytes piece fault inside (inl f) = (none_longer bytes piece inside (no_text bytes f.0 f.1 f.2), inl (more_line_fault bytes piece fault f))
more_fault bytes piece fault inside (inr f) =
    let long : 1048576 ≤ length bytes = omega (arith, length-take 1048576 bytes, f.1) in
    let same : take 1048576 (bytes ++ piece) ≡ take 1048576 bytes = take-append-le 1048576 bytes piece long in
    let same' : take 1048575 (bytes ++ piece) ≡ take 1048575 bytes = take-append-le 1048575 bytes piece (omega arith) in (
      none_longer bytes piece inside (λ h front text lt is. let within = text.within in omega arith),
      inr (rw same f.0, rw same f.1, rw same' f.2),
    )

more_fails : (bytes piece : List ℕ) (fault : HeadFault) → (fault ≡ memory_fault) ⊎ ((HasHeader bytes → ⊥) × IsFault bytes fault)
    → (fault ≡ memory_fault) ⊎ ((HasHeader (bytes ++ piece) → ⊥) × IsFault (bytes ++ piece) fault)
more_fails bytes piece fault (inl memory) = inl memory
more_fails bytes piece fault (inr f) = inr (more_fault bytes piece fault f.0 f.1)

pub fails_more : (bytes piece : List ℕ) (fault : HeadFault) → Fails fault bytes → Fails fault (bytes ++ piece)
fails_more bytes piece fault fails = record { why = more_fails bytes piece fault fails.why }

-- ---- one piece more

grown : (pieces : List (List ℕ)) (piece : List ℕ) → concat (pieces ++ piece ∷ []) ≡ concat pieces ++ piece
grown [] piece = append-nil piece
grown (p ∷ pieces) piece = ap (λ (t : List ℕ). p ++ t) (grown pieces piece) ∙ sym (append_assoc p (concat pieces) piece)

step_stands : (bytes piece : List ℕ) (old new : Parsing) (result : Result HeadStep HeadFault) → StandsFor old bytes → IsOpen old → FeedsParser old piece result new
    → StandsFor new (bytes ++ piece)
step_stands bytes piece (reading held) new (Ok More) e is-open f = rw (f.0) (ap (λ (t : List ℕ). t ++ piece) e)
step_stands bytes piece (reading held) new (Ok (Ready taken h)) e is-open f = rw (f.0) (
  h,
  held ++ take taken piece,
  drop taken piece,
  f.2,
  rw (← e, append_assoc, take-append-drop) refl,
)
step_stands bytes piece (reading held) new (Err fault) e is-open f = rw (f.0, ← e) f.1
step_stands bytes piece complete new result e is-open f = absurd (is-open refl)
step_stands bytes piece (refused fault) new result fails is-open f = rw (f.1) (more_fails bytes piece fault fails)

pub any_pieces : {pieces : List (List ℕ)} {parser : Parsing} → Fed pieces parser → StandsFor parser (concat pieces)
any_pieces none = refl
any_pieces (more pieces old new piece result fed is-open feeds) =
    subst (StandsFor new) (sym (grown pieces piece)) (step_stands (concat pieces) piece old new result (any_pieces fed) is-open feeds)
