-- What was read: bytes and a header.
use Rattle.std.proofs.lemmas.Grind.{common_steps}
use Rattle.std.proofs.Common.{◌≡◌, ℕ, ◌≤◌, List, [], ◌++◌, length, take, drop, Option, Some, None, refl, sym, ap, subst, ◌∙◌, append_assoc, append-nil, inl}
use Rattle.std.proofs.Common.{inr, arith}
use Rattle.std.specs.Prelude.{Bool, ◌⊎◌, Result, Ok, Err, IfSome, IsErrAnd}
use Rattle.age_io.specs.Supply.{Supply}
use Rattle.age_io.specs.{Consumes, IsAtEnd, SourceView, SinkView}
use Rattle.std.proofs.lemmas.List.{take-append-drop, take_at, drop_at}
use Rattle.age_stanza.specs.{HasHeader, IsFault, memory_fault}
use Rattle.age_fault.specs.declared.head.HeadFault.{HeadFault}
use Rattle.age_fault.specs.declared.head.HeadKind.{HeadKind}
use Rattle.age_fault.specs.declared.head.HeadKind.TheVariants.{Memory as HeadMemory}
use Rattle.age_io.proofs.{Consumes-nil}
use Rattle.age_stanza.proofs.{more_fault, nothing_under_way, none_held, no_fault}
use Rattle.age_file_input.specs.Headers.{pull_room, EndsInHeader, InHeader, IsCut, IsHeadFault, ReportsFault, StopsAtHeader, HeadFails}
use Rattle.age_file_input.specs.Views.{Ports, ports}
use Rattle.age_fault.specs.inner.{fault_of, fault_by_kind}
use Rattle.age_fault.specs.declared.fault.FileFault.{FileFault}
use Rattle.age_file_input.specs.Pulls.{Start, start_at, Pulled, PullFails, ReaderView, reader_view, Refills, Uses, Passes}
use Rattle.age_file_input.specs.Buffer.{Unread}
use Rattle.std.specs.Io.KnownBytes as known

-- ---- Bytes that are shown, one call after another.

-- a source that showed its bytes shows those that are left
pub left_of : (before after : Supply) (bytes used : List ℕ) → before.left ≡ Some bytes → Consumes before after used
    → (rest : List ℕ) × (bytes ≡ used ++ rest) × (after.left ≡ Some rest)
left_of before after bytes used is consumed =
    left after.left (subst (λ (b : Option (List ℕ)). known.Consumes b after.left used) is consumed.left) where
      left : (after : Option (List ℕ)) → known.Consumes (Some bytes) after used → (rest : List ℕ) × (bytes ≡ used ++ rest) × (after ≡ Some rest)
      left None h = absurd h
      left (Some rest) h = (rest, h, refl)

pub none_left : (after : Supply) (rest : List ℕ) → after.left ≡ Some rest → IsAtEnd after → rest ≡ []
none_left after rest is ended = subst known.IsAtEnd is ended.1

-- two texts that begin with as many bytes
pub same_front : (a b x y : List ℕ) → length a ≡ length b → a ++ x ≡ b ++ y → (a ≡ b) × (x ≡ y)
same_front a b x y len e = (
  sym (take_at a x (length b) len) ∙ (ap (take (length b)) e ∙ take_at b y (length b) refl),
  sym (drop_at a x (length b) len) ∙ (ap (drop (length b)) e ∙ drop_at b y (length b) refl),
)

-- ---- headers

pub stops_at : (old new : Supply) (held piece : List ℕ) → length piece ≤ pull_room → EndsInHeader held → Consumes old new (held ++ piece)
    → StopsAtHeader old new
stops_at old new held piece most inside consumed = grind (arith, common_steps)

-- the last pull gave nothing
pub stops_at_held : (old new : Supply) (held : List ℕ) → Consumes old new held → EndsInHeader held → StopsAtHeader old new
stops_at_held old new held consumed inside =
    stops_at old new held [] (omega arith) inside (subst (λ (t : List ℕ). Consumes old new t) (sym (append-nil held)) consumed)

-- nothing was pulled
pub stops_unread : (a : Supply) → StopsAtHeader a a
stops_unread a = grind (arith, common_steps, Consumes-nil, no_fault, none_held, nothing_under_way, stops_at_held)

-- a fault that the bytes have is the fault that is reported
fails_by_kind : (old new : SourceView) (kind : HeadKind) (fault : HeadFault) → StopsAtHeader old.supply new.supply
    → ReportsFault old.supply new.supply fault → HeadFails InHeader old new (fault_by_kind kind fault)
fails_by_kind old new HeadMemory fault stops reported = stops
fails_by_kind old new other fault stops reported = reported

-- a fault that was reported of the bytes that were read is that of all that the source had
pub fault_of_all : (old new : Supply) (all : List ℕ) (fault : HeadFault) → old.left ≡ Some all → ReportsFault old new fault → IsHeadFault all fault
fault_of_all old new all fault shown r =
    let t = left_of old new all r.bytes shown r.consumed in
    elim r.reports [
      | inl is ↦ (let more = more_fault r.bytes t.0 fault r.no_header is in
          subst (λ (x : List ℕ). IsHeadFault x fault) (sym t.1) (more.0, inl more.1))
      | inr cut ↦ (let same : all ≡ r.bytes = t.1 ∙ ap (λ (x : List ℕ). r.bytes ++ x) (none_left new t.0 t.2 cut.0) ∙ append-nil r.bytes in
          subst (λ (x : List ℕ). IsHeadFault x fault) (sym same) (cut.1.0.no_header, inr cut.1))
    ]

pub fault_if_shown : (old new : Supply) (fault : HeadFault) → ReportsFault old new fault → IfSome old.left (λ all. IsHeadFault all fault)
fault_if_shown old new fault r = by old.left refl where
  by : (left : Option (List ℕ)) → old.left ≡ left → IfSome left (λ all. IsHeadFault all fault)
  by None e = tt
  by (Some all) e = fault_of_all old new all fault e r

-- the input ended inside the header
pub end_fails : (old new : SourceView) (bytes : List ℕ) (fault : HeadFault) → Consumes old.supply new.supply bytes → IsAtEnd new.supply
    → IsCut bytes fault → HeadFails InHeader old new (fault_of fault)
end_fails old new bytes fault consumed ended cut =
    fails_by_kind old new fault.kind fault (stops_at_held old.supply new.supply bytes consumed cut.0) (record {
      bytes = bytes;
      consumed = consumed;
      no_header = cut.0.no_header;
      reports = inr (ended, cut);
    })

-- a piece that was refused
pub piece_fails : (old new : SourceView) (held piece : List ℕ) (fault : HeadFault) → StopsAtHeader old.supply new.supply
    → Consumes old.supply new.supply (held ++ piece) → (fault ≡ memory_fault) ⊎ ((HasHeader (held ++ piece) → ⊥) × IsFault (held ++ piece) fault)
    → HeadFails InHeader old new (fault_of fault)
piece_fails old new held piece fault stops consumed (inl memory) =
    subst (λ (f : HeadFault). HeadFails InHeader old new (fault_of f)) (sym memory) stops
piece_fails old new held piece fault stops consumed (inr is) =
    fails_by_kind old new fault.kind fault stops (record {
      bytes = held ++ piece;
      consumed = consumed;
      no_header = is.0;
      reports = inl is.1;
    })

-- a refill that gave nothing
pub cut_pulled : {start : Start} {now : Supply} {pulls : ℕ} (held : List ℕ) {bytes : List ℕ} → bytes ≡ [] → Pulled start now pulls (held ++ bytes)
    → Pulled start now pulls held
cut_pulled {start} {now} {pulls} held {bytes} none h = rw (none, append-nil held) at h

pub nothing_pulled : {x z : ReaderView} {result : Result Bool FileFault} {start : Start} {held : List ℕ} → Refills x z result → z.unread.bytes ≡ []
    → Pulled start x.source.supply x.unread.pulls held → Pulled start z.source.supply z.unread.pulls held
nothing_pulled {x} {z} {result} {start} {held} r none h = cut_pulled held none (r.pulled start held h)

-- no more came, and what came is sound
pub pull_fails : (Sound : Supply → Supply → Type 0) (old : SourceView) (mid now : ReaderView) (held : List ℕ)
    (fault : FileFault) → mid.source.failed ≡ old.failed → Sound old.supply now.source.supply
    → Pulled (start_at old.supply) now.source.supply now.unread.pulls held → PullFails mid now fault → HeadFails Sound old now.source fault
pull_fails Sound old mid now held fault h0 h1 h2 h3 = grind (arith, common_steps)

-- no more came, after pulls none of which failed
pub pull_fails_since : (old mid new : ReaderView) (fault : FileFault) → mid.source.failed ≡ old.source.failed → PullFails mid new fault
    → PullFails old new fault
pull_fails_since old mid new fault h0 h1 = grind (arith, common_steps)

-- ---- the pulls of a call, over its two sources

-- the part of a piece that a header ends in, and the part that is left in the intake
pub head_pulled : (start : Start) (now : Supply) (old new : Unread) (held piece : List ℕ) (taken : ℕ) → new.pulls ≡ old.pulls → piece ≡ old.bytes
    → new.bytes ≡ drop taken old.bytes → Pulled start now old.pulls (held ++ old.bytes)
    → Pulled start now new.pulls ((held ++ take taken piece) ++ new.bytes)
head_pulled start now old new held piece taken pulls is rest h = grind (arith, common_steps, append_assoc, take-append-drop)

-- ---- What a reader and a writer lend has its last value once they are gone.

pub read_last : {S : Type 0} (source : S → SourceView) (P : SourceView → Type 0) (s s' : S) → s ≡ s' → P (source s') → P (source s)
read_last {S} source P s s' e x = subst (λ (t : S). P (source t)) (sym e) x

pub ports_last : {S O : Type 0} (source : S → SourceView) (sink : O → SinkView) (P : Ports → Type 0) (s s' : S) (o o' : O) → s ≡ s' → o ≡ o'
    → P (ports (source s') (sink o')) → P (ports (source s) (sink o))
ports_last {S} {O} source sink P s s' o o' e f x =
    subst (λ (t : S). P (ports (source t) (sink o))) (sym e) (subst (λ (t : O). P (ports (source s') (sink t))) (sym f) x)

-- ---- What was read up to a payload, one step after another.

pub uses_then : (x y z : ReaderView) (p q r : List ℕ) → p ++ q ≡ r → Uses x y p → Uses y z q → Uses x z r
uses_then x y z p q r e f g = λ start used h.
    let first = subst (λ (t : List ℕ). Pulled start y.source.supply y.unread.pulls t) (sym (append_assoc used p y.unread.bytes)) (f start used h) in
    let e' : (used ++ p) ++ (q ++ z.unread.bytes) ≡ used ++ (r ++ z.unread.bytes) = append_assoc used p (q ++ z.unread.bytes)
    ∙ ap (λ (t : List ℕ). used ++ t) (sym (append_assoc p q z.unread.bytes) ∙ ap (λ (t : List ℕ). t ++ z.unread.bytes) e) in
    subst (λ (t : List ℕ). Pulled start z.source.supply z.unread.pulls t) e' (g start (used ++ p) first)

pub uses_front : (v : SourceView) (x y : Unread) (piece : List ℕ) (n : ℕ) → y.pulls ≡ x.pulls → piece ≡ x.bytes → y.bytes ≡ drop n x.bytes
    → Uses (reader_view v x) (reader_view v y) (take n piece)
uses_front v x y piece n pulls is rest = λ start used h. subst (λ (t : List ℕ). Pulled start v.supply y.pulls t)
    (append_assoc used (take n piece) y.bytes) (head_pulled start v.supply x y used piece n pulls is rest h)

-- ---- What was passed over, one step after another.

pub passes_then : {x y z : ReaderView} (p q : List ℕ) → Passes x y p → Passes y z q → Passes x z (p ++ q)
passes_then {x} {y} {z} p q f g = record {
  uses = uses_then x y z p q (p ++ q) refl f.uses g.uses;
  unfailed = g.unfailed ∙ f.unfailed;
  goes_on = λ so. g.goes_on (f.goes_on so);
}

-- no more bytes
pub passes_same : {x y z : ReaderView} {p : List ℕ} → Passes x y p → Passes y z [] → Passes x z p
passes_same {x} {y} {z} {p} f g = subst (Passes x z) (append-nil p) (passes_then p [] f g)

-- ---- Results in other words.

pub err_is : {T E : Type 0} {x : E} (r : Result T E) → IsErrAnd r (λ y. y ≡ x) → r ≡ Err x
err_is (Ok v) h = absurd h
err_is (Err y) h = ap Err h
