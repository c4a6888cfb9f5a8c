-- A header that comes in pieces.
use Rattle.std.proofs.lemmas.Grind.{common_steps}
use Rattle.std.proofs.Common.{◌≡◌, ℕ, ◌<◌, ◌≤◌, ◌-◌, List, ◌++◌, length, take, drop, Some, None, Result, Ok, Err, refl, ap, subst, ◌∙◌, arith}
use Rattle.std.proofs.lemmas.List.{append_assoc, length-append, length-take, take-append-drop, take-take}
use Rattle.age_stanza.specs.{Header, HeadFault, HeadStep, More, Ready, Failed, HeadText, Spells, HasHeader, FeedsParser, IsParsing, reading, parsing_of}
use Rattle.age_stanza.specs.declared.parser.State.{State}
use Rattle.age_stanza.specs.declared.parser.State.TheVariants.{Done}
use Rattle.age_stanza.specs.inner.{Fails, TakesPiece, UnderWay, closed_by}
use Rattle.age_stanza.proofs.AnyPiecesLemmas.{fails_more}
use Rattle.age_stanza.proofs.FaultLemmas.{no_fault, none_begun}

-- bytes that are all held have no header in front, if a line is under way
pub none_held : (held : List ℕ) → length held < 1048576 → UnderWay held → HasHeader held → ⊥
none_held held _ h = none_begun held h

-- ---- what the part of a piece gives that the limit allows

-- a header that ends inside it
pub found_in : (held piece : List ℕ) (room taken : ℕ) (h : Header) → room ≡ 1048576 - length held → length held < 1048576
    → taken ≤ length (take room piece) → Spells h (held ++ take taken (take room piece)) → (taken ≤ length piece) × HeadText h (held ++ take taken piece)
found_in held piece room taken h room-is lt le spells = grind (arith, common_steps, length-append, length-take, take-take)

-- a fault
pub fails_in : (held piece : List ℕ) (room : ℕ) (fault : HeadFault) → Fails fault (held ++ take room piece) → Fails fault (held ++ piece)
fails_in held piece room fault fails =
    subst (Fails fault) (append_assoc held (take room piece) (drop room piece) ∙ ap (λ (t : List ℕ). held ++ t) (take-append-drop room piece))
    (fails_more (held ++ take room piece) (drop room piece) fault fails)

-- ---- what a step leaves of a parser: it closes it, or leaves it open

pub fed_closed : (held piece : List ℕ) (step : Result HeadStep HeadFault) (new : List ℕ) (closed : State) → closed_by step ≡ Some closed
    → TakesPiece held piece step new → FeedsParser (reading held) piece step (parsing_of closed)
fed_closed held piece (Ok More) new closed e takes = cc
fed_closed held piece (Ok (Ready taken h)) new closed e takes = let same : closed ≡ Done = cc in rw same (refl, takes.0, takes.1)
fed_closed held piece (Err fault) new closed e takes = let same : closed ≡ Failed fault = cc in rw same (refl, takes.0.why, takes.1)

pub fed_open : (held piece : List ℕ) (step : Result HeadStep HeadFault) (new : List ℕ) → closed_by step ≡ None → TakesPiece held piece step new
    → FeedsParser (reading held) piece step (reading new) × IsParsing (reading new)
fed_open held piece (Ok More) new e takes =
    let none = none_begun (held ++ piece) takes.2.goes_on in
    let fault = no_fault (held ++ piece) takes.2.are_bytes takes.2.goes_on in
    rw (takes.0) ((refl, takes.1, none, fault), (takes.1, takes.2.are_bytes, none, fault))
fed_open held piece (Ok (Ready taken h)) new e takes = cc
fed_open held piece (Err fault) new e takes = cc
