-- The faults of bytes that are no header, and the results of a parser that is fed pieces of bytes.
use Rattle.std.specs.Prelude.{ℕ, ◌≡◌, ◌≢◌, ◌⊎◌, ◌+◌, ◌-◌, ◌==◌, nat_eq, ◌||◌}
use Rattle.std.specs.Prelude.{true, false, if◌then◌else◌, List, [], ◌∷◌, ◌++◌, length, take, codes}
use Rattle.std.specs.Prelude.{count_by, ◌<◌, ◌≤◌, Result, Ok, Err}
use Rattle.std.specs.List.{flat_map, AllByRecursion, starts_with}
use Rattle.std.specs.Str.{bytes_eq}
use Rattle.base64.specs.GeneralPurpose.{IsBytes}
use Rattle.age_stanza.specs.Grammar.{line, version, stanza_text, end_line, IsStanza, Spells, HeadText}
use Rattle.age_stanza.specs.Grammar.{header_limit}
use Rattle.age_fault.specs.{memory_fault}
use Rattle.age_fault.specs.declared.head.HeadFault.{HeadFault}
use Rattle.age_fault.specs.declared.head.HeadKind.{HeadKind}
use Rattle.age_fault.specs.declared.head.HeadKind.TheVariants.{NotAge, Armored, BadStanzaLine, BadBody}
use Rattle.age_fault.specs.declared.head.HeadKind.TheVariants.{BadEndLine, NoStanza, HeadTooLong, HeadCut}
use Rattle.age_stanza.specs.declared.head_step.HeadStep.{HeadStep}
use Rattle.age_stanza.specs.declared.head_step.HeadStep.TheVariants.{More, Ready}
use Rattle.age_stanza.specs.declared.header.Header.{Header}
use Rattle.age_stanza.specs.declared.header.Stanza.{Stanza}

-- ---- The first fault of bytes that begin no header (C2SP age.md, "Header"): a line is faulty if
-- no header's text goes on after it. Which kind is reported is this crate's own choice, and follows
-- from where the line stands.

-- some header's text begins with these bytes
abbrev pub Begins : List ℕ → Type 0
Begins bytes = (h : Header) × (rest : List ℕ) × Spells h (bytes ++ rest)

-- a line, without its LF: no LF stands in it
abbrev pub IsLine : List ℕ → Type 0
IsLine l = AllByRecursion (λ c. c ≢ 10) l

-- complete lines, or none
abbrev pub AreLines : List ℕ → Type 0
AreLines bytes = (bytes ≡ []) ⊎ ((lines : List ℕ) × (bytes ≡ line lines))

-- l is the first faulty line, after the lines before it: no header's text begins with these and l
pub record FirstFault (bytes before l : List ℕ) : Type 0 where
  pub rest : List ℕ
  -- the bytes are the lines before it, the line and a rest
  pub parts : bytes ≡ before ++ (line l ++ rest)
  pub whole : AreLines before
  pub one_line : IsLine l
  -- some header's text begins with the lines before it
  pub valid_before : Begins before
  -- no header's text begins with these lines and the line
  pub faulty : ¬ Begins (before ++ line l)

-- the version line and complete stanzas
abbrev pub stanzas_text : List Stanza → List ℕ
stanzas_text ss = line version ++ flat_map stanza_text ss

-- an end line, without its LF: the mark, and the text of some MAC
abbrev pub IsEndLine : List ℕ → Type 0
IsEndLine l = (mac : List ℕ) × (length mac ≡ 32) × IsBytes mac × (l ≡ end_line mac)

-- the fault of the first faulty line, if it stands between stanzas
pub record RefusesBetween (l : List ℕ) (kind : HeadKind) : Type 0 where
  -- an end line is faulty only before the first stanza
  pub no_stanza : IsEndLine l → kind ≡ NoStanza
  -- a line that begins as one, but isn't one
  pub bad_end : starts_with nat_eq l (codes "---") ≡ true → ¬ IsEndLine l → kind ≡ BadEndLine
  -- any other line would have to be an argument line
  pub bad_stanza : starts_with nat_eq l (codes "---") ≡ false → kind ≡ BadStanzaLine

-- the first line of an armored file
abbrev pub armor : List ℕ
armor = codes "-----BEGIN AGE ENCRYPTED FILE-----"

-- the fault of the first faulty line, by its place
pub record RefusesLine (before l : List ℕ) (kind : HeadKind) : Type 0 where
  -- the first line is an armored file's, or no age file's
  pub first : before ≡ []
      → kind ≡ (if bytes_eq l armor || bytes_eq l (armor ++ 13 ∷ []) then Armored else NotAge)
  -- a line after the version line and complete stanzas
  pub between : (ss : List Stanza) → AllByRecursion IsStanza ss → before ≡ stanzas_text ss
      → RefusesBetween l kind
  -- any other line is one of a body
  pub in_body : before ≢ []
      → ((ss : List Stanza) → AllByRecursion IsStanza ss → before ≢ stanzas_text ss)
      → kind ≡ BadBody

-- the number of the line that follows some bytes, from 1
abbrev pub line_after : List ℕ → ℕ
line_after bytes = 1 + count_by (λ c. c == 10) bytes

-- ---- The fault of bytes.

-- the bytes begin with a header
abbrev pub HasHeader : List ℕ → Type 0
HasHeader bytes = (h : Header) × (header : List ℕ) × (rest : List ℕ) × HeadText h header
    × (bytes ≡ header ++ rest)

-- no line of the bytes is faulty
abbrev pub NoFault : List ℕ → Type 0
NoFault bytes = (before l : List ℕ) → FirstFault bytes before l → ⊥

-- the fault of the first faulty line
abbrev pub IsLineFault : List ℕ → HeadFault → Type 0
IsLineFault bytes fault = (before : List ℕ) × (l : List ℕ) × FirstFault bytes before l
    × (fault.line ≡ line_after before) × RefusesLine before l fault.kind

-- the fault of bytes that begin with no header, by their first 1,048,576, which is the limit of a
-- header: the first faulty line; or, if no line is faulty and there are that many, that the header
-- is too long, at the line of the last of them
abbrev pub IsFault : List ℕ → HeadFault → Type 0
IsFault bytes fault = IsLineFault (take header_limit bytes) fault
    ⊎ (NoFault (take header_limit bytes) × (length (take header_limit bytes) ≡ header_limit)
    × (fault ≡ record { kind = HeadTooLong; line = line_after (take (header_limit - 1) bytes) }))

-- ---- The contract view of a parser, and the change of it by a call.

-- the view of a parser: the joined bytes so far, or that a header was found, or the fault for which
-- it was refused
pub data Parsing : Type 0 where
  reading : List ℕ → Parsing
  complete : Parsing
  refused : HeadFault → Parsing

-- the invariant of every parser: the bytes so far of one that reads on are fewer than the limit,
-- they begin with no header, and none of their lines is faulty
abbrev pub IsParsing : Parsing → Type 0
IsParsing (reading held) = (length held < header_limit) × IsBytes held × (¬ HasHeader held)
    × NoFault held
IsParsing complete = Unit {0}
IsParsing (refused fault) = Unit {0}

-- the parser has returned no header
abbrev pub IsOpen : Parsing → Type 0
IsOpen parsing = parsing ≢ complete

-- the result for a piece, and the parser after it: a header exactly if a prefix of the joined bytes
-- is its text; else the first fault of the joined bytes; else more is asked for. An empty piece is
-- refused only after an earlier refusal, which stays
abbrev pub FeedsParser : Parsing → List ℕ → Result HeadStep HeadFault → Parsing → Type 0
FeedsParser (reading held) piece (Ok More) new = (new ≡ reading (held ++ piece))
    × (length (held ++ piece) < header_limit) × (¬ HasHeader (held ++ piece))
    × NoFault (held ++ piece)
FeedsParser (reading held) piece (Ok (Ready taken h)) new = (new ≡ complete) × (taken ≤ length piece)
    × HeadText h (held ++ take taken piece)
FeedsParser (reading held) piece (Err fault) new = (new ≡ refused fault)
    × ((fault ≡ memory_fault) ⊎ ((¬ HasHeader (held ++ piece)) × IsFault (held ++ piece) fault))
    × (0 < length piece)
FeedsParser complete piece result new = Unit {0}
FeedsParser (refused fault) piece result new = (result ≡ Err fault) × (new ≡ refused fault)

-- the result at the end of the input: that the header is truncated, in the line in which the end
-- comes, or the earlier fault
abbrev pub Cuts : Parsing → HeadFault → Parsing → Type 0
Cuts (reading held) fault new = (fault ≡ record { kind = HeadCut; line = line_after held })
    × (new ≡ refused fault) × (¬ HasHeader held) × NoFault held
Cuts complete fault new = Unit {0}
Cuts (refused earlier) fault new = (fault ≡ earlier) × (new ≡ refused earlier)
