-- Laws of headers, faults and parsers, whatever the code does.
use Rattle.std.specs.Prelude.{◌≡◌, ◌⊎◌, ℕ, List, [], ◌∷◌, ◌++◌, Result, ◌+◌, ◌*◌, ◌/◌, ◌%◌, length, codes}
use Rattle.std.specs.Prelude.{slice_index}
use Rattle.std.specs.List.{concat}
use Rattle.base64.specs.GeneralPurpose.{IsBytes, engine_symbols}
use Rattle.base64.specs.Engines.{standard_no_pad}
use Rattle.age_stanza.specs.Parsing.{Parsing, reading, complete, refused, HasHeader}
use Rattle.age_stanza.specs.Parsing.{IsFault, IsOpen, FeedsParser}
use Rattle.age_stanza.specs.Text.{base64_text}
use Rattle.age_stanza.specs.Grammar.{Spells, HeadText, mac_text}
use Rattle.age_fault.specs.{memory_fault}
use Rattle.age_fault.specs.declared.head.HeadFault.{HeadFault}
use Rattle.age_stanza.specs.declared.head_step.HeadStep.{HeadStep}
use Rattle.age_stanza.specs.declared.header.Header.{Header}
use Rattle.age_stanza.specs.declared.parser.State.{State}
use Rattle.age_stanza.specs.declared.parser.State.TheVariants.{Open, Done, Failed}

-- ---- The contract view of a parser.

-- the view of a parser's state
abbrev pub parsing_of : State → Parsing
parsing_of (Open held) = reading held
parsing_of Done = complete
parsing_of (Failed fault) = refused fault

-- ---- A parser that was fed a list of pieces, in the order of the calls.

-- a new parser that was fed these pieces may be this
pub data Fed : List (List ℕ) → Parsing → Type 0 where
  none : Fed [] (reading [])
  more : (pieces : List (List ℕ)) (old new : Parsing) (piece : List ℕ)
      (result : Result HeadStep HeadFault)
      → Fed pieces old → IsOpen old → FeedsParser old piece result new
      → Fed (pieces ++ piece ∷ []) new

-- the view of a parser that was fed these bytes is right about them
abbrev pub StandsFor : Parsing → List ℕ → Type 0
StandsFor (reading held) bytes = held ≡ bytes
StandsFor complete bytes = HasHeader bytes
StandsFor (refused fault) bytes = (fault ≡ memory_fault)
    ⊎ ((¬ HasHeader bytes) × IsFault bytes fault)

-- the state of a parser depends only on the joined bytes, however they were split into pieces
abbrev pub AnyPieces : Type 0
AnyPieces = (pieces : List (List ℕ)) (parser : Parsing) → Fed pieces parser
    → StandsFor parser (concat pieces)

-- ---- Laws about the definitions alone.

-- a text has at most one header, and no header's text begins another's
abbrev pub OneHeader : Type 0
OneHeader = (h k : Header) (a b x y : List ℕ) → Spells h a → Spells k b → a ++ x ≡ b ++ y
    → (h ≡ k) × (a ≡ b)

-- bytes have at most one first fault
abbrev pub OneFault : Type 0
OneFault = (bytes : List ℕ) (fault other : HeadFault) → IsBytes bytes → IsFault bytes fault
    → IsFault bytes other → fault ≡ other

-- a header's base64 is written in the 64 characters of RFC 4648, section 4, in their order
abbrev pub Alphabet : Type 0
Alphabet =
    engine_symbols standard_no_pad
    ≡ codes "ABCDEFGHIJKLMNOPQRSTUVWXYZabcdefghijklmnopqrstuvwxyz0123456789+/"

-- the fault of a prefix of some bytes is the fault of them all
abbrev pub FaultsStay : Type 0
FaultsStay = (prefix rest : List ℕ) (fault : HeadFault)
    → ¬ HasHeader prefix → IsFault prefix fault
    → (¬ HasHeader (prefix ++ rest)) × IsFault (prefix ++ rest) fault

-- the MAC covers the header's text without its last 45 bytes
abbrev pub MacTextIsFront : Type 0
MacTextIsFront = (h : Header) (bytes : List ℕ) → HeadText h bytes
    → (last : List ℕ) × (length last ≡ 45) × (bytes ≡ mac_text h ++ last)

-- the character of six bits; `Alphabet` says which character that is
abbrev pub character : ℕ → ℕ
character bits = slice_index (engine_symbols standard_no_pad) bits

-- base64 (RFC 4648, section 4): three bytes are four characters of six bits. Two bytes at the end
-- are three characters, and one is two, with zeros for the bits that the last character has left:
-- so the text is canonical (section 3.5). No padding follows
pub record IsBase64 : Type 0 where
  pub none : base64_text [] ≡ []
  pub one : (a : ℕ) → base64_text (a ∷ []) ≡ character (a / 4) ∷ character (a % 4 * 16) ∷ []
  pub two : (a b : ℕ) → base64_text (a ∷ b ∷ [])
      ≡ character (a / 4) ∷ character (a % 4 * 16 + b / 16) ∷ character (b % 16 * 4) ∷ []
  pub three : (a b c : ℕ) (rest : List ℕ) → base64_text (a ∷ b ∷ c ∷ rest)
      ≡ character (a / 4) ∷ character (a % 4 * 16 + b / 16) ∷ character (b % 16 * 4 + c / 64)
      ∷ character (c % 64) ∷ base64_text rest
