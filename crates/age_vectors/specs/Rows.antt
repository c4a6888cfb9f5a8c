-- The rows of a table of headers: the length of the header in front, the fault's number and line,
-- or the key that is found.
use Rattle.std.specs.Prelude.{◌≡◌, ◌⊎◌, ℕ, List, take, Some}
use Rattle.age_stanza.specs.{HeadText, head_fault_number, head_fault_place, HasHeader, NoFault, IsFault}
use Rattle.age_stanza.specs.{line_after, memory_fault}
use Rattle.age_stanza.specs.{HeadFault, HeadCut}
use Rattle.age_stanza.specs.declared.header.Header.{Header}
use Rattle.age_keys.specs.{Opens}
use Rattle.age_vectors.specs.declared.header.TheConstants.{SMALLEST, SMALLEST_AND_ONE, FULL_LINE}
use Rattle.age_vectors.specs.declared.header.TheConstants.{LAST_BYTE_ONE, CR_LF, ARMOR, ARMOR_CR, TWO_SPACES}
use Rattle.age_vectors.specs.declared.header.TheConstants.{SPACE_AT_END, HIGH_BYTE, NUL, NO_EMPTY_LINE}
use Rattle.age_vectors.specs.declared.header.TheConstants.{TRAILING_BIT, NO_STANZA}

-- the bytes begin with a header of this many bytes
pub record Accepts (bytes : List ℕ) (size : ℕ) : Type 0 where
  pub header : Header
  pub text : HeadText header (take size bytes)

-- the input ended inside the header
abbrev pub IsHeaderCut : List ℕ → HeadFault → Type 0
IsHeaderCut bytes fault = (fault ≡ record { kind = HeadCut; line = line_after bytes }) × NoFault bytes

-- the fault of bytes and their end, which have no header in front
abbrev pub IsReported : List ℕ → HeadFault → Type 0
IsReported bytes fault = (fault ≡ memory_fault)
    ⊎ ((HasHeader bytes → ⊥) × (IsFault bytes fault ⊎ IsHeaderCut bytes fault))

-- the fault of bytes has this number and this line
pub record RefusesHeader (bytes : List ℕ) (number line : ℕ) : Type 0 where
  pub fault : HeadFault
  pub reported : IsReported bytes fault
  pub number_is : head_fault_number fault.kind ≡ number
  pub place_is : head_fault_place fault ≡ Some line

-- a header stands in front of the text, and the key may be answered for it, by the unlocker's
-- relation
pub record OpensIn (Allows : Header → List ℕ → Type 0) (text key : List ℕ) : Type 0 where
  pub header : Header
  pub size : ℕ
  pub stands : HeadText header (take size text)
  pub opens : Opens Allows header key

-- headers that are accepted, with their lengths
pub record AcceptedRows : Type 0 where
  pub smallest : Accepts SMALLEST.now 76
  pub payload_after : Accepts SMALLEST_AND_ONE.now 76
  pub full_line : Accepts FULL_LINE.now 141
  pub last_byte_one : Accepts LAST_BYTE_ONE.now 76

-- headers that are refused for their first line
pub record FirstLineRows : Type 0 where
  pub cr_lf : RefusesHeader CR_LF.now 1 1
  pub armor : RefusesHeader ARMOR.now 2 1
  pub armor_cr : RefusesHeader ARMOR_CR.now 2 1

-- headers that are refused for an argument line
pub record ArgumentRows : Type 0 where
  pub two_spaces : RefusesHeader TWO_SPACES.now 3 2
  pub space_at_end : RefusesHeader SPACE_AT_END.now 3 2
  pub high_byte : RefusesHeader HIGH_BYTE.now 3 2
  pub nul : RefusesHeader NUL.now 3 2

-- headers that are refused for another line
pub record LineRows : Type 0 where
  pub no_empty_line : RefusesHeader NO_EMPTY_LINE.now 4 4
  pub trailing_bit : RefusesHeader TRAILING_BIT.now 5 4
  pub no_stanza : RefusesHeader NO_STANZA.now 6 2
