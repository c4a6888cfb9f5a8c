-- The faults of reading a header, and when each comes.
use Rattle.std.specs.Prelude.{◌≡◌, ◌⊎◌, ◌*◌, ◌^◌, ◌<◌, ◌≤◌, ℕ, List, ◌++◌, length}
use Rattle.age_io.specs.Supply.{Supply}
use Rattle.age_io.specs.{Consumes, IsAtEnd, SourceView, HasFailed}
use Rattle.age_stanza.specs.{header_limit, HasHeader, NoFault, IsFault, line_after}
use Rattle.age_fault.specs.declared.head.HeadFault.{HeadFault}
use Rattle.age_fault.specs.declared.head.HeadKind.TheVariants.{HeadCut}
use Rattle.age_chunk.specs.{chunk_length}
use Rattle.age_fault.specs.declared.fault.FileFault.{FileFault}
use Rattle.age_fault.specs.declared.fault.FileFault.TheVariants.{Head, Read, Memory, ReadNeverEnds}

-- the most bytes that one pull gives: a chunk's, so that a pull of a plaintext that is encrypted
-- fills a chunk
abbrev pub pull_room : ℕ
pull_room = chunk_length

-- the bytes end within a header, and have no fault so far
pub record EndsInHeader (bytes : List ℕ) : Type 0 where
  pub no_header : HasHeader bytes → ⊥
  pub no_fault : NoFault bytes
  pub short : length bytes < header_limit

-- the bytes end within a header, and were truncated there
abbrev pub IsCut : List ℕ → HeadFault → Type 0
IsCut bytes fault = EndsInHeader bytes
    × (fault ≡ record { kind = HeadCut; line = line_after bytes })

-- the fault of some bytes and the end of the input after them: of a line, of their length, or of
-- their end
abbrev pub IsHeadFault : List ℕ → HeadFault → Type 0
IsHeadFault bytes fault = (HasHeader bytes → ⊥) × (IsFault bytes fault ⊎ IsCut bytes fault)

-- the bytes that were read have this fault
pub record ReportsFault (old new : Supply) (fault : HeadFault) : Type 0 where
  pub bytes : List ℕ
  pub consumed : Consumes old new bytes
  pub no_header : HasHeader bytes → ⊥
  pub reports : IsFault bytes fault ⊎ (IsAtEnd new × IsCut bytes fault)

-- this many bytes came by 2^63 pulls that each gave some
abbrev pub IsByAllPulls : ℕ → Type 0
IsByAllPulls count = (2 ^ 63 ≤ count) × (count ≤ pull_room * 2 ^ 63)

-- a source gave bytes by 2^63 pulls, and so is taken for one that never ends
abbrev pub NeverEnds : Supply → Supply → Type 0
NeverEnds old new = (bytes : List ℕ) × Consumes old new bytes × IsByAllPulls (length bytes)

-- the bytes that came end within a header, and have no fault so far
abbrev pub InHeader : Supply → Supply → Type 0
InHeader old new = (bytes : List ℕ) × Consumes old new bytes × EndsInHeader bytes

-- the bytes that came end within a header and have no fault so far, or they begin with a header
abbrev pub NoHeadFault : Supply → Supply → Type 0
NoHeadFault old new = (bytes : List ℕ) × Consumes old new bytes
    × (EndsInHeader bytes ⊎ HasHeader bytes)

-- no more than one pull gives came after bytes that end within a header and have no fault
pub record StopsAtHeader (old new : Supply) : Type 0 where
  pub before : List ℕ
  pub last : List ℕ
  pub read : Consumes old new (before ++ last)
  pub few : length last ≤ pull_room
  pub in_header : EndsInHeader before

-- the fault of reading a header, and when it comes. No more bytes came only if those that did are
-- sound
abbrev pub HeadFails : (Sound : Supply → Supply → Type 0) → SourceView
    → SourceView → FileFault → Type 0
HeadFails Sound old new (Head fault) = ReportsFault old.supply new.supply fault
HeadFails Sound old new Read = Sound old.supply new.supply
    × HasFailed old.failed new.failed new.failing
HeadFails Sound old new Memory = StopsAtHeader old.supply new.supply
HeadFails Sound old new ReadNeverEnds = Sound old.supply new.supply
    × NeverEnds old.supply new.supply
HeadFails Sound old new other = ⊥
