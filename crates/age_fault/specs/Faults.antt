-- The numbers, names and places of faults.
use Rattle.std.specs.Prelude.{ℕ, ◌-◌, List, [], ◌∷◌, Option, Some, None, codes, get_or}
use Rattle.age_chunk.specs.Payload as stream
use Rattle.age_fault.specs.HeadFaults as head
use Rattle.age_fault.specs.KeyFaults as key
use Rattle.age_fault.specs.declared.fault.FileFault.{FileFault}
use Rattle.age_fault.specs.declared.fault.FileFault.TheVariants.{Head, Key, NonceCut, Stream, BadPosition}
use Rattle.age_fault.specs.declared.fault.FileFault.TheVariants.{OtherFile, ShortText, Read, Write, Memory}
use Rattle.age_fault.specs.declared.fault.FileFault.TheVariants.{ReadNeverEnds, PositionForged}
use Rattle.age_fault.specs.declared.fault.FileFault.TheVariants.{OldTextDiffers}

-- the number of a fault in the list of all faults (docs/FAULTS.md)
abbrev pub fault_number : FileFault → ℕ
fault_number (Head fault) = head.head_fault_number fault.kind
fault_number (Key fault) = key.key_fault_number fault
fault_number NonceCut = 16
fault_number (Stream fault) = stream.stream_fault_number fault.kind
fault_number BadPosition = 23
fault_number OtherFile = 24
fault_number ShortText = 25
fault_number Read = 26
fault_number Write = 27
fault_number Memory = 28
fault_number ReadNeverEnds = 29
fault_number PositionForged = 30
fault_number OldTextDiffers = 31

-- the names of all faults, in the order of their numbers, from 1 on
abbrev pub names : List (List ℕ)
names = codes "NotAge" ∷ codes "Armored" ∷ codes "BadStanzaLine" ∷ codes "BadBody"
    ∷ codes "BadEndLine" ∷ codes "NoStanza" ∷ codes "HeadTooLong" ∷ codes "HeadCut"
    ∷ codes "ScryptNotAlone" ∷ codes "BadScrypt" ∷ codes "WorkTooHigh" ∷ codes "NoMatch"
    ∷ codes "WrongKey" ∷ codes "MacMismatch" ∷ codes "BadX25519" ∷ codes "NonceCut"
    ∷ codes "ChunkDamaged" ∷ codes "ChunkCut" ∷ codes "EmptyLast" ∷ codes "Truncated"
    ∷ codes "Trailing" ∷ codes "TooManyChunks" ∷ codes "BadPosition" ∷ codes "OtherFile"
    ∷ codes "ShortText" ∷ codes "Read" ∷ codes "Write" ∷ codes "Memory" ∷ codes "ReadNeverEnds"
    ∷ codes "PositionForged" ∷ codes "OldTextDiffers" ∷ []

-- the name of the fault of this number
abbrev pub name_by : ℕ → List ℕ
name_by number = get_or names (number - 1) []

-- the name of a fault in the list of all faults
abbrev pub name_of : FileFault → List ℕ
name_of fault = name_by (fault_number fault)

-- the place of a fault: the line of a header's, the chunk of a payload's, and none for any other
abbrev pub fault_place : FileFault → Option ℕ
fault_place (Head fault) = head.head_fault_place fault
fault_place (Stream fault) = Some fault.chunk
fault_place other = None
