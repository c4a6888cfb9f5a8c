-- The numbers of a header's faults among all faults, and their lines.
use Rattle.std.specs.Prelude.{ℕ, Option, Some, None}
use Rattle.age_fault.specs.declared.head.HeadFault.{HeadFault}
use Rattle.age_fault.specs.declared.head.HeadKind.{HeadKind}
use Rattle.age_fault.specs.declared.head.HeadKind.TheVariants.{NotAge, Armored, BadStanzaLine, BadBody}
use Rattle.age_fault.specs.declared.head.HeadKind.TheVariants.{BadEndLine, NoStanza, HeadTooLong, HeadCut}
use Rattle.age_fault.specs.declared.head.HeadKind.TheVariants.{Memory}

-- the fault that memory ran out, which belongs to no line
abbrev pub memory_fault : HeadFault
memory_fault = record { kind = Memory; line = 0 }

-- the number of a header's fault in the list of all faults
abbrev pub head_fault_number : HeadKind → ℕ
head_fault_number NotAge = 1
head_fault_number Armored = 2
head_fault_number BadStanzaLine = 3
head_fault_number BadBody = 4
head_fault_number BadEndLine = 5
head_fault_number NoStanza = 6
head_fault_number HeadTooLong = 7
head_fault_number HeadCut = 8
head_fault_number Memory = 28

-- the line of a header's fault; running out of memory has none
abbrev pub line_of : HeadKind → ℕ → Option ℕ
line_of Memory n = None
line_of kind n = Some n

-- the place of a header's fault, which is its line
abbrev pub head_fault_place : HeadFault → Option ℕ
head_fault_place fault = line_of fault.kind fault.line
