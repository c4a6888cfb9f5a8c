-- Which fault of a file the fault of a lower layer becomes. Private: no public contract cites this
-- module.
use Rattle.age_fault.specs.declared.head.HeadFault.{HeadFault}
use Rattle.age_fault.specs.declared.head.HeadKind.{HeadKind}
use Rattle.age_fault.specs.declared.head.HeadKind.TheVariants.{Memory as HeadMemory}
use Rattle.age_fault.specs.declared.key.KeyFault.{KeyFault}
use Rattle.age_fault.specs.declared.key.KeyFault.TheVariants.{Memory as KeyMemory}
use Rattle.age_fault.specs.declared.fault.FileFault.{FileFault}
use Rattle.age_fault.specs.declared.fault.FileFault.TheVariants.{Head, Key, Memory}

-- a header's fault; running out of memory is one case, whichever layer it came from
abbrev pub fault_by_kind : HeadKind → HeadFault → FileFault
fault_by_kind HeadMemory fault = Memory
fault_by_kind kind fault = Head fault

abbrev pub fault_of : HeadFault → FileFault
fault_of fault = fault_by_kind fault.kind fault

-- an unlocker's fault as a file's, in the same way
abbrev pub fault_of_key : KeyFault → FileFault
fault_of_key KeyMemory = Memory
fault_of_key fault = Key fault
