-- What a step leaves of a parser that isn't open any more. Private: no public contract cites this
-- module.
use Rattle.std.specs.Prelude.{Option, Some, None, Result, Ok, Err}
use Rattle.age_fault.specs.declared.head.HeadFault.{HeadFault}
use Rattle.age_stanza.specs.declared.head_step.HeadStep.{HeadStep}
use Rattle.age_stanza.specs.declared.head_step.HeadStep.TheVariants.{More, Ready}
use Rattle.age_stanza.specs.declared.parser.State.{State}
use Rattle.age_stanza.specs.declared.parser.State.TheVariants.{Done, Failed}

abbrev pub closed_by : Result HeadStep HeadFault → Option State
closed_by (Ok More) = None
closed_by (Ok (Ready taken h)) = Some Done
closed_by (Err fault) = Some (Failed fault)
