-- How a regular file is ended. Private: no public contract cites this module.
use Rattle.std.specs.Prelude.{Some, None}
use Rattle.std.specs.Prelude.{string_bytes}
use Rattle.age_io.specs.{SinkView}
use Rattle.age_host_model.specs.{OutView}
use Rattle.age_host_output.specs.Outputs.{sink_of}
use Rattle.age_host_output.specs.Targets.{IsAtOutName, IsTaking}
use Rattle.age_host_output.specs.declared.closing.OutputRecord.{OutputRecord}

-- its sink
abbrev pub tally_sink : OutputRecord → SinkView
tally_sink w = sink_of (string_bytes w.name.text) w.failures.count w.failures.last w.took

-- what its sink took was written to it, and it is at its name
abbrev pub WasWritten : OutView → OutputRecord → Type 0
WasWritten out w = IsTaking (Some out) w.failures.count w.took × IsAtOutName w.name (Some out.file) None
