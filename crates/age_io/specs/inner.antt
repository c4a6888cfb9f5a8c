-- Private: no public contract cites this module.
-- Bytes that went by.
use Rattle.std.specs.Prelude.{ℕ, List, replicate}
use Rattle.age_io.specs.declared.byte_trace.TraceItem.{TraceItem}
use Rattle.age_io.specs.declared.byte_trace.TraceItem.TheVariants.{Read, Unread}

-- Nobody knows those that weren't read, and zeros stand for them.
abbrev pub went_by : TraceItem → List ℕ
went_by (Read bytes) = bytes.now
went_by (Unread count) = replicate count 0
