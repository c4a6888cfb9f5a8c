-- The contract view of an engine's source and sink.
use Rattle.std.specs.Prelude.{◌≡◌}
use Rattle.age_io.specs.{SourceView, SinkView, HasFailed}

-- the views of an engine's source and of its sink
pub record Ports : Type 0 where
  pub source : SourceView
  pub sink : SinkView

-- the views of this source and of this sink
abbrev pub ports : SourceView → SinkView → Ports
ports source sink = record { source = source; sink = sink }

-- no call of the source or of the sink failed
abbrev pub NoneFailed : Ports → Ports → Type 0
NoneFailed old new = (new.source.failed ≡ old.source.failed) × (new.sink.failed ≡ old.sink.failed)

-- the source failed in one pull, its last, and the sink in no call
abbrev pub ReadFailed : Ports → Ports → Type 0
ReadFailed old new = HasFailed old.source.failed new.source.failed new.source.failing
    × (new.sink.failed ≡ old.sink.failed)

-- the sink failed in one call, its last, and the source in none
abbrev pub WriteFailed : Ports → Ports → Type 0
WriteFailed old new = HasFailed old.sink.failed new.sink.failed new.sink.failing
    × (new.source.failed ≡ old.source.failed)
