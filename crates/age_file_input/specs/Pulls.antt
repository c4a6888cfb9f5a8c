-- The pulls into the buffer, and what was read of a header.
use Rattle.std.specs.Prelude.{◌≡◌, ℕ, ◌+◌, ◌*◌, ◌^◌, ◌<◌, ◌≤◌, List, [], ◌++◌, length, Result, Ok}
use Rattle.std.specs.Prelude.{Err, Bool, true, false, not}
use Rattle.age_io.specs.Supply.{Supply}
use Rattle.age_io.specs.{Consumes, IsAtEnd, SourceView, HasFailed}
use Rattle.sha2.specs.Hashers.{Holds256}
use Rattle.age_stanza.specs.{HeadText}
use Rattle.age_fault.specs.declared.fault.FileFault.{FileFault}
use Rattle.age_fault.specs.declared.fault.FileFault.TheVariants.{Read, ReadNeverEnds}
use Rattle.age_file_input.specs.Headers.{pull_room, StopsAtHeader}
use Rattle.age_file_input.specs.Buffer.{Unread}
use Rattle.age_file_input.specs.declared.reader.Reader.{Reader}
use Rattle.age_file_input.specs.declared.header.Head.{Head}

-- ---- The state of a run, by its reader and its writer.

-- the view of a source with its buffer
pub record ReaderView : Type 0 where
  pub source : SourceView
  pub unread : Unread

-- the view of a source and of a buffer together
abbrev pub reader_view : SourceView → Unread → ReaderView
reader_view source unread = record { source = source; unread = unread }

-- the view of a reader, by the view of its source
abbrev pub view_of_reader : {S : Type 0} → (S → SourceView) → Reader S → ReaderView
view_of_reader source r = reader_view (source r.source.now) r.intake.now

-- a reader still has the same source, of the same name, and the same buffer
abbrev pub SameReader : {S : Type 0} → (S → SourceView) → Reader S → Reader S → Type 0
SameReader source old new = (new.source.ghost_name ≡ old.source.ghost_name)
    × (new.intake.ghost_name ≡ old.intake.ghost_name)
    × ((source new.source.now).label ≡ (source old.source.now).label)

-- ---- The pulls into the buffer.

-- the beginning of some pulls: the bytes of the source, and how many bytes of another source came
-- by the pulls that are counted on
pub record Start : Type 0 where
  pub source : Supply
  pub before : ℕ

-- the beginning of pulls at this source, before which none were made
abbrev pub start_at : Supply → Start
start_at source = record { source = source; before = 0 }

-- from its start a source gave these bytes by this many pulls that each gave some
pub record Pulled (start : Start) (now : Supply) (pulls : ℕ) (bytes : List ℕ) : Type 0 where
  pub consumed : Consumes start.source now bytes
  pub each_gave : pulls ≤ start.before + length bytes
  pub small : start.before + length bytes ≤ pull_room * pulls
  pub most : pulls ≤ 2 ^ 63

-- the reason why a source gave nothing: the pull failed, or none was made, since 2^63 gave some
abbrev pub PullFails : ReaderView → ReaderView → FileFault → Type 0
PullFails old new Read = HasFailed old.source.failed new.source.failed new.source.failing
PullFails old new ReadNeverEnds = (new.unread.pulls ≡ 2 ^ 63)
    × (new.source.failed ≡ old.source.failed)
PullFails old new other = ⊥

-- the buffer after one pull: it has bytes, or the source is at its end, or there was a fault
abbrev pub Refilled : ReaderView → ReaderView → Result Bool FileFault → Type 0
Refilled old new (Ok true) = (0 < length new.unread.bytes) × (length new.unread.bytes ≤ pull_room)
    × (new.unread.pulls ≤ 2 ^ 63) × (new.unread.pulls ≡ old.unread.pulls + 1)
    × (new.source.failed ≡ old.source.failed)
Refilled old new (Ok false) = (new.unread.bytes ≡ []) × (new.unread.pulls ≡ old.unread.pulls)
    × IsAtEnd new.source.supply × (new.source.failed ≡ old.source.failed)
Refilled old new (Err fault) = (new.unread.bytes ≡ []) × (new.unread.pulls ≡ old.unread.pulls)
    × PullFails old new fault

-- a pull found the end if it gave no bytes; one that failed found nothing
abbrev pub FindsEnd : Supply → Supply → Result Bool FileFault → Type 0
FindsEnd old new (Ok more) = new.is_at_end ≡ not more
FindsEnd old new (Err fault) = new.is_at_end ≡ old.is_at_end

-- one pull, if no byte was left: what was pulled from any start is now that and the fresh bytes
pub record Refills (old new : ReaderView) (result : Result Bool FileFault) : Type 0 where
  pub answered : Refilled old new result
  pub end : FindsEnd old.source.supply new.source.supply result
  pub pulled : (start : Start) (bytes : List ℕ)
      → Pulled start old.source.supply old.unread.pulls bytes
      → Pulled start new.source.supply new.unread.pulls (bytes ++ new.unread.bytes)

-- a header was read, and the bytes after it are in the buffer: they came with the last pull
pub record ReadsHead (old : SourceView) (new : ReaderView) (head : Head) : Type 0 where
  pub front : List ℕ
  pub text : HeadText head.header front
  pub len_is : head.len ≡ length front
  pub hashed : Holds256 head.digest front
  pub few : length new.unread.bytes ≤ pull_room
  pub pulled : Pulled (start_at old.supply) new.source.supply new.unread.pulls
      (front ++ new.unread.bytes)
  pub last : StopsAtHeader old.supply new.source.supply
  pub unfailed : new.source.failed ≡ old.failed
  pub goes_on : new.source.supply.is_at_end ≡ false

-- ---- The bytes that were read up to a payload.

-- bytes of the buffer were used, after those that were used before
abbrev pub Uses : ReaderView → ReaderView → List ℕ → Type 0
Uses old new bytes = (start : Start) (used : List ℕ)
    → Pulled start old.source.supply old.unread.pulls (used ++ old.unread.bytes)
    → Pulled start new.source.supply new.unread.pulls (used ++ (bytes ++ new.unread.bytes))

-- these bytes of a source were used, and no pull failed or found the end
pub record Passes (old new : ReaderView) (bytes : List ℕ) : Type 0 where
  pub uses : Uses old new bytes
  pub unfailed : new.source.failed ≡ old.source.failed
  pub goes_on : old.source.supply.is_at_end ≡ false → new.source.supply.is_at_end ≡ false
