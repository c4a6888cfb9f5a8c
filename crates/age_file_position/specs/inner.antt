-- How the parts of a position's text are spelled, and where a run stands by its writer.
-- Private: no public contract cites this module.
use Rattle.std.specs.Prelude.{◌≡◌, ℕ, ◌+◌, List, ◌++◌, length, codes}
use Rattle.age_io.specs.{SinkView}
use Rattle.age_io.specs.Taken.{Appends}
use Rattle.age_file_position.specs.declared.run_progress.RunProgress.{RunProgress}
use Rattle.age_file_position.specs.declared.writer.Writer.{Writer}
use Rattle.std.specs.Fmt.{decimal}
use Rattle.age_stanza.specs.{base64_text}

-- ---- Where a run stands, by its reader and its writer.

-- what is seen of a sink, and how far the run has come
pub record WriterView : Type 0 where
  pub sink : SinkView
  pub tally : RunProgress

abbrev pub writer_view : SinkView → RunProgress → WriterView
writer_view sink tally = record { sink = sink; tally = tally }

-- these bytes were written
pub record Wrote (was now : WriterView) (out : List ℕ) : Type 0 where
  -- the sink took them
  pub bytes : Appends was.sink.taken now.sink.taken out
  -- they were counted
  pub count : now.tally.written ≡ was.tally.written + length out

abbrev pub view_of_writer : {O : Type 0} → (O → SinkView) → Writer O → WriterView
view_of_writer sink w = writer_view (sink w.sink.now) w.tally

-- a writer still has the same sink
abbrev pub SameWriter : {O : Type 0} → Writer O → Writer O → Type 0
SameWriter old new = new.sink.ghost_name ≡ old.sink.ghost_name

-- ---- How the parts of a position's text are spelled. Not of the age format.

-- how a text with this index begins
abbrev pub index_text : ℕ → List ℕ
index_text index = codes "age-position/v2 " ++ decimal index

-- a space, and the text of some bytes
abbrev pub field_text : List ℕ → List ℕ
field_text bytes = codes " " ++ base64_text bytes

-- what follows the index
abbrev pub fields_text : List ℕ → List ℕ → List ℕ → List ℕ
fields_text id links tag = field_text id ++ (field_text links ++ (field_text tag ++ codes "\n"))
