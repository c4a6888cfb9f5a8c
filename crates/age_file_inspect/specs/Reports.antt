-- The report on a file's bytes (C2SP age.md, "Payload", for the length of the plaintext).
use Rattle.std.specs.Prelude.{◌≡◌, ℕ, ◌-◌, ◌≤◌, List, [], ◌++◌, length, map, Option, slice_index_or}
use Rattle.std.specs.Prelude.{MatchOption}
use Rattle.age_io.specs.Supply.{Supply}
use Rattle.age_io.specs.{Consumes, IsAtEnd}
use Rattle.age_stanza.specs.{HeadText}
use Rattle.age_stanza.specs.declared.header.Header.{Header}
use Rattle.age_stanza.specs.declared.header.Stanza.{Stanza}
use Rattle.age_stream.specs.{IsTextLength}
use Rattle.age_file_input.specs.{pull_room}
use Rattle.age_file_inspect.specs.declared.report.Report.{Report}
use Rattle.age_file_inspect.specs.declared.report.StanzaReport.{StanzaReport}

-- the report on a stanza: its type, the number of arguments after it, and the length of its body
abbrev pub stanza_report : Stanza → StanzaReport
stanza_report s = record {
  kind = slice_index_or s.args 0 [];
  args = length s.args - 1;
  body = length s.body;
}

-- a plaintext of p bytes has a nonce of 16 bytes and a payload of this many bytes together
abbrev pub IsPlain : ℕ → ℕ → Type 0
IsPlain rest p = (16 ≤ rest) × IsTextLength (rest - 16) p

-- the length of the one plaintext that this many bytes would have, or none
abbrev pub IsPlainOf : ℕ → Option ℕ → Type 0
IsPlainOf rest plain = MatchOption plain ((p : ℕ) → IsPlain rest p → ⊥) (IsPlain rest)

-- the bytes are a header's text and a rest, and the report is theirs
pub record IsReport (bytes : List ℕ) (r : Report) : Type 0 where
  pub h : Header
  pub front : List ℕ
  pub rest : List ℕ
  pub text : HeadText h front
  pub parts : bytes ≡ front ++ rest
  pub header_is : r.header ≡ length front
  pub stanzas_are : r.stanzas ≡ map stanza_report h.stanzas
  pub rest_is : r.rest ≡ length rest
  pub plain_is : IsPlainOf (length rest) r.plain

-- the bytes that were read, to the end, have this report
abbrev pub Inspects : Supply → Supply → Report → Type 0
Inspects old new r = (bytes : List ℕ) × Consumes old new bytes × IsAtEnd new × IsReport bytes r

-- The report of a source of this length, of which no more was read than its header and what one
-- pull gives after that: the rest is what the length leaves.
pub record InspectsFront (size : ℕ) (old new : Supply) (r : Report) : Type 0 where
  pub h : Header
  pub front : List ℕ
  pub more : List ℕ
  pub text : HeadText h front
  pub read : Consumes old new (front ++ more)
  pub few : length more ≤ pull_room
  pub header_is : r.header ≡ length front
  pub stanzas_are : r.stanzas ≡ map stanza_report h.stanzas
  pub rest_is : r.rest ≡ size - length front
  pub plain_is : IsPlainOf r.rest r.plain
