-- The report of `inspect`, and the file that it is on.
use Rattle.std.specs.Prelude.{◌≡◌, ℕ, suc, true, List, ◌++◌, Option, Some, IfSome, codes, None}
use Rattle.std.specs.List.{flat_map}
use Rattle.std.specs.Fmt.{decimal}
use Rattle.age_io.specs.{SourceView, SinkView}
use Rattle.age_io.specs.Taken.{Appends}
use Rattle.age_io.specs.Supply.{Supply}
use Rattle.age_file_inspect.specs.{IsReport}
use Rattle.age_file_inspect.specs.Reports as file
use Rattle.age_file_inspect.specs.declared.report.Report.{Report}
use Rattle.age_file_inspect.specs.declared.report.StanzaReport.{StanzaReport}
use Rattle.age_cli_files.specs.{Outcome}
use Rattle.age_cli_files.specs.declared.file_set.IfMissing.TheVariants as missing
use Rattle.age_cli_commands.specs.Commands.{WasRead}
use Rattle.clap.specs.Words.{Text}

-- ---- How a report is printed: lines that end with LF, numbers in decimal.

-- The line of a stanza: stanza TYPE ARGS BODY.
abbrev pub stanza_line : StanzaReport → List ℕ
stanza_line s = codes "stanza " ++ s.kind ++ codes " " ++ decimal s.args ++ codes " "
    ++ decimal s.body ++ codes "\n"

-- The line of the plaintext's length: plain P, or plain none.
abbrev pub plain_line : Option ℕ → List ℕ
plain_line None = codes "plain none\n"
plain_line (Some p) = codes "plain " ++ decimal p ++ codes "\n"

-- The lines of a report: the version, the header's length, its stanzas, the rest and the
-- plaintext's length.
abbrev pub report_text : Report → List ℕ
report_text r = codes "version age-encryption.org/v1\nheader " ++ decimal r.header ++ codes "\n"
    ++ flat_map stanza_line r.stanzas ++ (codes "rest " ++ decimal r.rest ++ codes "\n")
    ++ plain_line r.plain

-- ---- What `inspect` did.

-- The report on an input of this length, by its header alone; or on one that was read to its end,
-- if its length isn't known or is 0, since a file of length 0 may give bytes, as in /proc.
abbrev pub ReportsAs : Option ℕ → Supply → Supply → Report → Type 0
ReportsAs (Some (suc n)) old new r = file.InspectsFront (suc n) old new r
ReportsAs size old new r = file.Inspects old new r

-- The report on what the file of this name gave, or on its header and its length by the set of
-- files. It is a report on all that the file had to give, if contracts see that.
pub record ReportsFile (Came : Outcome → Type 0) (name : Text) (r : Report) : Type 0 where
  pub first : SourceView
  pub last : SourceView
  pub reading : WasRead Came missing.Fails name first last
  pub whole : IfSome first.supply.left (λ bytes. IsReport bytes r)
  pub reports : ReportsAs reading.size first.supply last.supply r

-- A report was written, and flushed.
abbrev pub PrintsReport : (Reports : Report → Type 0) → (old new : SinkView) → Type 0
PrintsReport Reports old new = (r : Report) × Reports r × Appends old.taken new.taken (report_text r)
    × (new.flushed ≡ true)
