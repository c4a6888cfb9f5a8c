-- A header's text that is being read. Private: no public contract cites this module.
use Rattle.std.specs.Prelude.{◌≡◌, ℕ, List, [], ◌++◌, length, Option, Result, Ok, Err, ◌⊎◌, take}
use Rattle.std.specs.Prelude.{drop, Some, None}
use Rattle.sha2.specs.Hashers.{Holds256}
use Rattle.age_stanza.specs.{HeadText, HasHeader, IsFault, memory_fault, reading}
use Rattle.age_fault.specs.declared.head.HeadFault.{HeadFault}
use Rattle.age_stanza.specs.declared.header.Header.{Header}
use Rattle.age_file_input.specs.Headers.{EndsInHeader}
use Rattle.age_file_input.specs.Buffer.{Unread}
use Rattle.age_file_input.specs.declared.header.Head.{Head}
use Rattle.age_file_input.specs.declared.header.HeaderReader.{HeaderReader}

-- these bytes were fed, which hold no header and no fault
pub record IsFront (f : HeaderReader) (held : List ℕ) : Type 0 where
  pub parser_is : f.parser ≡ reading held
  pub len_is : f.len ≡ length held
  pub hashed : Holds256 f.digest held
  pub inside : EndsInHeader held

abbrev pub IsReading : HeaderReader → Type 0
IsReading f = (held : List ℕ) × IsFront f held

-- the header ends in the bytes of the intake, and was fed up to its end
pub record EndsFront (held : List ℕ) (was now : Unread) (new : HeaderReader) (header : Header)
    : Type 0 where
  pub taken : ℕ
  pub text : HeadText header (held ++ take taken was.bytes)
  pub len_is : new.len ≡ length (held ++ take taken was.bytes)
  pub hashed : Holds256 new.digest (held ++ take taken was.bytes)
  pub rest : now.bytes ≡ drop taken was.bytes
  pub pulls : now.pulls ≡ was.pulls

-- after these the bytes of the intake were fed
abbrev pub TakesFront : List ℕ → Unread → Unread → HeaderReader → Result (Option Header) HeadFault
    → Type 0
TakesFront held was now new (Ok None) = IsFront new (held ++ was.bytes) × (now.bytes ≡ [])
    × (now.pulls ≡ was.pulls)
TakesFront held was now new (Ok (Some header)) = EndsFront held was now new header
TakesFront held was now new (Err fault) = (fault ≡ memory_fault)
    ⊎ ((HasHeader (held ++ was.bytes) → ⊥) × IsFault (held ++ was.bytes) fault)

-- the header, with what was counted and hashed of its text
abbrev pub head_of : Header → HeaderReader → Head
head_of header f = record { header = header; len = f.len; digest = f.digest }
