-- A machine that reads a header line by line, on lists: what the parser's code computes. Proofs tie
-- it to the definitions. Private: no public contract cites this module.
use Rattle.std.specs.Prelude.{◌≡◌, ◌⊎◌, ℕ, ◌+◌, ◌==◌, nat_eq, nat_lt, nat_le, Bool, true, false}
use Rattle.std.specs.Prelude.{◌&&◌, ◌||◌, if◌then◌else◌, List, [], ◌∷◌, ◌++◌, length, drop, codes}
use Rattle.std.specs.Prelude.{Option, Some, None, Result, Ok, Err, ◌/◌, ◌%◌, ◌≤◌, ◌<◌, take}
use Rattle.std.specs.List.{list_all, slice_split, starts_with, flat_map, AllByRecursion}
use Rattle.std.specs.Result.{result_ok}
use Rattle.std.specs.Str.{bytes_eq}
use Rattle.std.specs.Simd.{first_chunks}
use Rattle.base64.specs.GeneralPurpose.{decode_of, IsBytes}
use Rattle.base64.specs.Engines.{standard_no_pad}
use Rattle.age_stanza.specs.Grammar.{version, line, IsArgument, argument_line, IsStanza}
use Rattle.age_stanza.specs.Grammar.{header_limit, HeadText, Spells}
use Rattle.age_stanza.specs.Parsing.{armor, IsLine, AreLines, stanzas_text}
use Rattle.age_stanza.specs.Parsing.{line_after, HasHeader, IsFault}
use Rattle.age_stanza.specs.Text.{base64_text}
use Rattle.age_fault.specs.{memory_fault}
use Rattle.age_fault.specs.declared.head.HeadFault.{HeadFault}
use Rattle.age_fault.specs.declared.head.HeadKind.{HeadKind}
use Rattle.age_fault.specs.declared.head.HeadKind.TheVariants.{NotAge, Armored, BadStanzaLine, BadBody}
use Rattle.age_fault.specs.declared.head.HeadKind.TheVariants.{BadEndLine, NoStanza, Memory}
use Rattle.age_stanza.specs.declared.head_step.HeadStep.{HeadStep}
use Rattle.age_stanza.specs.declared.head_step.HeadStep.TheVariants.{More, Ready}
use Rattle.age_stanza.specs.declared.header.Header.{Header}
use Rattle.age_stanza.specs.declared.header.Stanza.{Stanza}
use Rattle.age_stanza.specs.declared.place.Next.{Next}
use Rattle.age_stanza.specs.declared.place.Next.TheVariants.{Go, Done}
use Rattle.age_stanza.specs.declared.place.LineState.{LineState}
use Rattle.age_stanza.specs.declared.place.LineState.TheVariants.{Start, Between, InBody}

-- a list of bytes, else none
abbrev pub only_bytes : Option (List ℕ) → Option (List ℕ)
only_bytes None = None
only_bytes (Some xs) = if list_all (λ x. nat_lt x 256) xs then Some xs else None

-- the bytes of a text that is canonical, else none
unfoldable pub base64_bytes : List ℕ → Option (List ℕ)
base64_bytes s = only_bytes (result_ok (decode_of standard_no_pad s))

-- what single spaces separate
abbrev pub at_spaces : List ℕ → List (List ℕ)
at_spaces l = slice_split (λ c. c == 32) l

abbrev pub tests_argument : List ℕ → Bool
tests_argument a = nat_lt 0 (length a) && list_all (λ c. nat_le 33 c && nat_le c 126) a

-- the arguments that are done, and these words, if all of them are arguments
unfoldable pub arguments_from : List (List ℕ) → List (List ℕ) → Option (List (List ℕ))
arguments_from done ws = if list_all tests_argument ws then Some (done ++ ws) else None

unfoldable pub arguments_of : List ℕ → Option (List (List ℕ))
arguments_of l = if starts_with nat_eq l (codes "-> ")
    then arguments_from [] (at_spaces (drop 3 l)) else None

abbrev pub whole_mac : Option (List ℕ) → Option (List ℕ)
whole_mac None = None
whole_mac (Some mac) = if length mac == 32 then Some mac else None

unfoldable pub mac_of : List ℕ → Option (List ℕ)
mac_of l = if starts_with nat_eq l (codes "--- ") then whole_mac (base64_bytes (drop 4 l)) else None

abbrev pub end_line_result : List Stanza → Option (List ℕ) → Result Next HeadKind
end_line_result ss None = Err BadEndLine
end_line_result [] (Some mac) = Err NoStanza
end_line_result (s ∷ ss) (Some mac) = Ok (Done (record { stanzas = s ∷ ss; mac = mac }))

abbrev pub argument_line_result : List Stanza → Option (List (List ℕ)) → Result Next HeadKind
argument_line_result ss None = Err BadStanzaLine
argument_line_result ss (Some args) = Ok (Go (InBody ss args []))

abbrev pub body_line_result : List Stanza → List (List ℕ) → List ℕ → Bool → Option (List ℕ)
    → Result Next HeadKind
body_line_result ss args body full None = Err BadBody
body_line_result ss args body true (Some more) = Ok (Go (InBody ss args (body ++ more)))
body_line_result ss args body false (Some more) =
    Ok (Go (Between (ss ++ record { args = args; body = body ++ more } ∷ [])))

-- where a line leads
unfoldable pub step : LineState → List ℕ → Result Next HeadKind
step Start l =
    if bytes_eq l version then Ok (Go (Between []))
    else if bytes_eq l armor || bytes_eq l (armor ++ 13 ∷ []) then Err Armored
    else Err NotAge
step (Between ss) l =
    if starts_with nat_eq l (codes "---") then end_line_result ss (mac_of l)
    else argument_line_result ss (arguments_of l)
step (InBody ss args body) l =
    if nat_lt 64 (length l) then Err BadBody
    else body_line_result ss args body (length l == 64) (base64_bytes l)

-- a refusal in this line; running out of memory has no line
abbrev pub fault_at : HeadKind → ℕ → HeadFault
fault_at Memory n = memory_fault
fault_at kind n = record { kind = kind; line = n }

-- a header, and what follows it
abbrev pub Found : Type 0
Found = Option (Header × List ℕ)

abbrev pub after : List ℕ → (LineState → Found) → Result Next HeadKind → Found
after rest go (Err kind) = None
after rest go (Ok (Done h)) = Some (h, rest)
after rest go (Ok (Go place)) = go place

-- the header that bytes lead to, from a place in whose line the characters so far are l
unfoldable pub walk : LineState → List ℕ → List ℕ → Found
walk place l [] = None
walk place l (c ∷ cs) =
    if c == 10 then after cs (λ next. walk next [] cs) (step place l)
    else walk place (l ++ c ∷ []) cs

-- what the code returns is what a function on lists gives, unless memory ran out
abbrev pub Gives : Result Next HeadKind → Result Next HeadKind → Type 0
Gives (Ok next) read = read ≡ Ok next
Gives (Err kind) read = (kind ≡ Memory) ⊎ (read ≡ Err kind)

-- where a line of a body leads once its bytes were added, by whether the line is full
abbrev pub line_added : List Stanza → List (List ℕ) → List ℕ → Bool → Result Next HeadKind
line_added ss args body true = Ok (Go (InBody ss args body))
line_added ss args body false =
    Ok (Go (Between (ss ++ record { args = args; body = body } ∷ [])))

-- a line of a body is added to it, whatever stands before the body
abbrev pub AddsLine : List ℕ → List ℕ → Result (Unit {0}) HeadKind → List ℕ → Type 0
AddsLine body l (Ok done) new = (ss : List Stanza) (args : List (List ℕ))
    → step (InBody ss args body) l ≡ line_added ss args new (length l == 64)
AddsLine body l (Err kind) new = (kind ≡ Memory) ⊎ ((ss : List Stanza) (args : List (List ℕ))
    → step (InBody ss args body) l ≡ Err kind)

-- ---- The bytes that led to a place: what was decoded is encoded again, so no byte of a finished
-- line need be kept.

-- a text in lines of 64, after which no line is begun
unfoldable pub whole_lines : List ℕ → List ℕ
whole_lines cs = flat_map line (first_chunks 64 (length cs / 64) cs)

-- what the finished lines were before the line of a place
abbrev pub bytes_before : LineState → List ℕ
bytes_before Start = []
bytes_before (Between ss) = stanzas_text ss
bytes_before (InBody ss args body) =
    stanzas_text ss ++ (line (argument_line args) ++ whole_lines (base64_text body))

-- what stands before a place is valid, and a body so far is full lines
abbrev pub IsPlace : LineState → Type 0
IsPlace Start = Unit {0}
IsPlace (Between ss) = AllByRecursion IsStanza ss
IsPlace (InBody ss args body) =
    AllByRecursion IsStanza ss × (0 < length args) × AllByRecursion IsArgument args × IsBytes body
    × (length body % 48 ≡ 0)

-- finished lines led to this place, in line n
pub record LeadTo (place : LineState) (n : ℕ) : Type 0 where
  pub known : IsPlace place
  pub reaches : (rest : List ℕ) → walk Start [] (bytes_before place ++ rest) ≡ walk place [] rest
  pub line_is : n ≡ line_after (bytes_before place)
  pub are_lines : AreLines (bytes_before place)
  pub are_bytes : IsBytes (bytes_before place)

-- what is kept of the fields of a partial header
pub record IsPartial (place : LineState) (l : List ℕ) (bytes lines : ℕ) : Type 0 where
  pub lead_to : LeadTo place (lines + 1)
  pub one_line : IsLine l
  pub line_bytes : IsBytes l
  pub size : bytes ≡ length (bytes_before place ++ l)
  pub within : bytes ≤ header_limit

-- finished lines, and a begun one after them
pub record UnderWay (held : List ℕ) : Type 0 where
  pub place : LineState
  pub n : ℕ
  pub l : List ℕ
  pub led : LeadTo place n
  pub one_line : IsLine l
  pub parts : held ≡ bytes_before place ++ l

-- bytes that hold no header and no fault
pub record IsUnfinished (held : List ℕ) : Type 0 where
  pub goes_on : UnderWay held
  pub are_bytes : IsBytes held

-- ---- What the end of a line, some bytes and a piece do to a part of a header.

-- memory ran out, or this is the fault of the bytes, which hold no header
pub record Fails (fault : HeadFault) (bytes : List ℕ) : Type 0 where
  pub why : (fault ≡ memory_fault) ⊎ ((¬ HasHeader bytes) × IsFault bytes fault)

-- the bytes that came up to and with the LF of a line
abbrev pub EndsLine : List ℕ → Result (Option Header) HeadFault → List ℕ → Type 0
EndsLine bytes (Ok None) new = new ≡ bytes
EndsLine bytes (Ok (Some h)) new = Spells h bytes
EndsLine bytes (Err fault) new = Fails fault bytes

-- bytes that are all read
abbrev pub ReadsLines : List ℕ → List ℕ → Result HeadStep HeadFault → List ℕ → Type 0
ReadsLines held bytes (Ok More) new = new ≡ held ++ bytes
ReadsLines held bytes (Ok (Ready taken h)) new =
    (taken ≤ length bytes) × Spells h (held ++ take taken bytes)
ReadsLines held bytes (Err fault) new = Fails fault (held ++ bytes) × (0 < length bytes)

-- a piece: no more of it is read than the limit allows
abbrev pub TakesPiece : List ℕ → List ℕ → Result HeadStep HeadFault → List ℕ → Type 0
TakesPiece held piece (Ok More) new = (new ≡ held ++ piece)
    × (length (held ++ piece) < header_limit) × IsUnfinished (held ++ piece)
TakesPiece held piece (Ok (Ready taken h)) new = (taken ≤ length piece)
    × HeadText h (held ++ take taken piece)
TakesPiece held piece (Err fault) new = Fails fault (held ++ piece) × (0 < length piece)
