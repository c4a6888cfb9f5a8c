-- What a report says of the bytes that were read.
use Rattle.std.proofs.lemmas.Grind.{common_steps}
use Rattle.std.proofs.Common.{◌≡◌, ℕ, List, ◌++◌, length, Some, ap, subst, ◌∙◌, append_assoc, arith}
use Rattle.age_io.specs.Supply.{Supply}
use Rattle.age_io.specs.{SourceView}
use Rattle.std.proofs.lemmas.List.{length-append}
use Rattle.age_file_input.specs.{HeadFails, Start, Pulled}
use Rattle.age_file_inspect.specs.Reports.{InspectsFront, IsPlainOf, IsReport}
use Rattle.age_file_inspect.specs.declared.report.Report.{Report}
use Rattle.age_fault.specs.declared.fault.FileFault.{FileFault}
use Rattle.age_file_input.proofs.ReadLemmas.{left_of}

-- ---- headers

-- the bytes are sound in another sense too
pub sound_too : (P Q : Supply → Supply → Type 0) (old new : SourceView) (fault : FileFault)
    → (P old.supply new.supply → Q old.supply new.supply) → HeadFails P old new fault → HeadFails Q old new fault
sound_too P Q old new fault h0 h1 = grind (arith, common_steps)

-- ---- the pulls of a call, over its two sources

-- a refill that gave bytes, all of which are counted now
pub rest_pulled : (start : Start) (now : Supply) (pulls new_pulls : ℕ) (used passed fresh : List ℕ) → new_pulls ≡ pulls
    → Pulled start now pulls ((used ++ passed) ++ fresh) → Pulled start now new_pulls (used ++ (passed ++ fresh))
rest_pulled start now pulls new_pulls used passed fresh same h = rw (same, ← append_assoc used passed fresh) h

-- ---- What a report of a header and a length says of all bytes.

pub whole_of : (size : ℕ) (old : Supply) (bytes : List ℕ) (new : Supply) (r : Report) → old.left ≡ Some bytes → size ≡ length bytes
    → InspectsFront size old new r → IsReport bytes r
whole_of size old bytes new r is all f =
    let rest = left_of old new bytes (f.front ++ f.more) is f.read in
    let parts = rest.1 ∙ append_assoc f.front f.more rest.0 in
    let left : r.rest ≡ length (f.more ++ rest.0) = omega (arith, f.rest_is, all, ap length parts, length-append f.front (f.more ++ rest.0)) in
    record {
      h = f.h;
      front = f.front;
      rest = f.more ++ rest.0;
      text = f.text;
      parts = parts;
      header_is = f.header_is;
      stanzas_are = f.stanzas_are;
      rest_is = left;
      plain_is = subst (λ (n : ℕ). IsPlainOf n r.plain) left f.plain_is;
    }
