-- Finished lines, and the line that is begun after them.
use Rattle.std.proofs.lemmas.Grind.{common_steps}
use Rattle.std.proofs.Common.{◌≡◌, ℕ, ◌+◌, ◌<◌, List, [], ◌∷◌, ◌++◌, length, take, Ok, Err, refl, sym, ap, subst, ◌∙◌, arith, inl, inr}
use Rattle.std.specs.Prelude.{◌⊎◌}
use Rattle.std.proofs.lemmas.List.{append-nil, append_assoc, length-append, take_all, take_at}
use Rattle.base64.specs.GeneralPurpose.{IsBytes}
use Rattle.age_stanza.specs.{Header, HeadFault, HeadKind, HeadCut, HeadTooLong, Memory, LineState, Go, line, Spells, IsLine, AreLines, line_after}
use Rattle.age_stanza.specs.declared.place.Next.TheVariants.{Done}
use Rattle.age_stanza.specs.inner.{step, fault_at, bytes_before, Fails, IsPartial, IsUnfinished, LeadTo}
use Rattle.age_stanza.proofs.TextLemmas.{no_bytes, IsBytes-append, IsLine-append}
use Rattle.age_stanza.proofs.LineLemmas.{All-front}
use Rattle.age_stanza.proofs.PlaceLemmas.{Leads, leads}
use Rattle.age_stanza.proofs.FaultLemmas.{line_after-begun, line_after-line, at_start, next_lead, last_of, line_fails, none_begun, no_fault}

-- ---- a begun line

-- finished lines and a begun one hold no header and no fault
pub under_way : (place : LineState) (bytes lines : ℕ) (l held : List ℕ) → IsPartial place l bytes lines → bytes_before place ++ l ≡ held → IsUnfinished held
under_way place bytes lines l held known is = grind (arith, common_steps, IsBytes-append)

-- nothing came yet
pub nothing_under_way : IsUnfinished []
nothing_under_way = grind (arith, common_steps, at_start, no_bytes)

-- ---- the number of the line

-- the begun line is the one after the finished ones
pub begun_number : (place : LineState) (n : ℕ) (l : List ℕ) → LeadTo place n → IsLine l → n ≡ line_after (bytes_before place ++ l)
begun_number place n l led lined = led.line_is ∙ sym (line_after-begun (bytes_before place) l lined)

-- the fault of a header that the input's end cuts
pub cut_here : (place : LineState) (bytes lines : ℕ) (l held : List ℕ) → IsPartial place l bytes lines → bytes_before place ++ l ≡ held
    → ◌≡◌ {A = HeadFault} (record { kind = HeadCut; line = lines + 1 }) (record { kind = HeadCut; line = line_after held })
cut_here place bytes lines l held known is =
    ap (λ n. record { kind = HeadCut; line = n }) (begun_number place (lines + 1) l known.lead_to known.one_line ∙ ap line_after is)

-- the line of the last byte, if that is the LF of a finished line
last_finished : (held : List ℕ) (lines n : ℕ) → AreLines held → length held ≡ n + 1 → lines + 1 ≡ line_after held → lines ≡ line_after (take n held)
last_finished held lines n h0 h1 h2 = grind (arith, common_steps, length-append, line_after-line, take_at)

pub finished_number : (place : LineState) (lines n : ℕ) (l held : List ℕ) → LeadTo place (lines + 1) → length l ≡ 0 → bytes_before place ++ l ≡ held
    → length held ≡ n + 1 → lines ≡ line_after (take n held)
finished_number place lines n l held h0 h1 h2 h3 = grind (arith, common_steps, append-nil, last_finished)

-- the line of the last byte, if that is a character of the begun line
pub begun_number_of_last : (place : LineState) (k n : ℕ) (l held : List ℕ) → LeadTo place k → IsLine l → (length l ≡ 0 → ⊥) → bytes_before place ++ l ≡ held
    → length held ≡ n + 1 → k ≡ line_after (take n held)
begun_number_of_last place k n [] held led lined some is size = absurd (some refl)
begun_number_of_last place k n (x ∷ xs) held led lined some is size =
    let last = last_of x xs in
    let front = bytes_before place ++ last.0 in
    let front_lined : IsLine last.0 = All-front (λ c. c ≡ 10 → ⊥) last.0 (last.1 ∷ []) (subst IsLine last.2 lined) in
    let parts : held ≡ front ++ last.1 ∷ [] = sym is ∙ ap (λ (t : List ℕ). bytes_before place ++ t) last.2
    ∙ sym (append_assoc (bytes_before place) last.0 (last.1 ∷ [])) in
    let long : length front ≡ n = omega (arith, ap length parts, length-append front (last.1 ∷ [])) in
    begun_number place k last.0 led front_lined ∙ ap line_after (sym (ap (take n) parts ∙ take_at front (last.1 ∷ []) n long))

-- as many bytes as the limit allows, without a header and a fault: it is too long
pub too_long : (held : List ℕ) (k : ℕ) → IsUnfinished held → length held ≡ 1048576 → k ≡ line_after (take 1048575 held)
    → Fails (record { kind = HeadTooLong; line = k }) held
too_long held k known long is =
    let all : take 1048576 held ≡ held = take_all 1048576 held (omega arith) in
    record {
      why = inr (
        none_begun held known.goes_on,
        inr (rw all (no_fault held known.are_bytes known.goes_on), rw all long, ap (λ n. record { kind = HeadTooLong; line = n }) is),
      );
    }

-- ---- the end of a line

module _ (place : LineState) (bytes lines : ℕ) (l more held : List ℕ) (known : IsPartial place l bytes lines) (is : bytes_before place ++ l ≡ held)
    (more_lined : IsLine more) (more_fits : IsBytes more) (room : length held + length more < 1048576) where
  joined : bytes_before place ++ line (l ++ more) ≡ held ++ line more
  joined = rw (← is) (simp append_assoc)

  lined : IsLine (l ++ more)
  lined = IsLine-append l more known.one_line more_lined

  fits : IsBytes (l ++ more)
  fits = IsBytes-append l more known.line_bytes more_fits

  to : Leads place (l ++ more) (step place (l ++ more))
  to = leads place (l ++ more) known.lead_to.known fits

  size : length (held ++ line more) ≡ bytes + length more + 1
  size = let long = known.size in
      omega (arith, long, ap length is, length-append held (line more), length-append more (10 ∷ []))

  -- what is kept after a finished line, and the bytes that led to the next place
  pub ended : (next : LineState) → step place (l ++ more) ≡ Ok (Go next)
      → IsPartial next [] (bytes + length more + 1) (lines + 1) × (bytes_before next ++ [] ≡ held ++ line more)
  ended next e =
      let whole : bytes_before next ++ [] ≡ held ++ line more = append-nil (bytes_before next) ∙ (subst (Leads place (l ++ more)) e to).0 ∙ joined in (
        record {
          lead_to = next_lead place next (lines + 1) (l ++ more) known.lead_to lined fits e;
          one_line = tt;
          line_bytes = no_bytes;
          size = sym (ap length whole ∙ size);
          within = omega (arith, known.size, ap length is, room);
        },
        whole,
      )

  pub ended_whole : (h : Header) → step place (l ++ more) ≡ Ok (Done h) → Spells h (held ++ line more)
  ended_whole h e = grind (arith, common_steps, joined, to)

  pub ended_faulty : (kind : HeadKind) → (kind ≡ Memory) ⊎ (step place (l ++ more) ≡ Err kind) → Fails (fault_at kind (lines + 1)) (held ++ line more)
  ended_faulty kind (inl memory) = record { why = inl (rw memory refl) }
  ended_faulty kind (inr e) = subst (Fails (fault_at kind (lines + 1))) joined
      (line_fails place (lines + 1) (l ++ more) kind known.lead_to lined fits e (omega (arith, ap length joined, size, known.size, ap length is, room)))
