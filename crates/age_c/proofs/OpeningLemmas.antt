-- A decoder opens what was written.
use Rattle.std.proofs.lemmas.Grind.{common_steps}
use Rattle.std.proofs.Common.{inl, inr, ◌≡◌, ◌≢◌, ℕ, ◌+◌, ◌<◌, ◌≤◌, refl, ap, ap₂, sym, subst, ◌∙◌, arith, List, [], ◌∷◌, ◌++◌, length, take, drop}
use Rattle.std.proofs.Common.{true, false}
use Rattle.std.proofs.lemmas.Bool.{cases_lt, false≢true}
use Rattle.std.proofs.lemmas.Bool.Decides.{eqb_tells}
use Rattle.std.proofs.lemmas.List.{append-nil, append_assoc, append_cancel_left, length-append, length-drop, length-take, take-append-drop, take-append-le}
use Rattle.std.proofs.lemmas.List.{take_at}
use Rattle.age_stanza.specs.{HeadText, head_fault_number}
use Rattle.age_stanza.specs.declared.header.Header.{Header}
use Rattle.age_stanza.proofs.{more_fault}
use Rattle.age_stanza.proofs.PlaceLemmas.{one_header}
use Rattle.age_chunk.specs.{chunk_length, payload}
use Rattle.age_stream.specs.{HasUnambiguousEnd}
use Rattle.age_keys.specs.{AllowsAlone, IsMacOf, KeyFault, Refuses as RefusesHeader, RefusesKey, box, key_fault_number, unbox}
use Rattle.age_c.specs.{misused, more, HasFront, StartRefuses, start_fault_number, AreHeadCalls, AreOfFile, DecodersOpenFiles, DecodersReadBack, HasNoFront}
use Rattle.age_c.specs.{HeadCall}
use Rattle.age_c.specs.{IsHeadCallOn, OpensFile, OpensHead, Allowed, Allows, Refuses, decoder_after, held_front, taken_all, taken_by}
use Rattle.age_c.specs.Decoders.OpensFile.{waits, lacks_memory, is_open}
use Rattle.age_c.specs.declared.decoder.Decoder.{Decoder}
use Rattle.age_c.specs.declared.start.StartFault.{StartFault}
use Rattle.age_c.specs.declared.start.StartFault.TheVariants.{More, Head, Key}
use Rattle.age_c.proofs.DecoderLemmas.{Case, decoders_are_right, none_in_nothing, waits_next, misused_next}

-- the fault of a key that the header's MAC confirms
key_28 : (h : Header) (key : List ℕ) (fault : KeyFault) → IsMacOf h key → RefusesKey h key fault → key_fault_number fault ≡ 28
key_28 h key fault mac r = grind (arith, common_steps)

-- what was given, and what follows, after more of a piece
file_more : (file given piece rest : List ℕ) (n : ℕ) → given ++ (piece ++ rest) ≡ file → (given ++ take n piece) ++ (drop n piece ++ rest) ≡ file
file_more file given piece rest n e =
    append_assoc given (take n piece) (drop n piece ++ rest)
    ∙ (ap (λ (t : List ℕ). given ++ t) (sym (append_assoc (take n piece) (drop n piece) rest) ∙ ap (λ (t : List ℕ). t ++ rest) (take-append-drop n piece)) ∙ e)

module _ (h : Header) (front nonce rest_of file : List ℕ) (head : HeadText h front) (size : length nonce ≡ 16)
    (parts : file ≡ front ++ (nonce ++ rest_of)) where
  -- the file's header is the only one that its bytes begin with
  one_front : (b tail : List ℕ) (k : Header) (len : ℕ) → HasFront b k len → b ++ tail ≡ file → (k ≡ h) × (take len b ≡ front)
  one_front b tail k len has e =
      one_header k h (take len b) front (drop len b ++ tail) (nonce ++ rest_of) has.text.spells head.spells
      (sym (append_assoc (take len b) (drop len b) tail) ∙ (ap (λ (t : List ℕ). t ++ tail) (take-append-drop len b) ∙ (e ∙ parts)))

  -- and the nonce follows
  nonce_there : (b tail : List ℕ) (k : Header) (len : ℕ) → HasFront b k len → b ++ tail ≡ file → take 16 (drop len b) ≡ nonce
  nonce_there b tail k len has e =
      let one = one_front b tail k len has e in
      let whole : front ++ (drop len b ++ tail) ≡ front ++ (nonce ++ rest_of) =
      ap (λ (t : List ℕ). t ++ (drop len b ++ tail)) (sym one.1) ∙ (sym (append_assoc (take len b) (drop len b) tail)
      ∙ (ap (λ (t : List ℕ). t ++ tail) (take-append-drop len b) ∙ (e ∙ parts))) in
      let rest = append_cancel_left front (drop len b ++ tail) (nonce ++ rest_of) whole in
      let long : 16 ≤ length (drop len b) = omega (arith, has.within, length-drop len b) in
      sym (take-append-le 16 (drop len b) tail long) ∙ (ap (take 16) rest ∙ take_at nonce rest_of 16 size)

  -- bytes of the file without its header and nonce are fewer
  fewer : (given tail : List ℕ) → given ++ tail ≡ file → HasNoFront given → length given < length (front ++ nonce)
  fewer given tail e none = elim (cases_lt (length given) (length (front ++ nonce))) [
    | inl lt ↦ lt
    | inr le ↦ (let long : length front + 16 ≤ length given = omega (arith, le, length-append front nonce, size) in
        let first : take (length front) given ≡ front =
        sym (take-append-le (length front) given tail (omega (arith, long))) ∙ (ap (take (length front)) (e ∙ parts)
        ∙ take_at front (nonce ++ rest_of) (length front) refl) in
        absurd (none h (length front) (record { text = subst (HeadText h) (sym first) head; within = long })))
  ]

  module _ (Fits : Type 0) (Gives : Header → List ℕ → Type 0) (Refused : Header → KeyFault → Type 0) (key : List ℕ)
      (alone : AllowsAlone Gives Refused h key) where
    -- a refusal of bytes of the file is for want of memory
    refused_28 : (b tail : List ℕ) (answer : ℕ) (fault : StartFault) → b ++ tail ≡ file → answer ≡ start_fault_number fault
        → StartRefuses Gives Refused b fault → answer ≢ more → answer ≡ 28
    refused_28 b tail answer More e is r other = absurd (other is)
    refused_28 b tail answer (Head f) e is (inl memory) other = is ∙ ap (λ f. head_fault_number f.kind) memory
    refused_28 b tail answer (Head f) e is (inr bad) other =
        absurd ((more_fault b tail f bad.0 bad.1).0 (h, front, nonce ++ rest_of, head, e ∙ parts))
    refused_28 b tail answer (Key f) e is r other =
        let one = one_front b tail r.0 r.1 r.2 e in
        let refuses = subst (λ (k : Header). RefusesHeader Gives Refused k f) one.0 r.3 in
        elim (refuses.alone alone.alone) [
          | inl own ↦ is ∙ ap key_fault_number (alone.never f own)
          | inr by ↦ is ∙ key_28 h by.0 f (subst (IsMacOf h) (sym (alone.no_other by.0 by.1)) alone.mac) by.2
        ]

    -- what a decoder is that was given these bytes of the file
    data Reads (d : Decoder) (held given : List ℕ) : Type 0 where
      reads_on : d.open ≡ 0 → d.fault ≡ 0 → held ≡ given → HasNoFront held → (tail : List ℕ) → given ++ tail ≡ file → Reads d held given
      reads_none : d.open ≡ 0 → d.fault ≡ 28 → Reads d held given
      reads_all : d.open ≢ 0 → given ≡ front ++ nonce → d.stream.reader.file_key ≡ key → d.stream.reader.nonce ≡ nonce → Reads d held given

    -- the header is open
    opens_all : (d : Decoder) (given rest : List ℕ) (c : HeadCall) → held_front d c.front ≡ given → given ++ (c.piece ++ rest) ≡ file → c.after.open ≢ 0
        → OpensHead Gives c.piece d c.front c.count c.after → Reads c.after (held_front c.after c.front_after) (given ++ taken_by c)
    opens_all d given rest c is e some opens =
        let b : List ℕ = held_front d c.front ++ take opens.seen c.piece in
        let tail : List ℕ = drop opens.seen c.piece ++ rest in
        let s = opens.started in
        let whole : b ++ tail ≡ file =
        ap (λ (g : List ℕ). (g ++ take opens.seen c.piece) ++ tail) is ∙ file_more file given c.piece rest opens.seen e in
        let one = one_front b tail s.header s.len s.has whole in
        let long : length (given ++ taken_by c) ≡ length (front ++ nonce) = omega (
          arith,
          length-append given (taken_by c),
          length-take c.count c.piece,
          opens.most,
          ap length is,
          opens.ends,
          s.payload_at,
          length-append front nonce,
          size,
          ap length one.1,
          length-take s.len b,
          s.has.within,
        ) in
        let both : (given ++ taken_by c) ++ (drop c.count c.piece ++ rest) ≡ (front ++ nonce) ++ rest_of =
        file_more file given c.piece rest c.count e ∙ (parts ∙ sym (append_assoc front nonce rest_of)) in
        let n = length (front ++ nonce) in
        let all : given ++ taken_by c ≡ front ++ nonce =
        sym (take_at (given ++ taken_by c) (drop c.count c.piece ++ rest) n long) ∙ (ap (take n) both ∙ take_at (front ++ nonce) rest_of n refl) in
        reads_all some all (alone.no_other _ (subst (λ (k : Header). Gives k c.after.stream.reader.file_key) one.0 s.opened.allowed))
        (s.nonce ∙ nonce_there b tail s.header s.len s.has whole)

    -- a call on a decoder that waits
    read_next : (d : Decoder) (given rest : List ℕ) (c : HeadCall) → held_front d c.front ≡ given → (it : IsHeadCallOn Fits Gives Refused d c)
        → HasNoFront given → c.ended ≡ false → given ++ (c.piece ++ rest) ≡ file → c.answer ≢ misused → Case c.answer 0 → Case c.after.open 0
        → Reads c.after (held_front c.after c.front_after) (given ++ taken_by c)
    read_next d given rest c is it none still e other (inl ok) (inl shut) =
        let waits = waits_next Fits Gives Refused d given c is it none other ok.1 shut.1 in
        reads_on waits.0 waits.1 waits.2 waits.3 (drop c.count c.piece ++ rest) (file_more file given c.piece rest c.count e)
    read_next d given rest c is it none still e other (inl ok) (inr some) = opens_all d given rest c is e some.1 (it.opens ok.1 some.1)
    read_next d given rest c is it none still e other (inr some) shut =
        let refuses = it.refused some.1 other in
        let whole : (held_front d c.front ++ take refuses.seen c.piece) ++ (drop refuses.seen c.piece ++ rest) ≡ file =
        ap (λ (g : List ℕ). (g ++ take refuses.seen c.piece) ++ (drop refuses.seen c.piece ++ rest)) is
        ∙ file_more file given c.piece rest refuses.seen e in
        reads_none refuses.shut (refuses.fault ∙ refused_28 (held_front d c.front ++ take refuses.seen c.piece) (drop refuses.seen c.piece ++ rest)
        c.answer refuses.why.0 whole refuses.why.1 refuses.why.2 (λ cut. false≢true (sym still ∙ it.cut cut)))

    one_read : (d : Decoder) (held given rest : List ℕ) (c : HeadCall) → held_front d c.front ≡ held → (it : IsHeadCallOn Fits Gives Refused d c)
        → c.ended ≡ false → given ++ (c.piece ++ rest) ≡ file → Reads d held given → Case c.answer misused
        → Reads c.after (held_front c.after c.front_after) (given ++ taken_by c)
    one_read d held given rest c is it still e reads (inl misuse) =
        let next = misused_next Fits Gives Refused d held given c is it misuse.1 in
        subst (Reads c.after (held_front c.after c.front_after)) (sym next.2)
        (subst (λ (h : List ℕ). Reads c.after h given) (sym next.1) (subst (λ (d : Decoder). Reads d held given) (sym next.0) reads))
    one_read d held given rest c is it still e (reads_on shut unrefused same none tail before) (inr other) =
        read_next d given rest c (is ∙ same) it (subst HasNoFront same none) still e other.1 (eqb_tells c.answer 0) (eqb_tells c.after.open 0)
    one_read d held given rest c is it still e (reads_none shut fault) (inr other) =
        absurd (omega (arith, fault, (it.meant other.1).1.unrefused))
    one_read d held given rest c is it still e (reads_all some all keys nonces) (inr other) = absurd (some (it.meant other.1).1.shut)

    all_reads : (calls : List HeadCall) (d : Decoder) (held given : List ℕ) → Reads d held given → AreHeadCalls Fits Gives Refused d held calls
        → AreOfFile file given calls → (last : List ℕ) × Reads (decoder_after d calls) last (given ++ taken_all calls)
    all_reads [] d held given reads are of = (held, subst (Reads d held) (sym (append-nil given)) reads)
    all_reads (c ∷ calls) d held given reads are of =
        let next = one_read d held given of.1.0 c are.0 are.1 of.0 of.1.1 reads (eqb_tells c.answer misused) in
        let rest = all_reads calls c.after (held_front c.after c.front_after) (given ++ taken_by c) next are.2 of.2 in
        (rest.0, subst (Reads (decoder_after c.after calls) rest.0) (append_assoc given (taken_by c) (taken_all calls)) rest.1)

    opens_file : (d : Decoder) (held given : List ℕ) → Reads d held given → OpensFile front key nonce given d
    opens_file d held given (reads_on shut unrefused same none tail before) =
        waits shut unrefused (fewer given tail before (subst HasNoFront same none))
    opens_file d held given (reads_none shut fault) = lacks_memory shut fault
    opens_file d held given (reads_all some all keys nonces) = is_open some all keys nonces

pub decoders_open_files : DecodersOpenFiles
decoders_open_files key header file_key nonce text file it alone d begun heads are of =
    let begins = begun [] in
    let rest_of = payload (box file_key nonce) chunk_length text in
    let parts : file ≡ it.front ++ (nonce ++ rest_of) = it.parts ∙ append_assoc it.front nonce rest_of in
    let read = all_reads header it.front nonce rest_of file it.head it.size parts (Allowed key) (Allows key) (Refuses key) file_key alone heads d [] []
    (reads_on begins.shut begins.unrefused refl none_in_nothing file refl) are of in
    opens_file header it.front nonce rest_of file it.head it.size parts (Allowed key) (Allows key) (Refuses key) file_key alone (decoder_after d heads)
    read.0 (taken_all heads) read.1

-- a decoder that is open has the file's keys
keys_of : (front key nonce given : List ℕ) (d : Decoder) → OpensFile front key nonce given d → d.open ≢ 0
    → (d.stream.reader.file_key ≡ key) × (d.stream.reader.nonce ≡ nonce)
keys_of front key nonce given d (waits shut unrefused short) some = absurd (some shut)
keys_of front key nonce given d (lacks_memory shut fault) some = absurd (some shut)
keys_of front key nonce given d (is_open is all keys nonces) some = (keys, nonces)

pub decoders_read_back : DecodersReadBack
decoders_read_back key header file_key nonce text file it alone d begun heads are of some calls made given few closed =
    let e = decoder_after d heads in
    let keys = keys_of it.front file_key nonce (taken_all heads) e
    (decoders_open_files key header file_key nonce text file it alone d begun heads are of) some in
    let right = (decoders_are_right key d begun heads are some).1 calls made text few in
    let same : payload (box e.stream.reader.file_key e.stream.reader.nonce) chunk_length text ≡ payload (box file_key nonce) chunk_length text =
    ap₂ (λ (k n : List ℕ). payload (box k n) chunk_length text) keys.0 keys.1 in
    let shut : HasUnambiguousEnd (box e.stream.reader.file_key e.stream.reader.nonce) (unbox e.stream.reader.file_key e.stream.reader.nonce) chunk_length text =
    subst (λ (k : List ℕ). HasUnambiguousEnd (box k e.stream.reader.nonce) (unbox k e.stream.reader.nonce) chunk_length text) (sym keys.0)
    (subst (λ (n : List ℕ). HasUnambiguousEnd (box file_key n) (unbox file_key n) chunk_length text) (sym keys.1) closed) in
    right.whole shut (omega arith) (given ∙ ap (λ (b : List ℕ). record {
      start = 0;
      bytes = b;
      ended = true;
      late = false;
    }) (sym same))
