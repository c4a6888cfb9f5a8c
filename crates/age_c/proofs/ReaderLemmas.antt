-- From a reader's numbers to an opener and back.
use Rattle.std.proofs.lemmas.Grind.{common_steps, flat_map-append}
use Rattle.std.proofs.Common.{◌≡◌, ◌≢◌, ℕ, ◌+◌, ◌*◌, ◌/◌, ◌<◌, ap, sym, subst, ◌∙◌, refl, arith, List, [], ◌∷◌, ◌++◌, length, true, false, Some, None, Bool}
use Rattle.std.proofs.Common.{append-nil}
use Rattle.std.specs.Prelude.{Option, IfSome}
use Rattle.std.specs.Borrow.{Bor}
use Rattle.std.proofs.lemmas.List.{length-append, length-drop, nil_from_length}
use Rattle.age_stream.specs.Segment.{Segment}
use Rattle.age_stream.specs.{fresh, outcome, released, rest_bytes, with_piece, chunk_bytes, OpenerView, Stands, chunk_texts, has_failed}
use Rattle.age_stream.specs.declared.step.Status.{Status}
use Rattle.age_stream.specs.declared.step.Status.TheVariants.{Open}
use Rattle.age_stream.proofs.{fresh_outcome, fresh_rest, lent_flat}
use Rattle.age_c.specs.{Reader, answer_of, reader_status, IsAt, SameFile, TakesBlock}
use Rattle.age_keys.specs.inner.{opens}
use Rattle.age_c.specs.inner.{Keeps, PassesOn, key_of_reader as key_of}
use Rattle.age_chunk.specs.{chunk_length, block_length}

pub some_is : {A : Type 0} {a b : A} → Some a ≡ Some b → a ≡ b
some_is e = search

-- a reader that is open at a chunk was given nothing there
pub at_fresh : (r : Reader) → reader_status r.state r.fault_chunk ≡ Some Open → IsAt r (fresh r.chunk)
at_fresh r is_open = grind (arith, common_steps, fresh_outcome, fresh_rest)

pub unchanged : (r : Reader) → SameFile r r
unchanged r = record { file_key = refl; nonce = refl; payload_at = refl }

-- the opener of a reader
abbrev pub opener_of : Reader → Status → OpenerView (List ℕ)
opener_of r status = record { key = key_of r; held = []; index = r.chunk; status = status }

stands_of : (r : Reader) (status : Status) (s : Segment) → reader_status r.state r.fault_chunk ≡ Some status → IsAt r s
    → Stands opens chunk_length (opener_of r status) s
stands_of r status s e h = grind (arith, common_steps, some_is)

at_of : (r : Reader) (o : OpenerView (List ℕ)) (s : Segment) → o.key ≡ key_of r
    → o.index ≡ r.chunk → reader_status r.state r.fault_chunk ≡ Some o.status
    → (o.status ≡ Open → rest_bytes chunk_length s.bytes ≡ []) → Stands opens chunk_length o s → IsAt r s
at_of r o s key index status whole h =
    let is : o.status ≡ (outcome (opens (key_of r)) chunk_length s).status =
    h.status ∙ ap (λ k. (outcome (opens k) chunk_length s).status) key in
    record {
      status = status ∙ ap Some is;
      index = sym index ∙ (h.index ∙ ap (λ k. (outcome (opens k) chunk_length s).index) key);
      whole = λ is_open. whole (is ∙ is_open);
      timely = h.timely;
    }

pub key_same : (was now : Reader) → SameFile was now → key_of now ≡ key_of was
key_same was now same = cc (same.file_key, same.nonce)

-- a whole block more
rest_more : (bytes block : List ℕ) → rest_bytes chunk_length bytes ≡ [] → length block ≡ block_length → rest_bytes chunk_length (bytes ++ block) ≡ []
rest_more bytes block none len =
    nil_from_length (rest_bytes chunk_length (bytes ++ block)) (omega (
      arith,
      ap length none,
      len,
      length-append bytes block,
      length-drop (length bytes / block_length * block_length) bytes,
      length-drop (length (bytes ++ block) / block_length * block_length) (bytes ++ block),
    ))

whole_parts : (a : ℕ) (b : List ℕ) (ended late : Bool) (block : List ℕ) → rest_bytes chunk_length b ≡ [] → length block ≡ block_length
    → rest_bytes chunk_length (with_piece (record { start = a; bytes = b; ended = ended; late = late }) block).bytes ≡ []
whole_parts a b true late block none len = none
whole_parts a b false late block none len = rest_more b block none len

pub whole_piece : (s : Segment) (block : List ℕ) → rest_bytes chunk_length s.bytes ≡ []
    → length block ≡ block_length → rest_bytes chunk_length (with_piece s block).bytes ≡ []
whole_piece s = whole_parts s.start s.bytes s.ended s.late

-- a refusal writes nothing
nothing_of : (failed : Bool) (answer : ℕ) (text : List ℕ) → (failed ≡ false → answer ≡ 0) → (failed ≡ true → text ≡ []) → answer ≢ 0 → text ≡ []
nothing_of true answer text fine none some = none refl
nothing_of false answer text fine none some = absurd (some (fine refl))

-- a reader that keeps what an opener passes on takes it: if the opener stays open, no part of a block is left over
pub takes_of : (next : Segment → Segment) (r r' : Reader) (status kept : Status) (index : ℕ) (o o' : OpenerView (List ℕ)) (text : List ℕ)
    → o ≡ opener_of r status → reader_status r.state r.fault_chunk ≡ Some status → PassesOn next o o' text
    → index ≡ o'.index → kept ≡ o'.status → Keeps index kept r r'
    → ((s : Segment) → rest_bytes chunk_length s.bytes ≡ [] → o'.status ≡ Open → rest_bytes chunk_length (next s).bytes ≡ [])
    → TakesBlock next r (answer_of r'.state) text r'
takes_of next r r' status kept index o o' text view code passes index_is kept_is keeps whole =
    let key : o.key ≡ key_of r = ap (λ (o : OpenerView (List ℕ)). o.key) view in
    let stood : (s : Segment) → IsAt r s → Stands opens chunk_length o s =
    λ s h. subst (λ (o : OpenerView (List ℕ)). Stands opens chunk_length o s) (sym view) (stands_of r status s code h) in
    record {
      at = λ s h. at_of r' o' (next s) (passes.key ∙ (key ∙ sym (key_same r r' keeps.same))) (sym (keeps.index ∙ index_is))
          (keeps.status ∙ ap Some kept_is) (λ is_open. whole s (h.whole (sym (stands_of r status s code h).status
          ∙ (sym (ap (λ (o : OpenerView (List ℕ)). o.status) view) ∙ passes.was_open is_open))) is_open)
          (passes.stands s (stood s h));
      released = λ s h. subst (λ (k : List ℕ). released (opens k) chunk_length (next s) ≡ released (opens k) chunk_length s ++ text) key
          (passes.text_is s (stood s h));
      same = keeps.same;
      answer_is = refl;
      nothing = nothing_of (has_failed kept) (answer_of r'.state) text keeps.unfailed (λ failed. passes.nothing (sym (ap has_failed kept_is) ∙ failed));
    }

-- fewer bytes than a block, if none were held, give no text
no_text : (chunk : Option (Bor (List ℕ))) (held new : List ℕ) (taken : ℕ)
    → IfSome chunk (λ c. (length c.now ≡ chunk_length) × (length held + taken ≡ block_length) × (new ≡ [])) → held ≡ [] → taken < block_length
    → chunk_texts chunk ≡ []
no_text None held new taken lent none lt = refl
no_text (Some c) held new taken lent none lt = absurd (omega (arith, lent.1, ap length none, lt))

pub rest_text : (op : List ℕ → List ℕ → Option (List ℕ)) (s next : Segment) (chunk : Option (Bor (List ℕ))) (held new : List ℕ) (taken : ℕ)
    → (outcome op chunk_length next).texts ≡ (outcome op chunk_length s).texts ++ chunk_texts chunk
    → IfSome chunk (λ c. (length c.now ≡ chunk_length) × (length held + taken ≡ block_length) × (new ≡ [])) → held ≡ [] → taken < block_length
    → released op chunk_length next ≡ released op chunk_length s
rest_text op s next chunk held new taken e lent none lt = grind (arith, common_steps, append-nil, no_text)

pub block_text : (op : List ℕ → List ℕ → Option (List ℕ)) (s next : Segment) (chunk : Option (Bor (List ℕ))) (text : List ℕ)
    → (outcome op chunk_length next).texts ≡ (outcome op chunk_length s).texts ++ chunk_texts chunk → text ≡ chunk_bytes chunk
    → released op chunk_length next ≡ released op chunk_length s ++ text
block_text op s next chunk text e is = grind (arith, common_steps, lent_flat, flat_map-append)

-- what is passed on after no text was
pub passes_both : (first second : Segment → Segment) (a b c : OpenerView (List ℕ)) (text : List ℕ) → PassesOn first a b [] → PassesOn second b c text
    → PassesOn (λ s. second (first s)) a c text
passes_both first second a b c text none some = record {
  key = some.key ∙ none.key;
  stands = λ s h. some.stands (first s) (none.stands s h);
  text_is = λ s h. subst (λ (k : List ℕ). released (opens k) chunk_length (second (first s)) ≡ released (opens k) chunk_length (first s) ++ text)
      none.key (some.text_is (first s) (none.stands s h))
      ∙ ap (λ (t : List ℕ). t ++ text) (none.text_is s h ∙ append-nil (released (opens a.key) chunk_length s));
  nothing = some.nothing;
  was_open = λ is_open. none.was_open (some.was_open is_open);
}

-- an opener that is open after a piece was open before
pub rest_open : (rest : List ℕ) (old new : Status) → (0 < length rest → old ≡ Open) → (length rest ≡ 0 → new ≡ old) → new ≡ Open → old ≡ Open
rest_open [] old new more none is_open = sym (none refl) ∙ is_open
rest_open (byte ∷ rest) old new more none is_open = more (omega arith)

-- an answer of 0 means no refusal
pub done_of : (failed : Bool) (answer state : ℕ) → (failed ≡ true → answer ≢ 0) → (failed ≡ false → state ≡ 3) → answer ≡ 0 → state ≡ 3
done_of true answer state some done zero = absurd (some refl zero)
done_of false answer state some done zero = done refl
