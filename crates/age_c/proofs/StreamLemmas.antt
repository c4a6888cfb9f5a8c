-- What a stream's steps, and any calls on it, do to the segment that it was given.
use Rattle.std.proofs.lemmas.Grind.{common_steps}
use Rattle.std.proofs.Common.{inl, inr, ◌≡◌, ◌≢◌, ℕ, ◌+◌, ◌<◌, ◌≤◌, refl, ap, sym, subst, ◌∙◌, arith, List, [], ◌++◌, length, take, true, false}
use Rattle.std.specs.Prelude.{Some, min, ◌-◌}
use Rattle.std.specs.List.{flat_map}
use Rattle.std.proofs.lemmas.Bool.{cases_lt}
use Rattle.std.proofs.lemmas.List.{append-nil, length-take, nil_from_length}
use Rattle.age_chunk.specs.{block_length, chunk_length}
use Rattle.age_keys.specs.{unbox}
use Rattle.age_stream.specs.Segment.{Segment}
use Rattle.age_stream.specs.{Outcome, with_end, with_piece}
use Rattle.age_stream.specs.declared.step.Status.TheVariants.{Open}
use Rattle.age_stream.proofs.{going, going_part, piece_nil}
use Rattle.age_stream.proofs.GoingLemmas.{pieces_join}
use Rattle.age_c.specs.{Reader, answer_of, reader_status, IsAt, SameFile, TakesBlock, TakesEnd, after_block, after_end, reader_outcome}
use Rattle.age_c.specs.{reader_text, FeedsStream, FinishesStream, StreamMoves}
use Rattle.age_c.specs.inner.{IsBlockCall, IsStreamCall}
use Rattle.age_c.specs.{StreamIsAt, held_block}
use Rattle.age_c.specs.declared.stream.Stream.{Stream}
use Rattle.age_c.proofs.ReaderLemmas.{some_is, unchanged}

-- a part of a block releases nothing
part_same : (r : Reader) (blocks : Segment) (part : List ℕ) → IsAt r blocks
    → (0 < length part → (reader_outcome r blocks).status ≡ Open) → length part < block_length
    → reader_outcome r (with_piece blocks part) ≡ reader_outcome r blocks
part_same r blocks part at when short =
    elim (cases_lt 0 (length part)) [
      | inl some ↦ (let is = when some in
          let op = unbox r.file_key r.nonce in
          (going_part op chunk_length blocks part (going op chunk_length blocks is) (omega (arith, short, ap length (at.whole is)))).same)
      | inr none ↦ (let nil : part ≡ [] = nil_from_length part (omega (arith, none)) in
          ap (λ (p : List ℕ). reader_outcome r (with_piece blocks p)) nil ∙ ap (reader_outcome r) (piece_nil blocks))
    ]

-- the text that an outcome released
abbrev released_of : Outcome → List ℕ
released_of o = flat_map (λ (t : List ℕ). t) o.texts

-- what is held releases nothing
pub stream_same : (st : Stream) (s : Segment) → (h : StreamIsAt st s) → reader_outcome st.reader s ≡ reader_outcome st.reader h.blocks
stream_same st s h = grind (arith, common_steps, length-take, part_same)

-- bytes more, after those that are held
given_more : (st : Stream) (s : Segment) (h : StreamIsAt st s) (more all : List ℕ)
    → held_block st ++ more ≡ all → with_piece s more ≡ with_piece h.blocks all
given_more st s h more all is =
    ap (λ (t : Segment). with_piece t more) h.given ∙ (pieces_join h.blocks (held_block st) more ∙ ap (with_piece h.blocks) is)

-- a stream that holds nothing
pub nothing_held : (st : Stream) (s : Segment) → st.held ≡ 0 → IsAt st.reader s → StreamIsAt st s
nothing_held st s zero at = grind (arith, common_steps, piece_nil)

opened : (r : Reader) (s : Segment) → IsAt r s → reader_status r.state r.fault_chunk ≡ Some Open → (reader_outcome r s).status ≡ Open
opened r s at is = some_is (sym at.status ∙ is)

-- ---- bytes that leave the block open

pub feeds_part : (piece : List ℕ) (count : ℕ) (old new : Stream) → new.reader ≡ old.reader
    → held_block new ≡ held_block old ++ take count piece → new.held ≡ old.held + count
    → new.held < block_length → count ≡ min (length piece) (block_length - old.held) → old.held < block_length
    → reader_status old.reader.state old.reader.fault_chunk ≡ Some Open → FeedsStream piece old (answer_of new.reader.state) count [] new
feeds_part piece count old new same held more fits count_is short is = record {
  moves = record {
    at = λ s h. record {
      short = fits;
      blocks = h.blocks;
      at = subst (λ (r : Reader). IsAt r h.blocks) (sym same) h.at;
      is_open = λ _. ap (λ (r : Reader). (reader_outcome r h.blocks).status) same ∙ opened old.reader h.blocks h.at is;
      given = given_more old s h (take count piece) (held_block new) (sym held);
    };
    released = λ s h. let all : reader_outcome old.reader (with_piece s (take count piece)) ≡ reader_outcome old.reader h.blocks =
        ap (reader_outcome old.reader) (given_more old s h (take count piece) (held_block new) (sym held))
        ∙ part_same old.reader h.blocks (held_block new) h.at (λ _. opened old.reader h.blocks h.at is)
        (omega (arith, fits, length-take new.held new.block)) in
        ap released_of (all ∙ sym (stream_same old s h)) ∙ sym (append-nil (reader_text old.reader s));
    same = subst (SameFile old.reader) (sym same) (unchanged old.reader);
    answer_is = refl;
    nothing = λ _. refl;
  };
  most = omega (arith, count_is);
  some = λ some. omega (arith, count_is, some, short);
  all = λ left. absurd (omega (arith, count_is, left, short, fits, more));
}

-- ---- bytes that are opened with those that are held

-- what is held and the bytes are opened together, and nothing is held then
moves_of : (with_held next : Segment → Segment) (answer : ℕ) (text : List ℕ) (old new : Stream) → TakesBlock with_held old.reader answer text new.reader
    → new.held ≡ 0 → ((s : Segment) → (h : StreamIsAt old s) → next s ≡ with_held h.blocks) → StreamMoves next old answer text new
moves_of with_held next answer text old new takes zero is = record {
  at = λ s h. subst (StreamIsAt new) (sym (is s h)) (nothing_held new (with_held h.blocks) zero (takes.at h.blocks h.at));
  released = λ s h. ap (reader_text old.reader) (is s h) ∙ (takes.released h.blocks h.at
      ∙ ap (λ (o : Outcome). released_of o ++ text) (sym (stream_same old s h)));
  same = takes.same;
  answer_is = takes.answer_is;
  nothing = takes.nothing;
}

pub feeds_whole : (piece : List ℕ) (count answer : ℕ) (block text : List ℕ) (old new : Stream)
    → TakesBlock (after_block block) old.reader answer text new.reader → new.held ≡ 0 → held_block old ++ take count piece ≡ block
    → count ≡ min (length piece) (block_length - old.held) → old.held < block_length → FeedsStream piece old answer count text new
feeds_whole piece count answer block text old new takes zero is count_is short = record {
  moves = moves_of (after_block block) _ answer text old new takes zero (λ s h. given_more old s h (take count piece) block is);
  most = omega (arith, count_is);
  some = λ some. omega (arith, count_is, some, short);
  all = λ _. zero;
}

-- a whole block of a piece, opened where it lies
pub block_call : (s : Stream) (piece out : List ℕ) → IsStreamCall s piece out → block_length ≤ length piece
    → IsBlockCall s.reader (take block_length piece) out
block_call s piece out call whole = record {
  usable = call.usable;
  whole = omega (arith, length-take block_length piece, whole);
  room = call.room (omega (arith, whole));
}

-- bytes after the last block, or after a fault
pub feeds_closed : (piece : List ℕ) (count answer : ℕ) (text : List ℕ) (old new : Stream)
    → TakesBlock (λ (s : Segment). with_piece s (take count piece)) old.reader answer text new.reader → new.held ≡ 0 → count ≡ min (length piece) 1
    → (reader_status old.reader.state old.reader.fault_chunk ≢ Some Open) → FeedsStream piece old answer count text new
feeds_closed piece count answer text old new takes zero count_is shut =
    let none : (s : Segment) → (h : StreamIsAt old s) → s ≡ h.blocks = λ s h. elim (cases_lt 0 old.held) [
      | inl some ↦ absurd (shut (h.at.status ∙ ap Some (h.is_open some)))
      | inr le ↦ (let held : old.held ≡ 0 = omega (arith, le) in
          h.given ∙ (ap (λ (n : ℕ). with_piece h.blocks (take n old.block)) held ∙ piece_nil h.blocks))
    ] in
    record {
      moves = moves_of _ _ answer text old new takes zero (λ s h. ap (λ (t : Segment). with_piece t (take count piece)) (none s h));
      most = omega (arith, count_is);
      some = λ some. omega (arith, count_is, some);
      all = λ _. zero;
    }

-- the end
pub finishes : (answer : ℕ) (text : List ℕ) (old new : Stream) → TakesEnd (held_block old) old.reader answer text new.reader → new.held ≡ 0
    → FinishesStream old answer text new
finishes answer text old new ends zero = record {
  moves = moves_of (after_end (held_block old)) with_end answer text old new ends.takes zero (λ s h. ap with_end h.given);
  done = ends.done;
}

-- ---- an end

-- an end that is given no bytes
pub ends_with_none : (old : Stream) (answer : ℕ) (text : List ℕ) (new : Stream) → StreamMoves with_end old answer text new
    → StreamMoves (λ (s : Segment). with_end (with_piece s [])) old answer text new
ends_with_none old answer text new moves = record {
  at = λ s h. subst (λ (t : Segment). StreamIsAt new (with_end t)) (sym (piece_nil s)) (moves.at s h);
  released = λ s h. ap (λ (t : Segment). reader_text old.reader (with_end t)) (piece_nil s) ∙ moves.released s h;
  same = moves.same;
  answer_is = moves.answer_is;
  nothing = moves.nothing;
}
