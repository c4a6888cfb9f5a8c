-- A piece that is taken by several calls.
use Rattle.std.proofs.lemmas.Grind.{flat_map-append}
use Rattle.std.proofs.Common.{◌≡◌, ◌≢◌, ℕ, ◌+◌, ◌-◌, ◌≤◌, refl, ap, ap₂, sym, subst, ◌∙◌, arith, List, [], ◌∷◌, ◌++◌, length, take, drop, false}
use Rattle.std.proofs.lemmas.List.{append-nil, drop_at, drop-drop, drop-take, length-append, length-drop, length-take, take_at, take-append-drop, take-append-le, take-take, take_rest}
use Rattle.std.proofs.Common.{inl, inr}
use Rattle.std.proofs.lemmas.Bool.Decides.{eqb_tells}
use borrow.Rule.Slice.PartMut.{post_of, put_mid, same_len_mid}
use Rattle.age_c.specs.{misused, AreDecodeCalls, DecodeCall, Decodes, DecodesMore, FeedsStream, IsDecodeCall, decode_call, decoder_last}
use Rattle.age_c.specs.{Answers, AreTextCalls, EncodesMore, FeedsText, IsTextCall, IsTextCallOn, RefusesText, TextCall, WritesOrRefuses}
use Rattle.age_c.specs.{stream_after, text_call_of}
use Rattle.age_c.specs.{IsPieceCall, IsTextPieceCall}
use Rattle.age_c.specs.inner.{IsStreamCall, KeepsRoom, KeepsTextRoom}
use Rattle.age_c.specs.inner.{DecodesOne, EncodesOne}
use Rattle.age_c.specs.declared.decoder.Decoder.{Decoder}
use Rattle.age_c.specs.declared.write_stream.WriteStream.{WriteStream}
use Rattle.age_c.proofs.DecoderLemmas.{answers_are_decode_calls}
use Rattle.age_c.proofs.WriterLemmas.{answers_are_text_calls}
use Rattle.std.proofs.lemmas.Bool.{false≢true}

are_more : (calls : List DecodeCall) (d : Decoder) (c : DecodeCall) → AreDecodeCalls d calls → IsDecodeCall (decoder_last d calls) c
    → AreDecodeCalls d (calls ++ c ∷ [])
are_more [] d c are it = (it, tt)
are_more (first ∷ calls) d c are it = (are.0, are_more calls first.call.after c are.1 it)

last_more : (calls : List DecodeCall) (d : Decoder) (c : DecodeCall) → decoder_last d (calls ++ c ∷ []) ≡ c.call.after
last_more [] d c = refl
last_more (first ∷ calls) d c = last_more calls first.call.after c

one_more : (old mid new : Decoder) (bytes wrote more text : List ℕ) → DecodesMore old mid bytes wrote → DecodesOne mid new more text
    → DecodesMore old new (bytes ++ more) (wrote ++ text)
one_more old mid new bytes wrote more text all one = record {
  calls = all.calls ++ one.call ∷ [];
  are = are_more all.calls old one.call all.are (subst (λ (d : Decoder). IsDecodeCall d one.call) (sym all.last) one.is);
  last = last_more all.calls old one.call ∙ one.after;
  given = flat_map-append (λ (c : DecodeCall). c.call.bytes) all.calls (one.call ∷ [])
      ∙ ap₂ (λ (a b : List ℕ). a ++ b) all.given (append-nil one.call.call.bytes ∙ one.given);
  wrote_is = flat_map-append (λ (c : DecodeCall). c.wrote) all.calls (one.call ∷ [])
      ∙ ap₂ (λ (a b : List ℕ). a ++ b) all.wrote_is (append-nil one.call.wrote ∙ one.wrote_is);
}

-- the bytes taken of a piece before and now
take_both : (xs : List ℕ) (at n : ℕ) → take (at + n) xs ≡ take at xs ++ take n (drop at xs)
take_both xs at n =
    sym (take-append-drop at (take (at + n) xs)) ∙ ap₂ (λ (a b : List ℕ). a ++ b) (take-take at (at + n) xs (omega arith)) (drop-take at n xs)

-- the bytes written before and now
put_front : (a n k : ℕ) (xs ys : List ℕ) → a ≤ length xs → n ≤ length ys → take (a + n) (put_mid a k xs ys) ≡ take a xs ++ take n ys
put_front a n k xs ys le fits =
    let rest : List ℕ = ys ++ post_of a k xs in
    let size : length (take a xs) ≡ a = omega (arith, le, length-take a xs) in
    take_both (take a xs ++ rest) a n ∙ ap₂ (λ (p q : List ℕ). p ++ take n q) (take_at (take a xs) rest a size) (drop_at (take a xs) rest a size)
    ∙ ap (λ (q : List ℕ). take a xs ++ q) (take-append-le n ys (post_of a k xs) fits)

pub room_more : (a n k : ℕ) (xs ys : List ℕ) → a ≤ length xs → n ≤ length ys → a + n ≤ length (put_mid a k xs ys)
room_more a n k xs ys le fits = omega (
  arith,
  le,
  fits,
  length-take a xs,
  length-append (take a xs) (ys ++ post_of a k xs),
  length-append ys (post_of a k xs),
)

pub piece_more : (old mid new : Decoder) (piece out part : List ℕ) (at n done count k : ℕ) → DecodesMore old mid (take at piece) (take done out)
    → DecodesOne mid new (take n (take (length piece - at) (drop at piece))) (take count part) → done ≤ length out → count ≤ length part
    → DecodesMore old new (take (at + n) piece) (take (done + count) (put_mid done k out part))
piece_more old mid new piece out part at n done count k all one le fits =
    subst (λ (b : List ℕ). DecodesMore old new b (take (done + count) (put_mid done k out part))) (sym (take_both piece at n))
    (subst (DecodesMore old new (take at piece ++ take n (drop at piece))) (sym (put_front done count k out part le fits))
    (one_more old mid new (take at piece) (take done out) (take n (drop at piece)) (take count part) all
    (subst (λ (r : List ℕ). DecodesOne mid new (take n r) (take count part)) (take_rest piece at) one)))

-- ---- The room of a piece is that of its steps.

pub step_fits : (d : Decoder) (piece out : List ℕ) (at done : ℕ) → IsPieceCall d (drop at piece) (length out - done) → done ≤ length out
    → IsStreamCall d.stream (take (length piece - at) (drop at piece)) (take (length out - done) (drop done out))
step_fits d piece out at done it le = record {
  usable = it.usable;
  short = it.short;
  room = λ full. omega (
    arith,
    it.enough,
    le,
    full,
    ap length (take_rest piece at),
    length-take (length out - done) (drop done out),
    length-drop done out,
  );
}

-- the next step fits
pub next_fits : (old new : Decoder) (piece out part : List ℕ) (at n done count : ℕ) → IsPieceCall old (drop at piece) (length out - done)
    → new.open ≡ 1 → KeepsRoom (take (length piece - at) (drop at piece)) old.stream n count new.stream → done ≤ length out
    → length part ≡ length (take (length out - done) (drop done out))
    → IsPieceCall new (drop (at + n) piece) (length (put_mid done (length out - done) out part) - (done + count))
next_fits old new piece out part at n done count it is_open keeps le same =
    let rest = take_rest piece at in
    let left : length (drop n (take (length piece - at) (drop at piece))) ≡ length (drop (at + n) piece) =
    ap (λ (r : List ℕ). length (drop n r)) rest ∙ ap length (drop-drop n at piece) in
    record {
      is_open = is_open;
      usable = keeps.usable;
      short = keeps.short;
      enough = omega (
        arith,
        keeps.room,
        it.enough,
        left,
        ap length rest,
        same_len_mid done (length out - done) out part same,
      );
    }

-- a call of `decode` is one
pub one_of : (old new : Decoder) (piece before after : List ℕ) (answer taken written : ℕ)
    → (answer ≢ misused → Decodes (λ answer text new. FeedsStream piece old.stream answer taken text new) old new answer written before after)
    → (answer ≡ misused → (new ≡ old) × (written ≡ 0)) → DecodesOne old new (take taken piece) (take written after)
one_of old new piece before after answer taken written does idle = elim (eqb_tells answer misused) [
  | inl is ↦ (let same = idle is.1 in record {
    call = decode_call false (take taken piece) answer [] (take written after) new;
    is = (answers_are_decode_calls old new piece before after answer taken written).2 false (take taken piece) is.1 same.0 same.1;
    after = refl;
    given = refl;
    wrote_is = refl;
  })
  | inr other ↦ (let it = does other.1 in record {
    call = decode_call false (take taken piece) answer it.text (take written after) new;
    is = (answers_are_decode_calls old new piece before after answer taken written).0 it other.1;
    after = refl;
    given = refl;
    wrote_is = refl;
  })
]

-- ---- The same of a plaintext.

pub next_text_fits : (old new : WriteStream) (piece out part : List ℕ) (at n done count : ℕ)
    → IsTextPieceCall old (drop at piece) (length out - done) → KeepsTextRoom (take (length piece - at) (drop at piece)) old n count new
    → done ≤ length out → length part ≡ length (take (length out - done) (drop done out))
    → IsTextPieceCall new (drop (at + n) piece) (length (put_mid done (length out - done) out part) - (done + count))
next_text_fits old new piece out part at n done count it keeps le same =
    let rest = take_rest piece at in
    let left : length (drop n (take (length piece - at) (drop at piece))) ≡ length (drop (at + n) piece) =
    ap (λ (r : List ℕ). length (drop n r)) rest ∙ ap length (drop-drop n at piece) in
    record {
      usable = keeps.usable;
      short = keeps.short;
      some = keeps.some;
      enough = omega (
        arith,
        keeps.room,
        it.enough,
        left,
        ap length rest,
        same_len_mid done (length out - done) out part same,
      );
    }

texts_more : (calls : List TextCall) (s : WriteStream) (c : TextCall) → AreTextCalls s calls → IsTextCallOn (stream_after s calls) c → c.is_end ≡ false
    → AreTextCalls s (calls ++ c ∷ [])
texts_more [] s c are it goes_on = (it, λ is_end. absurd (false≢true (sym goes_on ∙ is_end)), tt)
texts_more (first ∷ calls) s c are it goes_on = (are.0, are.1, texts_more calls first.after c are.2 it goes_on)

stream_more : (calls : List TextCall) (s : WriteStream) (c : TextCall) → stream_after s (calls ++ c ∷ []) ≡ c.after
stream_more [] s c = refl
stream_more (first ∷ calls) s c = stream_more calls first.after c

text_more : (old mid new : WriteStream) (text bytes more made : List ℕ) → EncodesMore old mid text bytes → EncodesOne mid new more made
    → EncodesMore old new (text ++ more) (bytes ++ made)
text_more old mid new text bytes more made all one = record {
  calls = all.calls ++ one.call ∷ [];
  are = texts_more all.calls old one.call all.are (subst (λ (s : WriteStream). IsTextCallOn s one.call) (sym all.last) one.is) one.goes_on;
  last = stream_more all.calls old one.call ∙ one.after;
  text_is = flat_map-append (λ (c : TextCall). c.text) all.calls (one.call ∷ [])
      ∙ ap₂ (λ (a b : List ℕ). a ++ b) all.text_is (append-nil one.call.text ∙ one.text_is);
  bytes_are = flat_map-append (λ (c : TextCall). c.bytes) all.calls (one.call ∷ [])
      ∙ ap₂ (λ (a b : List ℕ). a ++ b) all.bytes_are (append-nil one.call.bytes ∙ one.bytes_are);
}

pub text_piece_more : (old mid new : WriteStream) (piece out part : List ℕ) (at n done count k : ℕ) → EncodesMore old mid (take at piece) (take done out)
    → EncodesOne mid new (take n (take (length piece - at) (drop at piece))) (take count part) → done ≤ length out → count ≤ length part
    → EncodesMore old new (take (at + n) piece) (take (done + count) (put_mid done k out part))
text_piece_more old mid new piece out part at n done count k all one le fits =
    subst (λ (b : List ℕ). EncodesMore old new b (take (done + count) (put_mid done k out part))) (sym (take_both piece at n))
    (subst (EncodesMore old new (take at piece ++ take n (drop at piece))) (sym (put_front done count k out part le fits))
    (text_more old mid new (take at piece) (take done out) (take n (drop at piece)) (take count part) all
    (subst (λ (r : List ℕ). EncodesOne mid new (take n r) (take count part)) (take_rest piece at) one)))

-- a call of `feed_text` is one
pub text_one_of : (old new : WriteStream) (piece before after : List ℕ) (answer taken written : ℕ)
    → Answers (IsTextCall old piece before) (WritesOrRefuses (FeedsText piece taken old) (RefusesText piece old) old) old new answer written before after
    → (answer ≢ 0 → taken ≡ 0) → EncodesOne old new (take taken piece) (take written after)
text_one_of old new piece before after answer taken written it none = record {
  call = text_call_of false (take taken piece) answer written after new;
  is = (answers_are_text_calls old new piece before after answer taken written).0 it none;
  goes_on = refl;
  after = refl;
  text_is = refl;
  bytes_are = refl;
}
