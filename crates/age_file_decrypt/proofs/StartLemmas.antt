-- What was read up to a payload, and what was passed over, one step after another.
use Rattle.std.proofs.lemmas.Grind.{common_steps}
use Rattle.std.proofs.Common.{◌≡◌, ℕ, ◌≤◌, List, [], ◌++◌, length, take, drop, refl, sym, ap, subst, ◌∙◌, append_assoc, append-nil, inl, inr, arith, ◌<◌, ◌*◌}
use Rattle.std.proofs.Common.{◌/◌}
use Rattle.age_io.specs.Supply.{Supply}
use Rattle.age_io.specs.{SourceView, HasFailed}
use Rattle.std.proofs.lemmas.List.{take-append-drop, length-take-le, length-append}
use Rattle.age_stanza.specs.declared.header.Header.{Header}
use Rattle.age_io.proofs.{Consumes-nil}
use Rattle.age_file_decrypt.specs.Decrypts.{StartFails, InNonce}
use Rattle.age_file_position.specs.{file_id}
use Rattle.age_file_decrypt.specs.declared.start.Unlocked.{Unlocked}
use Rattle.age_file_input.specs.declared.header.Head.{Head as TheHead}
use Rattle.age_fault.specs.inner.{fault_of_key}
use Rattle.age_fault.specs.declared.fault.FileFault.{FileFault}
use Rattle.age_fault.specs.declared.fault.FileFault.TheVariants.{Read, ReadNeverEnds, NonceCut, Stream}
use Rattle.age_file_input.specs.{start_at, Pulled, ReaderView, reader_view, ReadsHead, Unread, Passes}
use Rattle.age_file_decrypt.specs.inner.{start_after, NonceFails, TakesNonce, StartsAt, NoMore, Dries, HasSome, SkipFails}
use Rattle.age_keys.specs.{Opens, Refuses}
use Rattle.age_fault.specs.declared.key.KeyFault.{KeyFault}
use Rattle.age_fault.specs.declared.key.KeyFault.TheVariants.{Memory as KeyMemory}
use Rattle.age_chunk.specs.declared.fault.StreamKind.TheVariants.{Truncated}
use Rattle.std.proofs.Math.Nat.{mul-le-mul_right}
use Rattle.age_file_input.proofs.ReadLemmas.{same_front, cut_pulled, pull_fails_since, uses_then, uses_front, passes_then, passes_same}

-- ---- Bytes that are shown, one call after another.

-- the longer of two beginnings of the same bytes
pub longer : (xs ys a b : List ℕ) → xs ++ a ≡ ys ++ b → length xs ≤ length ys → (more : List ℕ) × (ys ≡ xs ++ more) × (a ≡ more ++ b)
longer xs ys a b e le =
    let n = length xs in
    let parts : take n ys ++ drop n ys ≡ ys = take-append-drop n ys in
    let all : xs ++ a ≡ take n ys ++ (drop n ys ++ b) = e ∙ (ap (λ (t : List ℕ). t ++ b) (sym parts) ∙ append_assoc (take n ys) (drop n ys) b) in
    let same = same_front xs (take n ys) a (drop n ys ++ b) (sym (length-take-le n ys le)) all in (
      drop n ys,
      sym parts ∙ ap (λ (t : List ℕ). t ++ drop n ys) (sym same.0),
      same.1,
    )

-- ---- the pulls of a call, over its two sources

-- the pulls of one source are counted on at another
pub counted_on : (a b c : Supply) (pulls : ℕ) (front : List ℕ) → Pulled (start_at a) b pulls front → Pulled (start_after front c) c pulls []
counted_on a b c pulls front h = grind (arith, common_steps, Consumes-nil)

-- and back
pub counted_back : (a b c d : Supply) (pulls total : ℕ) (x y : List ℕ) → Pulled (start_at a) b pulls x → Pulled (start_after x c) d total y
    → Pulled (start_after y a) b total x
counted_back a b c d pulls total x y h k = grind (arith, common_steps)

-- ---- What was read up to a payload, one step after another.

module _ (Allows : Header → List ℕ → Type 0) (Refused : Header → KeyFault → Type 0) where
  pub key_to_start : {a : SourceView} {y : ReaderView} {h : TheHead} → ReadsHead a y h → (fault : KeyFault) → Refuses Allows Refused h.header fault
      → StartFails Allows Refused a y.source (fault_of_key fault)
  key_to_start {a} {y} {h} head KeyMemory refuses = head.last
  key_to_start {a} {y} {h} head other refuses = (h.header, head.front, y.unread.bytes, head.text, head.pulled.consumed, λ e. cc, refuses, head.few)

  -- a header was read and opened
  module _ {a : SourceView} {y z : ReaderView} {h : TheHead} {key : List ℕ} (head : ReadsHead a y h) (opens : Opens Allows h.header key) where
    -- no nonce came
    pub nonce_missed : (fault : FileFault) → NonceFails y z fault → StartFails Allows Refused a z.source fault
    nonce_missed fault (short, lt, d) = by fault d.why where
      all : Pulled (start_at a.supply) z.source.supply z.unread.pulls (head.front ++ short)
      all = cut_pulled (head.front ++ short) d.used (subst (λ (t : List ℕ). Pulled (start_at a.supply) z.source.supply z.unread.pulls t)
          (sym (append_assoc head.front short z.unread.bytes)) (d.uses (start_at a.supply) head.front head.pulled))

      in_nonce : InNonce Allows a.supply z.source.supply
      in_nonce = (h.header, head.front, key, short, head.text, opens, lt, all.consumed)

      by : (fault : FileFault) → NoMore NonceCut y z fault → StartFails Allows Refused a z.source fault
      by fault (inl ended) = subst (StartFails Allows Refused a z.source) (sym ended.0) (in_nonce, ended.1)
      by Read (inr f) = (inr in_nonce, subst (λ (m : ℕ). HasFailed m z.source.failed z.source.failing) head.unfailed f)
      by ReadNeverEnds (inr f) =
          (inr in_nonce, (head.front ++ short, all.consumed, (omega (arith, all.each_gave, f.0), omega (arith, all.small, f.0))))
      by other (inr f) = absurd f

    -- it came
    pub nonce_found : (u : Unlocked) → u.key ≡ key → length u.nonce ≡ 16 → u.id ≡ file_id head.front u.nonce → TakesNonce y z u.nonce
        → StartsAt Allows a z u
    nonce_found u key_is size id takes = record {
      header = h.header;
      front = head.front;
      text = head.text;
      opens = subst (λ (k : List ℕ). Opens Allows h.header k) (sym key_is) opens;
      size = size;
      id = id;
      few = takes.few;
      pulled = subst (λ (t : List ℕ). Pulled (start_at a.supply) z.source.supply z.unread.pulls t)
          (sym (append_assoc head.front u.nonce z.unread.bytes)) (takes.passes.uses (start_at a.supply) head.front head.pulled);
      unfailed = takes.passes.unfailed ∙ head.unfailed;
      goes_on = takes.passes.goes_on head.goes_on;
    }

-- ---- What was passed over, one step after another.

-- the front of the bytes that are there
pub passes_on : {x y : ReaderView} {source : SourceView} {u v : Unread} {p : List ℕ} (piece : List ℕ) (n : ℕ) → Passes x y p
    → HasSome y (reader_view source u) → v.pulls ≡ u.pulls → piece ≡ u.bytes → v.bytes ≡ drop n u.bytes
    → Passes x (reader_view source v) (p ++ take n piece)
passes_on {x} {y} {source} {u} {v} {p} piece n f some pulls is rest =
    passes_then p (take n piece) (passes_same f some.passes) (record {
      uses = uses_front source u v piece n pulls is rest;
      unfailed = refl;
      goes_on = λ so. so;
    })

-- no more came, after pulls none of which failed
pub no_more_since : (at_end : FileFault) (old mid new : ReaderView) (fault : FileFault) → mid.source.failed ≡ old.source.failed
    → NoMore at_end mid new fault → NoMore at_end old new fault
no_more_since at_end old mid new fault same (inl ended) = inl (ended.0, ended.1, ended.2 ∙ same)
no_more_since at_end old mid new fault same (inr f) = inr (pull_fails_since old mid new fault same f)

pub dries_then : {at_end : FileFault} {x y z : ReaderView} (p q : List ℕ) (fault : FileFault) → Passes x y p → Dries at_end y z q fault
    → Dries at_end x z (p ++ q) fault
dries_then {at_end} {x} {y} {z} p q fault f g = record {
  uses = uses_then x y z p q (p ++ q) refl f.uses g.uses;
  used = g.used;
  why = no_more_since at_end x y z fault f.unfailed g.why;
}

-- if no byte came
pub dries_same : {at_end : FileFault} {x y z : ReaderView} {p : List ℕ} (fault : FileFault) → Passes x y p → Dries at_end y z [] fault
    → Dries at_end x z p fault
dries_same {at_end} {x} {y} {z} {p} fault f g =
    subst (λ (t : List ℕ). Dries at_end x z t fault) (append-nil p) (dries_then p [] fault f g)

-- whole parts before the last, and less than one more
pub within : (n blocks j : ℕ) (p q : List ℕ) → length p ≡ j * n → j < blocks → length q < n → length (p ++ q) < blocks * n
within n blocks j p q size lt short = grind (arith, common_steps, length-append, mul-le-mul_right)

-- no more came before all blocks were passed over
pub skip_fails : (n blocks : ℕ) {k : ℕ} {x z : ReaderView} {p : List ℕ} {fault : FileFault} → length p < blocks * n
    → Dries (Stream (record { kind = Truncated; chunk = k })) x z p fault → k ≡ length p / n → SkipFails n blocks x z fault
skip_fails n blocks {k} {x} {z} {p} {fault} lt d e =
    (p, lt, subst (λ (i : ℕ). Dries (Stream (record { kind = Truncated; chunk = i })) x z p fault) e d)
