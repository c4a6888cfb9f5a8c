-- Two calls of a sink, one after the other.
use Rattle.std.proofs.Common.{List, ℕ, [], ◌++◌, sym, ap, ◌∙◌, refl, append_assoc, append-nil}
use Rattle.std.proofs.KnownBytes as known
use Rattle.age_io.specs.Taken.{Taken, Appends, Keeps}

pub Appends-nil : (a : Taken) → Appends a a []
Appends-nil a = record {
  bytes = sym (append-nil a.bytes);
  contents = known.Appends-nil a.contents;
  named = refl;
}

pub Appends-trans : (a b c : Taken) (bs cs : List ℕ) → Appends a b bs → Appends b c cs
    → Appends a c (bs ++ cs)
Appends-trans a b c bs cs p q = record {
  bytes = q.bytes ∙ ap (λ l. l ++ cs) p.bytes ∙ append_assoc a.bytes bs cs;
  contents = known.Appends-trans a.contents b.contents c.contents bs cs p.contents q.contents;
  named = q.named ∙ p.named;
}

pub Appends-kept : (a b c : Taken) (bs : List ℕ) → Appends a b bs → Keeps b c → Appends a c bs
Appends-kept a b c bs p q = record {
  bytes = q.bytes ∙ p.bytes;
  contents = known.Appends-kept a.contents b.contents c.contents bs p.contents q.contents;
  named = q.named ∙ p.named;
}
