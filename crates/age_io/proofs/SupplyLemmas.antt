-- Two calls of a source, one after the other.
use Rattle.std.proofs.Common.{List, ℕ, [], ◌++◌, sym, ap, ◌∙◌, append_assoc, append-nil}
use Rattle.std.proofs.KnownBytes as known
use Rattle.age_io.specs.Supply.{Supply}
use Rattle.age_io.specs.{Consumes, Keeps}

pub Consumes-nil : (a : Supply) → Consumes a a []
Consumes-nil a = record { given = sym (append-nil a.given); left = known.Consumes-nil a.left }

pub Consumes-trans : (a b c : Supply) (bs cs : List ℕ) → Consumes a b bs → Consumes b c cs
    → Consumes a c (bs ++ cs)
Consumes-trans a b c bs cs p q = record {
  given = q.given ∙ ap (λ l. l ++ cs) p.given ∙ append_assoc a.given bs cs;
  left = known.Consumes-trans a.left b.left c.left bs cs p.left q.left;
}

pub Consumes-kept : (a b c : Supply) (bs : List ℕ) → Consumes a b bs → Keeps b c → Consumes a c bs
Consumes-kept a b c bs p q = record {
  given = q.given ∙ p.given;
  left = known.Consumes-kept a.left b.left c.left bs p.left q.left;
}
