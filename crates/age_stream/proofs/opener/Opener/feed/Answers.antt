use Rattle.std.proofs.Common.{refl, ap, sym, ◌∙◌, ℕ, List, length, take}
use Rattle.std.specs.Borrow.{Bor}
use Rattle.std.proofs.lemmas.Result.{err_from_is_err_and}
use Rattle.age_chunk.specs.{text_length}
use Rattle.age_stream.proofs.opener.Opener.feed.Goals as goal

-- a reference to these bytes
abbrev lent : List ℕ → Bor (List ℕ)
lent bytes = record { ref_ptr = (0, 0); now = bytes }

pub returns-in_err-taken : goal.returns-in_err-taken
returns-in_err-taken g c =
    let p = err_from_is_err_and c.from_residual.result c.from_residual.ensures.1 in
    let e = c.in_err-taken.ensures in
    let chunk = lent (take (text_length g.row.SEALED) c.advance.new.self.buffer.items) in
    rw (← c.self.view_is, p.1, p.2) ((refl, λ _. tt, e.fed chunk refl), record { after = tt; feeds = e.feeds chunk refl })

pub returns-then-not-full : goal.returns-then-not-full
returns-then-not-full g c =
    let e = rw c.if-not-full.true at c.in_ok-taken.ensures in
    let chunk = lent (take (text_length g.row.SEALED) c.advance.new.self.buffer.items) in
    rw (← c.self.view_is) ((refl, λ _. tt, e.fed chunk refl), record { after = tt; feeds = e.feeds chunk refl })

pub returns : goal.returns
returns g c =
    let e = rw c.if-not-full.false at c.in_ok-taken.ensures in
    let is = ap (take (text_length g.row.SEALED)) c.as_slice.ensures.value in
    rw (← c.self.view_is) ((refl, λ _. tt, e.fed _ is), record { after = tt; feeds = e.feeds _ is })

pub slice_bounds-text-length : goal.slice_bounds-text-length
slice_bounds-text-length g c =
    let m = text_length g.row.SEALED in
    let e = rw c.if-not-full.false at c.in_ok-taken.ensures in
    let front = (e.fed (lent (take m c.advance.new.self.buffer.items)) refl).lent.0 in
    sym (ap (λ (xs : List ℕ). length (take m xs)) c.as_slice.ensures.value ∙ front)
