use Rattle.std.proofs.Common.{refl, ap, ℕ, List, [], take}
use Rattle.std.specs.Prelude.{Ok}
use Rattle.std.specs.Borrow.{Bor}
use Rattle.std.proofs.lemmas.Result.{err_from_is_err_and}
use Rattle.age_stream.proofs.{ended}
use Rattle.age_stream.proofs.opener.Opener.end.Goals as goal

-- a reference to no bytes
abbrev nothing : Bor (List ℕ)
nothing = record { ref_ptr = (0, 0); now = [] }

pub returns-in_err-len : goal.returns-in_err-len
returns-in_err-len g c =
    let p = err_from_is_err_and c.from_residual.result c.from_residual.ensures.1 in
    let old = c.self.inside.state in
    let after = c.in_err-len.ensures in
    let e = ended g.B.ChunkBox.sealing g.B.ChunkBox.opening old c.close.new.self (g.met.B.ChunkBox.valid old.key.now) nothing _ after.open after.closed refl in
    rw (← c.self.view_is, p.1, p.2) ((refl, λ _. tt, e.0), record { after = tt; ends = e.1 })

pub returns : goal.returns
returns g c =
    let old = c.self.inside.state in
    let after = c.in_ok-len.ensures in
    let is = ap (take c.in_ok-len.len) c.as_slice.ensures.value in
    let valid = g.met.B.ChunkBox.valid old.key.now in
    rw (← c.self.view_is) (
      (refl, λ _. tt, (ended g.B.ChunkBox.sealing g.B.ChunkBox.opening old c.close.new.self valid _ (Ok c.in_ok-len.len) after.open after.closed is).0),
      record {
        after = tt;
        ends = (ended g.B.ChunkBox.sealing g.B.ChunkBox.opening old c.close.new.self valid _ (Ok c.in_ok-len.len) after.open after.closed is).1;
      },
    )
