use Rattle.std.proofs.Common.{◌++◌, ◌∙◌, refl, take, ap, length, arith}
use Rattle.std.proofs.lemmas.List.{length-drop}
use Rattle.age_file_input.specs.Headers.{EndsInHeader, InHeader}
use Rattle.age_file_input.specs.Pulls.{start_at, reader_view, view_of_reader}
use Rattle.age_file_input.proofs.ReadLemmas.{err_is, pull_fails, piece_fails, end_fails, stops_at, nothing_pulled, head_pulled}
use Rattle.age_file_input.proofs.header.read_head.Goals as goal

pub returns-clause-fails : goal.returns-clause-fails
returns-clause-fails g c =
    let kept = c.pieces.invariant in
    let old = g.S.Source.view c.args.reader.now.source.now in
    let new = g.S.Source.view c.refill.new.source in
    let r = rw c.if-branch.false at c.in_ok-refill.ensures.refills.answered in
    let cuts = rw kept.front.parser_is at c.end.ensures in
    let all = nothing_pulled c.refill.ensures.refills r.0 kept.pulled in
    let inside : EndsInHeader kept.held = record { no_header = cuts.2; no_fault = cuts.3; short = kept.front.inside.short } in
    rw c.from.ensures (end_fails old new kept.held c.end.result all.consumed r.2 (inside, cuts.0))

pub returns-in_err-refill-clause-fails : goal.returns-in_err-refill-clause-fails
returns-in_err-refill-clause-fails g c =
    let kept = c.pieces.invariant in
    let old = g.S.Source.view c.args.reader.now.source.now in
    let new = g.S.Source.view c.refill.new.source in
    let a = c.in_err-refill.ensures.refills.answered in
    let all = nothing_pulled c.refill.ensures.refills a.0 kept.pulled in
    rw (err_is c.from_residual.result c.from_residual.ensures.1) (pull_fails InHeader old (view_of_reader g.S.Source.view c.pieces.reader)
    (reader_view new c.refill.new.self) kept.held c.in_err-refill.field-0.0 kept.unfailed (kept.held, all.consumed, kept.front.inside) all a.2)

pub returns-in_err-header-clause-fails : goal.returns-in_err-header-clause-fails
returns-in_err-header-clause-fails g c =
    let p = err_is c.from_residual-in_err-header.result c.from_residual-in_err-header.ensures.1 in
    let kept = c.pieces.invariant in
    let old = g.S.Source.view c.args.reader.now.source.now in
    let new = g.S.Source.view c.refill.new.source in
    let r = rw c.if-branch.true at c.in_ok-refill.ensures.refills.answered in
    let all = c.refill.ensures.refills.pulled (start_at old.supply) kept.held kept.pulled in
    let stops = stops_at old.supply new.supply kept.held c.refill.new.self.bytes r.1 kept.front.inside all.consumed in
    rw p (piece_fails old new kept.held c.refill.new.self.bytes c.in_err-header.field-0.0 stops all.consumed
    (c.in_err-header.ensures kept.held kept.front))

pub returns-in-Some-clause-found : goal.returns-in-Some-clause-found
returns-in-Some-clause-found g c =
    let kept = c.pieces.invariant in
    let old = g.S.Source.view c.args.reader.now.source.now in
    let new = g.S.Source.view c.refill.new.source in
    let all = c.refill.ensures.refills.pulled (start_at old.supply) kept.held kept.pulled in
    let ends = rw c.in-Some.is at (c.in_ok-header.ensures kept.held kept.front) in
    let r = rw c.if-branch.true at c.in_ok-refill.ensures.refills.answered in
    let bytes = c.refill.new.self.bytes in
    rw c.head.ensures (record {
      front = kept.held ++ take ends.taken bytes;
      text = ends.text;
      len_is = ends.len_is;
      hashed = ends.hashed;
      few = omega (arith, r.1, ap length ends.rest, length-drop ends.taken c.refill.new.self.bytes);
      pulled = head_pulled (start_at old.supply) new.supply c.refill.new.self c.take.new.intake kept.held
          bytes ends.taken ends.pulls refl ends.rest all;
      last = stops_at old.supply new.supply kept.held bytes r.1 kept.front.inside all.consumed;
      unfailed = r.4 ∙ kept.unfailed;
      goes_on = rw c.if-branch.true at c.in_ok-refill.ensures.refills.end;
    })

pub pieces-preserved : goal.pieces-preserved
pieces-preserved g c =
    let kept = c.pieces.invariant in
    let old = g.S.Source.view c.args.reader.now.source.now in
    let r = rw c.if-branch.true at c.in_ok-refill.ensures.refills.answered in
    let goes = rw c.in_default.is at (c.in_ok-header.ensures kept.held kept.front) in
    record {
      same = (kept.same.0, kept.same.1, c.in_ok-refill.ensures.named ∙ kept.same.2);
      held = kept.held ++ c.refill.new.self.bytes;
      front = goes.0;
      pulled = rw goes.2 (c.refill.ensures.refills.pulled (start_at old.supply) kept.held kept.pulled);
      unread = goes.1;
      unfailed = r.4 ∙ kept.unfailed;
    }

pub returns-in_err-header-clause-same : goal.returns-in_err-header-clause-same
returns-in_err-header-clause-same g c =
    let kept = c.pieces.invariant.same in
    (kept.0, kept.1, c.in_ok-refill.ensures.named ∙ kept.2)
