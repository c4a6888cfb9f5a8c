use Rattle.std.proofs.Common.{min, ◌^◌, ◌≡◌, ◌+◌, ◌-◌, length, take, drop, sym, ap, subst, ◌∙◌, arith, take-add, ◌++◌, List, ℕ}
use Rattle.std.proofs.lemmas.List.{take_rest, length-take, length-drop, take-append-drop}
use Rattle.age_io.specs.Taken.{Appends}
use Rattle.age_io.proofs.{Appends-trans, Appends-kept}
use Rattle.age_io.proofs.put.write_all.Goals as goal

pub returns-in-Err : goal.returns-in-Err
returns-in-Err g c =
    let kept = c.loop-at.invariant in
    let put = c.in-Err.ensures in
    let at = c.loop-at.at in
    record {
      writes = record {
        out = take at c.args.bytes.now;
        unwritten = drop at c.args.bytes.now;
        parts = sym (take-append-drop at c.args.bytes.now);
        wrote = Appends-kept _ _ _ _ kept.wrote put.bytes;
        count = omega (arith, kept.count, kept.within, length-take c.loop-at.at c.args.bytes.now);
        stopped = omega (arith, c.loop-at-test.true, length-drop at c.args.bytes.now);
        answered = (put.counted ∙ ap (λ k. min (k + 1) (2 ^ 64 - 1)) kept.failed, put.last);
      };
    }

pub loop-at-preserved : goal.loop-at-preserved
loop-at-preserved g c =
    let kept = c.loop-at.invariant in
    let at = c.loop-at.at in
    let bytes = c.args.bytes.now in
    let n = c.in-Ok.n in
    let put = c.in-Ok.ensures in
    let on : take at bytes ++ take n (take (length bytes - at) (drop at bytes)) ≡ take (at + n) bytes =
    ap (λ (ys : List ℕ). take at bytes ++ take n ys) (take_rest bytes at) ∙ sym (take-add at n bytes) in
    record {
      within = omega (arith, kept.within, put.bound);
      wrote = subst (λ (t : List ℕ). Appends (g.O.Sink.view c.args.sink.now).taken (g.O.Sink.view c.put.new.self).taken t) on
          (Appends-trans _ _ _ (take at bytes) (take n (take (length bytes - at) (drop at bytes))) kept.wrote put.bytes);
      count = omega (arith, kept.count);
      failed = put.counted ∙ kept.failed;
    }
