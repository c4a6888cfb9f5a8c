use Rattle.std.proofs.Common.{◌++◌, ◌∙◌, arith}
use Rattle.std.proofs.lemmas.List.{length-append}
use Rattle.age_file_inspect.proofs.ReportLemmas.{rest_pulled}
use Rattle.age_file_inspect.proofs.inspection.count_rest.Goals as goal

pub pulls-preserved : goal.pulls-preserved
pulls-preserved g c =
    let kept = c.pulls.invariant in
    let r = rw c.if-branch.true at c.in_ok-refill.ensures.refills in
    let fresh = c.bytes-in-pulls.result.now in
    let same = c.use_all-in-pulls.ensures.pulls in
    record {
      same = (kept.same.0, kept.same.1, c.in_ok-refill.ensures.named ∙ kept.same.2);
      passed = kept.passed ++ fresh;
      count_is = omega (arith, kept.count_is, length-append kept.passed fresh);
      small = omega (arith, kept.small, c.bytes-in-pulls.ensures.most, same, r.answered.3);
      most = omega (arith, same, r.answered.2);
      pulled = λ start used h. rest_pulled start _ c.refill.new.self.pulls c.use_all-in-pulls.new.self.pulls used kept.passed fresh same
          (rw (← c.bytes-in-pulls.ensures.bytes) at (r.pulled start (used ++ kept.passed) (kept.pulled start used h)));
      unread = c.use_all-in-pulls.ensures.bytes;
      unfailed = r.answered.4 ∙ kept.unfailed;
    }
