use Rattle.std.proofs.Common.{arith}
use Rattle.std.proofs.lemmas.Result.{on_ok_weaker}
use Rattle.age_stanza.proofs.{line_written, last_written}
use Rattle.age_stanza.proofs.encode.put_body.Goals as goal

pub loop-rest-preserved : goal.loop-rest-preserved
loop-rest-preserved c = rw (c.split_at.ensures.back) (line_written _ _ _ c.loop-rest.rest.now (omega arith)
    (rw (c.split_at.ensures.front) at c.in_ok-put_line.ensures) c.loop-rest.invariant)

pub returns : goal.returns
returns c = on_ok_weaker c.put_line-2.result (λ puts. last_written _ _ _ c.loop-rest.rest.now (omega arith) puts c.loop-rest.invariant) c.put_line-2.ensures
