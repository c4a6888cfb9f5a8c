use Rattle.std.proofs.lemmas.Grind.{common_steps}
use Rattle.std.proofs.Common.{get_or, arith, below_more}
use Rattle.std.proofs.lemmas.List.{ext_get_or}
use Rattle.std.proofs.lemmas.Bool.{eqb-true, eq-eqb}
use Rattle.age_cipher.proofs.SealingLemmas.{still_same, still_none}
use Rattle.age_cipher.proofs.aead.is_tag.Goals as goal

pub loop-i-preserved : goal.loop-i-preserved
loop-i-preserved c = grind (arith, common_steps, below_more, get_or, still_none, still_same)

pub returns : goal.returns
returns c = (
  λ h. ext_get_or 0 c.args.tag.now c.args.bytes.now (omega arith) (λ k below. c.loop-i.invariant.same (eqb-true c.loop-i.differences 0 h) k (omega arith)),
  λ e. eq-eqb c.loop-i.differences 0 (c.loop-i.invariant.none e),
)
