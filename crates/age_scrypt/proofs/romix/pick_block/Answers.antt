use Rattle.std.proofs.Common.{◌%◌, ◌∙◌, ap}
use Rattle.age_scrypt.proofs.{integerify_mod, word_240}
use Rattle.age_scrypt.proofs.romix.pick_block.Goals as goal

pub returns-clause-place : goal.returns-clause-place
returns-clause-place c b t = ap (λ word. word % c.args.n) (word_240 b c.args.x.now t) ∙ integerify_mod b c.args.n t.len c.requires.count.divides
