use Rattle.std.proofs.lemmas.Bool.{false≢true}
use Rattle.age_keys.specs.{wrapped_key}
use Rattle.age_keys.proofs.wrap.unwrapped_key.Goals as goal

pub returns-then-not-open_in_place-clause-none : goal.returns-then-not-open_in_place-clause-none
unfolding wrapped_key
returns-then-not-open_in_place-clause-none c = λ key is. false≢true (c.if-not-open_in_place.ensures.exact.1 (key, is))
