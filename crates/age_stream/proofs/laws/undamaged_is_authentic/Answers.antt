use Rattle.age_stream.proofs.{whole_is_right, undamaged_is_right}
use Rattle.age_stream.proofs.laws.undamaged_is_authentic.Goals as goal

pub returns-clause-whole : goal.returns-clause-whole
returns-clause-whole c = whole_is_right

pub returns-clause-after : goal.returns-clause-after
returns-clause-after c = undamaged_is_right
