use Rattle.std.proofs.Common.{codes, take, ◌∙◌}
use Rattle.age_file_position.proofs.PositionTextLemmas.{same_unless, index_read}
use Rattle.age_file_position.proofs.position_text.parse_index.Goals as goal

pub returns-clause-some : goal.returns-clause-some
returns-clause-some c =
    index_read c.parse_number.result c.args.front.now (codes "age-position/v2 ")
    (same_unless (take 16 c.args.front.now) c.as_slice.result.now c.if-ne.ensures ∙ c.as_slice.ensures) c.parse_number.ensures.some
