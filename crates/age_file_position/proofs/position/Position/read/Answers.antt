use Rattle.std.proofs.lemmas.Grind.{common_steps}
use Rattle.std.proofs.Common.{arith}
use Rattle.age_file_position.proofs.PositionTextLemmas.{long_enough, words_front, words_back, words_of}
use Rattle.age_file_position.proofs.position.Position.read.Goals as goal

pub returns-in_default-clause-refused : goal.returns-in_default-clause-refused
returns-in_default-clause-refused c = λ p d1 d2 d3 e. c.in_default.ensures (long_enough c.args.text.now p d1 d2 d3 e)

pub returns-in_default-parse_index-clause-refused : goal.returns-in_default-parse_index-clause-refused
returns-in_default-parse_index-clause-refused c = λ p d1 d2 d3 e. c.in_default-parse_index.ensures.none p.index p.within
    (words_front c.args.text.now p d1 d2 d3 e c.in-Some.at c.in-Some.ensures.1)

pub returns-in-Some-parse_position-clause-read : goal.returns-in-Some-parse_position-clause-read
returns-in-Some-parse_position-clause-read c = grind (arith, common_steps, words_of)

pub returns-in-None-clause-refused : goal.returns-in-None-clause-refused
returns-in-None-clause-refused c = λ p d1 d2 d3 e. c.in-None.ensures.none p.file_id p.chain p.tag d1 d2 d3
    (words_back c.args.text.now p d1 d2 d3 e c.in-Some.at c.in-Some.ensures.1)
