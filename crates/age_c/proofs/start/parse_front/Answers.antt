use Rattle.age_c.proofs.start.parse_front.Goals as goal

pub returns-clause-refused : goal.returns-clause-refused
returns-clause-refused c =
    let fed = rw (c.in-Err.is, c.new-parser.ensures) at c.feed.ensures in
    fed.1
