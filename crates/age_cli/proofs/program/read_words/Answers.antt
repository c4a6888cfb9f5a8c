use Rattle.std.proofs.Common.{inr, refl}
use Rattle.age_cli.proofs.{no_words, some_words, read_so}
use Rattle.age_cli.proofs.program.read_words.Goals as goal

pub returns-then-is_empty : goal.returns-then-is_empty
returns-then-is_empty c = record { made = inr (no_words c.args.words.now _ c.is_empty.ensures c.if-is_empty.true, refl); unread = tt; refuses = tt }

pub returns : goal.returns
returns c =
    read_so _ c.read_request.result (some_words c.args.words.now _ c.is_empty.ensures c.if-is_empty.false) c.read_request.ensures.asked
    c.read_request.ensures.unasked c.read_request.ensures.refusals
