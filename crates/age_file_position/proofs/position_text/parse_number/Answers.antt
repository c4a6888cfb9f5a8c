use Rattle.std.proofs.lemmas.Grind.{common_steps}
use Rattle.std.proofs.Common.{arith}
use Rattle.std.proofs.lemmas.Result.{MatchResult-at_ok, MatchResult-at_err}
use Rattle.age_file_position.proofs.PositionTextLemmas.{decimal_reads, read_as, never_refused, never_differs, was_ok, was_err}
use Rattle.age_file_position.proofs.position_text.parse_number.Goals as goal
use Rattle.age_file_position.proofs.position_text.parse_number.Goals.{else-index-lt-CHUNK_LIMIT-via-then-index-lt-CHUNK_LIMIT+else-eq}
use Rattle.age_file_position.proofs.position_text.parse_number.Goals.{else-index-lt-CHUNK_LIMIT-via-else-index-lt-CHUNK_LIMIT}

pub returns-in_err-text-clause-none : goal.returns-in_err-text-clause-none
returns-in_err-text-clause-none c =
    let err = was_err c.from_utf8.result c.ok.result c.ok.ensures.value c.in_err-text.was in
    rw c.from_residual.ensures (λ index lt e. (MatchResult-at_err _ _ err.0 err.1 c.from_utf8.ensures.cases).0
    (decimal_reads index c.args.digits.now lt e))

pub returns-in_err-index-clause-none : goal.returns-in_err-index-clause-none
returns-in_err-index-clause-none c = grind (arith, common_steps, MatchResult-at_ok, never_refused, was_err, was_ok)

pub returns-else-index-lt-CHUNK_LIMIT-clause-none : goal.returns-else-index-lt-CHUNK_LIMIT-clause-none
returns-else-index-lt-CHUNK_LIMIT-clause-none c =
    grind (arith, common_steps, MatchResult-at_ok, else-index-lt-CHUNK_LIMIT-via-else-index-lt-CHUNK_LIMIT, else-index-lt-CHUNK_LIMIT-via-then-index-lt-CHUNK_LIMIT+else-eq, never_differs, read_as, was_ok)
