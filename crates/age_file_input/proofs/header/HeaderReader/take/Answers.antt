use Rattle.std.proofs.lemmas.Grind.{common_steps}
use Rattle.std.proofs.Common.{ap, length, arith}
use Rattle.std.proofs.lemmas.List.{length-append, length-take}
use Rattle.age_file_input.proofs.ReadLemmas.{err_is}
use Rattle.age_file_input.proofs.header.HeaderReader.take.Goals as goal

pub returns-in-More : goal.returns-in-More
returns-in-More c = λ held f.
    let bytes = c.args.intake.now.bytes in
    let is = c.bytes-piece.ensures.bytes in
    let feeds = rw (f.parser_is, c.in-More.is, is) at c.in_ok-feed.ensures in (
      record {
        parser_is = feeds.0;
        len_is = omega (arith, f.len_is, length-append held bytes, ap length is);
        hashed = rw is at (c.update.ensures held f.hashed);
        inside = record { no_header = feeds.2; no_fault = feeds.3; short = feeds.1 };
      },
      c.use_all.ensures.bytes,
      c.use_all.ensures.pulls,
    )

pub returns-in-Ready : goal.returns-in-Ready
returns-in-Ready c = grind (arith, common_steps, length-append, length-take)

pub returns-in_err-feed : goal.returns-in_err-feed
returns-in_err-feed c = λ held f.
    let feeds = rw (f.parser_is, c.bytes-piece.ensures.bytes) at c.in_err-feed.ensures in
    rw (err_is c.from_residual.result c.from_residual.ensures.1) feeds.1
