use Rattle.std.proofs.Common.{◌≡◌, ap, ◌∙◌}
use Rattle.age_stream.specs.{with_end, with_piece, has_failed}
use Rattle.age_c.specs.{answer_of}
use Rattle.age_c.proofs.{done_of, opener_of, passes_both, takes_of}
use Rattle.age_c.proofs.blocks.open_last.Goals as goal

pub returns-clause-takes : goal.returns-clause-takes
returns-clause-takes c =
    let ended = c.finish_opener-written in
    let view : c.between-opener.result ≡ opener_of c.args.reader.now c.args.status = cc (c.between-opener.ensures.view, c.load_reader_key-key.ensures) in
    let passes = passes_both (λ s. with_piece s c.args.rest.now) with_end _ _ _ _ c.feed_rest.ensures.passes ended.ensures.passes in
    record {
      takes = takes_of (λ s. with_end (with_piece s c.args.rest.now)) _ _ c.args.status _ _ _ _ _ view c.requires.status passes
          c.index.ensures.index c.status.ensures c.keep.ensures (λ s none is_open. absurd (ended.ensures.closed is_open));
      done = done_of (has_failed ended.new.opener.status) (answer_of c.keep.new.reader.state) c.keep.new.reader.state
          (λ e. c.keep.ensures.failed (ap has_failed c.status.ensures ∙ e)) (λ e. c.keep.ensures.done (c.status.ensures ∙ ended.ensures.done e));
    }
