use Rattle.std.proofs.Common.{◌≡◌, ◌≢◌, take}
use Rattle.age_stream.specs.{with_piece}
use Rattle.age_stream.specs.declared.step.Status.TheVariants.{Open}
use Rattle.age_c.proofs.{opener_of, takes_of}
use Rattle.age_c.proofs.blocks.refuse_more.Goals as goal

pub returns-clause-takes : goal.returns-clause-takes
returns-clause-takes c =
    let passes = c.feed_rest.ensures.passes in
    let view : c.between-opener.result ≡ opener_of c.args.reader.now c.args.status = cc (c.between-opener.ensures.view, c.load_reader_key-key.ensures) in
    let shut : c.feed_rest.new.opener.status ≢ Open = λ is_open. c.requires.shut (cc (passes.was_open is_open)) in
    takes_of (λ s. with_piece s (take c.min-count.result c.args.piece.now)) _ _ c.args.status _ _ _ _ _ view c.requires.status passes
    c.index.ensures.index c.status.ensures c.keep.ensures (λ s none is_open. absurd (shut is_open))
