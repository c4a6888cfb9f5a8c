use Rattle.std.proofs.Common.{◌≡◌, ◌++◌, ◌∙◌, length, take, refl, arith}
use Rattle.std.proofs.lemmas.List.{length-append, length-take}
use Rattle.age_file_input.proofs.ReadLemmas.{passes_then, uses_front}
use Rattle.age_file_decrypt.proofs.start.skip_some.Goals as goal

pub returns-then-n-most-clause-skipped : goal.returns-then-n-most-clause-skipped
returns-then-n-most-clause-skipped g c =
    let n = c.min-n.result in
    let piece = c.bytes.result.now in (
      take n piece,
      omega (arith, c.min-n.ensures, length-take n piece),
      record {
        uses = uses_front (g.S.Source.view c.args.reader.now.source.now) c.args.reader.now.intake.now c.use_front.new.self piece n
            c.use_front.ensures.pulls c.bytes.ensures.bytes c.use_front.ensures.bytes;
        unfailed = refl;
        goes_on = λ so. so;
      },
    )

pub returns-clause-skipped : goal.returns-clause-skipped
returns-clause-skipped g c =
    let n = c.min-n.result in
    let piece = c.bytes.result.now in
    let skipped = c.skip.ensures.skipped in (
      take n piece ++ skipped.0,
      omega (arith, c.min-n.ensures, c.from-2.ensures, length-append (take n piece) skipped.0, length-take n piece, skipped.1),
      passes_then (take n piece) skipped.0 (record {
        uses = uses_front (g.S.Source.view c.args.reader.now.source.now) c.args.reader.now.intake.now c.use_front.new.self piece n
            c.use_front.ensures.pulls c.bytes.ensures.bytes c.use_front.ensures.bytes;
        unfailed = refl;
        goes_on = λ so. so;
      }) skipped.2,
    )
