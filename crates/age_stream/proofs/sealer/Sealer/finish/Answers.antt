use Rattle.std.proofs.Common.{refl, ap}
use Rattle.age_chunk.specs.{text_length}
use Rattle.age_stream.specs.{sealer_view}
use Rattle.age_stream.proofs.{payload_is}
use Rattle.age_stream.proofs.sealer.Sealer.finish.Goals as goal

pub returns : goal.returns
returns g c =
    let e = c.in_ok-close.ensures in
    let old = c.self.inside.state in
    rw (← c.self.view_is, c.as_slice.ensures.value) (
      (
        refl,
        λ _. tt,
        record {
          key = ap (λ k. k.now) e.last.key;
          finished = e.last.ok.0;
          unfailed = e.last.after.0;
          index = e.last.after.1;
          held = e.last.after.2;
          refused = tt;
          unfinished = tt;
        },
      ),
      record {
        after = tt;
        finishes = record {
          chunk = λ text held. payload_is g.B.ChunkBox.sealing (text_length g.row.SEALED) (sealer_view old) text _ held e.block;
          fits = e.last.ok.1;
          limit = old.limit;
          refused = tt;
        };
      },
    )
