use Rattle.std.proofs.Common.{arith, sym, ◌∙◌, refl}
use Rattle.std.proofs.lemmas.List.{length-drop}
use Rattle.age_c.proofs.{some_is, feeds_closed}
use Rattle.age_c.proofs.feed.feed.Goals as goal

pub returns-in_default : goal.returns-in_default
returns-in_default c = record {
  feeds = feeds_closed c.args.piece.now c.refuse_more.result _ _ c.args.stream.now _ c.refuse_more.ensures.takes refl c.refuse_more.ensures.count
      (λ is. c.in_default.not-Open (some_is (sym c.requires.status ∙ is)));
  put = record { most = omega arith; rest = refl };
  room = record {
    usable = c.refuse_more.ensures.usable;
    short = omega arith;
    room = omega (arith, c.refuse_more.ensures.count, length-drop c.refuse_more.result c.args.piece.now);
  };
}
