use Rattle.std.proofs.Common.{◌≡◌, ◌∙◌, [], inl, refl, sym, true≢false}
use Rattle.age_cli_commands.proofs.{left_empty, left_puts, left_whole, some_and, grows_kept}
use Rattle.age_cli_commands.proofs.output.close_after_stop.Goals as goal

pub returns-then-is_empty : goal.returns-then-is_empty
returns-then-is_empty g c =
    let noted = c.discard.ensures.noted in
    let none = c.is_empty-is_empty.ensures.0 c.if-is_empty.true in
    record {
      outs = [];
      puts_only = grows_kept _ _ noted;
      out = inl refl;
      ended = some_and _ (λ out d. left_empty (g.F.Out.Sink.view c.args.out) out none d) c.discard.ensures.discarded;
    }

pub returns-else-is_empty : goal.returns-else-is_empty
returns-else-is_empty g c =
    let sink = g.F.Out.Sink.view c.args.out in
    let some : sink.taken.bytes ≡ [] → ⊥ = λ none. true≢false (sym (c.is_empty-is_empty.ensures.1 none) ∙ c.if-is_empty.false) in
    let puts = left_puts sink c.close.result _ _ c.close.ensures.noted some in
    record {
      outs = puts.0;
      puts_only = puts.1;
      out = puts.2;
      ended = some_and _ (λ out d. left_whole sink out some d) c.close.ensures.closed;
    }
