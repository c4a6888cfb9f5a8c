use Rattle.std.proofs.Common.{refl, rules, Err, None, subst, sym}
use Rattle.age_file_input.proofs.ReadLemmas.{stops_unread, read_last, ports_last}
use Rattle.age_file_decrypt.proofs.ResumeLemmas.{run_ended, stopped_at_start}
use Rattle.age_file_input.specs.{ports}
use Rattle.age_file_decrypt.specs.Decrypts.{DecryptsMarked, from_start}
use Rattle.age_file_decrypt.specs.inner.{stage_of}
use Rattle.age_fault.specs.declared.fault.FileFault.TheVariants.{Memory}
use Rattle.age_file_decrypt.proofs.decryption.decrypt_marked.Goals as goal

pub returns-in_default-clause-decrypts : goal.returns-in_default-clause-decrypts
returns-in_default-clause-decrypts g c = rw c.before_output.ensures (stopped_at_start _ _ _ _ _ Memory refl (stops_unread _))

pub returns-in-Err-clause-decrypts : goal.returns-in-Err-clause-decrypts
returns-in-Err-clause-decrypts g c =
    let old = ports (g.S.Source.view c.args.reader.now) (g.O.Sink.view c.args.writer.now) in
    let Allows = g.U.Unlock.allows c.args.unlock in
    rw c.before_output-in-Err.ensures (read_last g.S.Source.view (λ v. DecryptsMarked c.args.positions Allows (from_start Allows
    (g.U.Unlock.refuses c.args.unlock)) old (ports v old.sink) (Err (record { fault = c.in-Err.fault; written = 0; position = None })) None)
    _ c.start.new.reader.source.now (search rules) (stopped_at_start _ _ _ _ _ _ refl c.in-Err.ensures.fails))

pub returns-clause-decrypts : goal.returns-clause-decrypts
returns-clause-decrypts g c =
    let new = stage_of g.S.Source.view g.O.Sink.view c.open_payload-result.new.reader c.open_payload-result.new.writer in
    let before = ports (g.S.Source.view c.args.reader.now) (g.O.Sink.view c.args.writer.now) in
    let Allows = g.U.Unlock.allows c.args.unlock in
    let Refused = g.U.Unlock.refuses c.args.unlock in
    ports_last g.S.Source.view g.O.Sink.view (λ p. DecryptsMarked c.args.positions Allows (from_start Allows Refused) before p c.open_payload-result.result
    c.of.result) _ c.open_payload-result.new.reader.source.now _ c.open_payload-result.new.writer.sink.now (search rules) (search rules)
    (subst (λ m. DecryptsMarked c.args.positions Allows (from_start Allows Refused) before
    (ports new.reader.source new.writer.sink) c.open_payload-result.result m) (sym c.of.ensures)
    (run_ended c.args.positions Allows Refused c.new-tally.ensures.written c.new-tally.ensures.index c.new-tally.ensures.chain
    c.in-Ok-start.ensures.found c.open_payload-result.ensures.opened))
