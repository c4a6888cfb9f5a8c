use Rattle.std.proofs.Common.{None, Some, refl, rules, Err, subst, sym, ℕ}
use Rattle.age_fault.specs.declared.fault.FileFault.TheVariants.{Memory}
use Rattle.age_file_input.specs.{reader_view, view_of_reader, ports}
use Rattle.age_file_decrypt.specs.inner.{stage, stage_of}
use Rattle.age_file_position.specs.inner.{view_of_writer, WriterView}
use Rattle.age_file_decrypt.specs.Resumes.{resumption, from_position}
use Rattle.age_file_decrypt.specs.Decrypts.{DecryptsMarked}
use Rattle.age_file_decrypt.specs.declared.decryption.Stopped.{Stopped}
use Rattle.age_file_input.proofs.ReadLemmas.{read_last, ports_last, stops_unread}
use Rattle.age_file_decrypt.proofs.ResumeLemmas.{place_after, stopped_early, refused, copy_stopped, rest_ended, skip_stopped}
use Rattle.age_file_decrypt.proofs.resumption.resume_marked.Goals as goal

pub returns-in_default-clause-resumes : goal.returns-in_default-clause-resumes
returns-in_default-clause-resumes g c = rw c.before_output.ensures (stopped_early _ _ _ _ _ _ _ Memory refl (stops_unread _))

pub returns-in-Err-clause-resumes : goal.returns-in-Err-clause-resumes
returns-in-Err-clause-resumes g c =
    let old = ports (g.S.Source.view c.args.reader.now) (g.O.Sink.view c.args.writer.now) in
    let l = g.L.Source.view c.args.old_reader.now in
    let Allows = g.U.Unlock.allows c.args.unlock in
    rw c.before_output-in-Err.ensures (read_last g.S.Source.view (λ v. DecryptsMarked c.args.positions Allows (from_position Allows
    (g.U.Unlock.refuses c.args.unlock) (resumption c.args.position.now l l)) old (ports v old.sink)
    (Err (record { fault = c.in-Err.fault; written = 0; position = None })) None) _ c.start_for.new.reader.source.now (search rules)
    (refused _ _ _ _ _ _ _ c.start_for.new.reader.intake.now _ refl c.in-Err.ensures.fails))

pub returns-in-Err-copy_old-clause-resumes : goal.returns-in-Err-copy_old-clause-resumes
returns-in-Err-copy_old-clause-resumes g c =
    let b = c.in-Err-copy_old.ensures.copied in
    let s1 = stage (reader_view (g.S.Source.view c.start_for.new.reader.source.now) c.copy_old.new.intake)
    (view_of_writer g.O.Sink.view c.copy_old.new.writer) in
    let old = ports (g.S.Source.view c.args.reader.now) (g.O.Sink.view c.args.writer.now) in
    let Allows = g.U.Unlock.allows c.args.unlock in
    let Refused = g.U.Unlock.refuses c.args.unlock in
    let begun = from_position Allows Refused (resumption c.args.position.now (g.L.Source.view c.args.old_reader.now) (g.L.Source.view c.copy_old.new.source)) in
    let stops = copy_stopped c.args.positions Allows Refused c.args.position.now s1 c.in-Ok.ensures.found c.new-tally.ensures.written b
    c.in-Err-copy_old.fault b.copied.answered in
    rw c.with_written-stopped.ensures (ports_last g.S.Source.view g.O.Sink.view
    (λ p. DecryptsMarked c.args.positions Allows begun old p
    (Err (record {
      fault = c.in-Err-copy_old.fault;
      written = c.copy_old.new.writer.tally.written;
      position = None;
    })) None) _ c.start_for.new.reader.source.now _ c.copy_old.new.writer.sink.now (search rules) (search rules) stops)

pub resume_rest-requires-clause-room : goal.resume_rest-requires-clause-room
resume_rest-requires-clause-room g c =
    let b = c.in-Ok-copy_old.ensures.copied in
    let s1 = stage (reader_view (g.S.Source.view c.start_for.new.reader.source.now) c.copy_old.new.intake)
    (view_of_writer g.O.Sink.view c.copy_old.new.writer) in
    place_after c.args.positions (g.U.Unlock.allows c.args.unlock) (g.U.Unlock.refuses c.args.unlock) c.args.position.now
    s1 c.in-Ok.ensures.found c.new-tally.ensures.written b b.copied.answered.0 b.copied.answered.1

pub resume_rest-requires-clause-goes_on : goal.resume_rest-requires-clause-goes_on
resume_rest-requires-clause-goes_on g c = c.in-Ok.ensures.found.starts.goes_on

-- not all of the blocks before the position were passed over
pub returns-clause-resumes : goal.returns-clause-resumes
returns-clause-resumes g c =
    let b = c.in-Ok-copy_old.ensures.copied in
    let s1 = stage (reader_view (g.S.Source.view c.start_for.new.reader.source.now) c.copy_old.new.intake)
    (view_of_writer g.O.Sink.view c.copy_old.new.writer) in
    let m = view_of_reader g.S.Source.view c.resume_rest.new.reader in
    let old = ports (g.S.Source.view c.args.reader.now) (g.O.Sink.view c.args.writer.now) in
    let Allows = g.U.Unlock.allows c.args.unlock in
    let Refused = g.U.Unlock.refuses c.args.unlock in
    let begun = from_position Allows Refused (resumption c.args.position.now (g.L.Source.view c.args.old_reader.now) (g.L.Source.view c.copy_old.new.source)) in
    let f = c.in-Err-resume_rest.ensures.resumes in
    let stop : ℕ → Stopped = λ written. record {
      fault = c.in-Err-resume_rest.fault;
      written = written;
      position = Some c.args.position.now;
    } in
    rw c.with_written-stopped-in-Err-resume_rest.ensures (ports_last g.S.Source.view g.O.Sink.view
    (λ p. DecryptsMarked c.args.positions Allows begun old p (Err (stop c.resume_rest.new.writer.tally.written)) None)
    _ c.resume_rest.new.reader.source.now _ c.resume_rest.new.writer.sink.now (search rules) (search rules)
    (subst (λ (w : WriterView). DecryptsMarked c.args.positions Allows begun old (ports m.source w.sink) (Err (stop w.tally.written)) None) (sym f.1)
    (skip_stopped c.args.positions Allows Refused c.args.position.now s1 c.in-Ok.ensures.found c.new-tally.ensures.written b b.copied.answered.0
    b.copied.answered.1 m c.in-Err-resume_rest.fault f.0)))

-- they were
pub returns-in-Ok-resume_rest-clause-resumes : goal.returns-in-Ok-resume_rest-clause-resumes
returns-in-Ok-resume_rest-clause-resumes g c =
    let b = c.in-Ok-copy_old.ensures.copied in
    let s1 = stage (reader_view (g.S.Source.view c.start_for.new.reader.source.now) c.copy_old.new.intake)
    (view_of_writer g.O.Sink.view c.copy_old.new.writer) in
    let s2 = stage_of g.S.Source.view g.O.Sink.view c.resume_rest.new.reader c.resume_rest.new.writer in
    let old = ports (g.S.Source.view c.args.reader.now) (g.O.Sink.view c.args.writer.now) in
    let Allows = g.U.Unlock.allows c.args.unlock in
    let Refused = g.U.Unlock.refuses c.args.unlock in
    let begun = from_position Allows Refused (resumption c.args.position.now (g.L.Source.view c.args.old_reader.now) (g.L.Source.view c.copy_old.new.source)) in
    let r = c.in-Ok-resume_rest.ensures.resumes in
    ports_last g.S.Source.view g.O.Sink.view (λ p. DecryptsMarked c.args.positions Allows begun old p c.in-Ok-resume_rest.result c.of.result)
    _ c.resume_rest.new.reader.source.now _ c.resume_rest.new.writer.sink.now (search rules) (search rules)
    (subst (λ m. DecryptsMarked c.args.positions Allows begun old (ports s2.reader.source s2.writer.sink) c.in-Ok-resume_rest.result m) (sym c.of.ensures)
    (rest_ended c.args.positions Allows Refused c.args.position.now s1 c.in-Ok.ensures.found c.new-tally.ensures.written b b.copied.answered.0
    b.copied.answered.1 r.now r.passed r.size r.passes s2 c.in-Ok-resume_rest.result r.opened))
