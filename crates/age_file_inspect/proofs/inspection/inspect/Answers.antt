use Rattle.std.proofs.Common.{◌++◌, refl, inl, inr, rules}
use Rattle.age_io.specs.{Consumes, IsAtEnd, SourceView}
use Rattle.age_file_input.specs.{InHeader, NoHeadFault, HeadFails, start_at, ReadsHead, ReaderView}
use Rattle.age_file_input.specs.declared.header.Head.{Head}
use Rattle.age_file_inspect.specs.inner.{RestFails}
use Rattle.age_fault.specs.declared.fault.FileFault.{FileFault}
use Rattle.age_file_input.proofs.ReadLemmas.{err_is, stops_unread, pull_fails, read_last}
use Rattle.age_file_inspect.proofs.ReportLemmas.{sound_too}
use Rattle.age_file_inspect.proofs.inspection.inspect.Goals as goal

-- a rest that could not be read, after a header that was
rest_to_head : {first : SourceView} {mid now : ReaderView} {h : Head} (fault : FileFault) → ReadsHead first mid h → RestFails mid now fault
    → HeadFails NoHeadFault first now.source fault
rest_to_head {first} {mid} {now} {h} fault head f =
    let more = f.more (start_at first.supply) head.front head.pulled in
    let sound : NoHeadFault first.supply now.source.supply =
    (head.front ++ more.0, more.1.consumed, inr (h.header, head.front, more.0, head.text, refl)) in
    pull_fails NoHeadFault first mid now (head.front ++ more.0) fault head.unfailed sound more.1 f.why

pub returns-in_err-intake-clause-fails : goal.returns-in_err-intake-clause-fails
returns-in_err-intake-clause-fails g c =
    rw (err_is c.from_residual.result c.from_residual.ensures.1) (stops_unread (g.S.Source.view c.args.source.now).supply)

pub returns-in_err-head-clause-fails : goal.returns-in_err-head-clause-fails
returns-in_err-head-clause-fails g c =
    let p = err_is c.from_residual-in_err-head.result c.from_residual-in_err-head.ensures.1 in
    let first = g.S.Source.view c.args.source.now in
    let fails = sound_too InHeader NoHeadFault first (g.S.Source.view c.read_head.new.reader.source.now) c.in_err-head.field-0.0
    (λ h. (h.0, h.1, inl h.2)) c.in_err-head.ensures.fails in
    rw p (read_last g.S.Source.view (λ v. HeadFails NoHeadFault first v c.in_err-head.field-0.0) _ c.read_head.new.reader.source.now
    (search rules) fails)

pub returns-in_err-rest-clause-fails : goal.returns-in_err-rest-clause-fails
returns-in_err-rest-clause-fails g c =
    let p = err_is c.from_residual-in_err-rest.result c.from_residual-in_err-rest.ensures.1 in
    let first = g.S.Source.view c.args.source.now in
    let fails = rest_to_head c.in_err-rest.field-0.0 c.in_ok-head.ensures.found c.in_err-rest.ensures.fails in
    rw p (read_last g.S.Source.view (λ v. HeadFails NoHeadFault first v c.in_err-rest.field-0.0) _ c.count_rest.new.reader.source.now
    (search rules) fails)

pub returns-clause-ok : goal.returns-clause-ok
returns-clause-ok g c =
    let head = c.in_ok-head.ensures.found in
    let first = g.S.Source.view c.args.source.now in
    let counted = c.in_ok-rest.ensures.counts.counts (start_at first.supply) head.front head.pulled in
    let reports = rw c.in_ok-stanzas.was at c.report_stanzas.ensures in (
      head.front ++ counted.0,
      read_last g.S.Source.view (λ v. Consumes first.supply v.supply (head.front ++ counted.0)) _ c.count_rest.new.reader.source.now (search rules)
          counted.2,
      read_last g.S.Source.view (λ v. IsAtEnd v.supply) _ c.count_rest.new.reader.source.now (search rules) c.in_ok-rest.ensures.counts.at_end,
      record {
        h = c.in_ok-head.head.header;
        front = head.front;
        rest = counted.0;
        text = head.text;
        parts = refl;
        header_is = head.len_is;
        stanzas_are = reports;
        rest_is = counted.1;
        plain_is = rw (← counted.1) c.count_plaintext.ensures;
      },
    )
