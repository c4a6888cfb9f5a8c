use Rattle.std.proofs.Common.{◌∙◌, ◌-◌, ℕ, ap, rules}
use Rattle.age_file_input.specs.{InHeader, HeadFails}
use Rattle.age_file_input.proofs.ReadLemmas.{err_is, stops_unread, read_last}
use Rattle.age_file_inspect.specs.Reports.{InspectsFront}
use Rattle.age_file_inspect.proofs.ReportLemmas.{whole_of}
use Rattle.age_file_inspect.proofs.inspection.inspect_sized.Goals as goal

pub returns-in_err-intake-clause-fails : goal.returns-in_err-intake-clause-fails
returns-in_err-intake-clause-fails g c =
    rw (err_is c.from_residual.result c.from_residual.ensures.1) (stops_unread (g.S.Source.view c.args.source.now).supply)

pub returns-in_err-head-clause-fails : goal.returns-in_err-head-clause-fails
returns-in_err-head-clause-fails g c =
    let p = err_is c.from_residual-in_err-head.result c.from_residual-in_err-head.ensures.1 in
    let first = g.S.Source.view c.args.source.now in
    rw p (read_last g.S.Source.view (λ v. HeadFails InHeader first v c.in_err-head.field-0.0) _ c.read_head.new.reader.source.now
    (search rules) c.in_err-head.ensures.fails)

pub returns-clause-ok : goal.returns-clause-ok
returns-clause-ok g c =
    let first = (g.S.Source.view c.args.source.now).supply in
    let head = c.in_ok-head.head in
    let found = c.in_ok-head.ensures.found in
    read_last g.S.Source.view (λ v. InspectsFront c.args.len first v.supply (record {
      header = head.len;
      stanzas = c.in_ok-stanzas.stanzas;
      rest = c.from-left.result;
      plain = c.count_plaintext.result;
    })) _ c.read_head.new.reader.source.now (search rules) (record {
      h = head.header;
      front = found.front;
      more = c.read_head.new.reader.intake.now.bytes;
      text = found.text;
      read = found.pulled.consumed;
      few = found.few;
      header_is = found.len_is;
      stanzas_are = c.in_ok-stanzas.ensures;
      rest_is = c.from-left.ensures ∙ (c.saturating_sub.ensures ∙ ap (λ (n : ℕ). c.args.len - n) found.len_is);
      plain_is = c.count_plaintext.ensures;
    })

pub returns-clause-whole : goal.returns-clause-whole
returns-clause-whole g c bytes is size =
    let ok = returns-clause-ok g c in
    whole_of _ _ bytes _ _ is size ok
