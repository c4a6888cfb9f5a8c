use Rattle.age_io.proofs.{Appends-kept}
use Rattle.age_cli.proofs.inspect_command.report.Goals as goal

pub returns-clause-done : goal.returns-clause-done
returns-clause-done g c =
    let put = rw (c.as_slice.ensures.value, c.in_ok-text.ensures.text) at c.in_ok-put_bytes.ensures.ok in
    (c.in_ok-found.found, c.in_ok-found.ensures.ok, Appends-kept _ _ _ _ put c.in_ok-flush_all.ensures.bytes, c.in_ok-flush_all.ensures.flushed)
