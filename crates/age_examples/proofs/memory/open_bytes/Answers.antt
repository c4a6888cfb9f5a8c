use Rattle.std.proofs.Common.{◌++◌, ap, ◌∙◌, None}
use Rattle.age_memory.specs.{Holding}
use Rattle.age_file.specs.{Kept}
use Rattle.age_examples.proofs.memory.open_bytes.Goals as goal

pub returns-in-Ok : goal.returns-in-Ok
returns-in-Ok g c = record {
  undamaged = λ text is.
      let wrote = c.undamaged_is_written.ensures Kept _ None _ _ _ text c.in-Ok.ensures.decrypts (rw c.new-source.ensures is) in
      c.into_bytes.ensures ∙ wrote.0.bytes ∙ ap (λ (s : Holding). s.held ++ text) c.in_ok-sink.ensures;
}

pub returns-in-Err : goal.returns-in-Err
returns-in-Err g c = record {
  undamaged = λ text is. c.undamaged_is_written.ensures Kept _ None _ _ _ text c.in-Err.ensures.decrypts (rw c.new-source.ensures is);
}
