use Rattle.std.proofs.Common.{List, ℕ, ◌++◌, ap, ap₂, ◌∙◌}
use Rattle.std.specs.Prelude.{replicate}
use Rattle.std.proofs.lemmas.List.{append_assoc}
use Rattle.age_stanza.specs.{end_line, line, version}
use Rattle.age_c.proofs.{zero_line}
use Rattle.age_c.proofs.seal_key.zero_text.Goals as goal

pub returns : goal.returns
returns c =
    let lines : List ℕ = c.args.lines.now in
    c.in_ok-extend_from_slice-2.ensures.items ∙ ap₂ (λ (a b : List ℕ). a ++ b)
    (c.in_ok-extend_from_slice.ensures.items ∙ ap (λ (a : List ℕ). a ++ lines) c.in_ok-text.ensures.items) zero_line
    ∙ append_assoc (line version) lines (line (end_line (replicate 32 0)))
