use Rattle.std.proofs.Common.{sym, ◌∙◌, ap, ap₂, arith, length, List, ℕ, ◌++◌}
use Rattle.std.specs.Prelude.{codes}
use Rattle.age_stanza.specs.{base64_text}
use Rattle.age_c.proofs.WrapLemmas.{x25519_size, x25519_text, x25519_valid}
use Rattle.age_c.proofs.wrap.encode_stanza_lines.Goals as goal

pub returns-clause-text : goal.returns-clause-text
unfolding base64_text
returns-clause-text c =
    c.in_ok-extend_from_slice-4.ensures.items
    ∙ ap (λ (a : List ℕ). a ++ codes "\n") (c.in_ok-extend_from_slice-3.ensures.items
    ∙ ap₂ (λ (a b : List ℕ). a ++ b) (c.in_ok-extend_from_slice-2.ensures.items ∙ ap (λ (a : List ℕ). a ++ codes "\n")
    (c.in_ok-extend_from_slice.ensures.items
    ∙ ap₂ (λ (a b : List ℕ). a ++ b) c.in_ok-lines.ensures.items (c.as_bytes.ensures.value ∙ c.in_ok-encode.ensures.text)))
    (c.as_bytes-2.ensures.value ∙ c.in_ok-encode-2.ensures.text))
    ∙ sym (x25519_text c.args.share.now c.args.body.now c.told-body)

pub returns-clause-valid : goal.returns-clause-valid
returns-clause-valid c =
    x25519_valid c.args.share.now c.args.body.now c.told-share (λ i. omega (arith, c.fits-share i)) (λ i. omega (arith, c.fits-body i))

pub returns-clause-size : goal.returns-clause-size
returns-clause-size c =
    ap length (returns-clause-text c) ∙ x25519_size c.args.share.now c.args.body.now c.told-share c.told-body
