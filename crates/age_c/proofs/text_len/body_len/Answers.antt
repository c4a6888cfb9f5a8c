use Rattle.std.proofs.Common.{◌+◌, ◌/◌, ◌∙◌, ℕ, sym, ap}
use Rattle.age_stanza.proofs.{div_ceil-characters, length-body}
use Rattle.age_c.proofs.text_len.body_len.Goals as goal

pub returns : goal.returns
returns c = ap (λ (n : ℕ). n + n / 64 + 1) (c.div_ceil-characters.ensures ∙ div_ceil-characters _) ∙ sym (length-body c.args.body.now)
