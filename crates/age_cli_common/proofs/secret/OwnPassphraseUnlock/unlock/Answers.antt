use Rattle.std.proofs.Common.{◌≡◌, ◌∙◌, ap, subst, List, ℕ}
use Rattle.std.specs.Result.{MatchResult}
use Rattle.age_keys.specs.{IsPassphraseKey, PassphraseIdentity, PassphraseRefuses}
use Rattle.age_cli_common.specs.{without_line_feed}
use Rattle.age_cli_common.proofs.secret.OwnPassphraseUnlock.unlock.Goals as goal

abbrev of_bytes : ℕ → List ℕ → PassphraseIdentity
of_bytes max_log bytes = record { pass = bytes; max_log = max_log }

pub returns-clause-answer : goal.returns-clause-answer
returns-clause-answer c =
    let same : c.in-Some.pass ≡ c.args.self.now = c.in-Some.ensures.1 ∙ (ap (λ (b : List ℕ). of_bytes c.self.inside.max_log b)
    (c.trimmed.ensures ∙ ap without_line_feed c.bytes.ensures) ∙ c.self.view_is) in
    subst (λ (p : PassphraseIdentity). MatchResult c.unlock.result
    (λ key. IsPassphraseKey p c.args.header.now key) (PassphraseRefuses p c.args.header.now)) same c.unlock.ensures.answer
