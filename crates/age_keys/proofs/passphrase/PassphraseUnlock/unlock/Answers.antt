use Rattle.std.proofs.Common.{◌≡◌, ◌≤◌, ◌^◌, ◌∙◌, sym, ap, arith}
use Rattle.std.proofs.lemmas.Result.{err_from_is_err_and}
use Rattle.std.proofs.Math.Pow.{pow_mono}
use Rattle.age_keys.specs.{wrap_key}
use Rattle.age_keys.proofs.{was_tried, only_scrypt, found_or_wrong, only_one_of, not_beside, work_factor_some}
use Rattle.age_keys.proofs.passphrase.PassphraseUnlock.unlock.Goals as goal

pub returns-in_default-read-clause-answer : goal.returns-in_default-read-clause-answer
returns-in_default-read-clause-answer c =
    let one = only_one_of _ _ c.stanza-item.result c.as_slice-stanzas.ensures c.in-len1.len_at_least c.in-len1.len_below c.stanza-item.is in (
      not_beside c.args.header.now c.stanza-item.result one,
      rw c.as_slice-stanzas.ensures at (sym c.has_scrypt.ensures ∙ c.if-not-has_scrypt.false),
      λ only.
          let same : only.stanza ≡ c.stanza-item.result = cc (only.alone, one) in
          c.in_default-read.ensures.none only.salt only.log only.body (rw same at only.valid),
    )

pub wrap_key-requires-clause-least : goal.wrap_key-requires-clause-least
wrap_key-requires-clause-least c =
    let read = c.in-Some.ensures.read in
    omega (arith, work_factor_some read.2.characters read.2.work_factor, read.2.log_is, read.1)

pub returns-then-read-self-clause-answer : goal.returns-then-read-self-clause-answer
returns-then-read-self-clause-answer c =
    let one = only_one_of _ _ c.stanza-item.result c.as_slice-stanzas.ensures c.in-len1.len_at_least c.in-len1.len_below c.stanza-item.is in
    let read = c.in-Some.ensures.read in
    rw (← c.self.view_is) (only_scrypt c.args.header.now _ _ _ _ one read.2, omega (arith, read.1, c.if-read-self.true))

pub returns-in_err-wrap_key-clause-answer : goal.returns-in_err-wrap_key-clause-answer
returns-in_err-wrap_key-clause-answer c =
    let one = only_one_of _ _ c.stanza-item.result c.as_slice-stanzas.ensures c.in-len1.len_at_least c.in-len1.len_below c.stanza-item.is in
    let read = c.in-Some.ensures.read in
    let p = err_from_is_err_and c.from_residual.result c.from_residual.ensures.1 in
    rw (p.1, p.2, c.in_err-wrap_key.ensures.memory, ← c.self.view_is)
    (only_scrypt c.args.header.now _ _ _ _ one read.2, omega (arith, read.1, c.if-read-self.false, c.self.invariant.most_log))

pub returns-clause-answer : goal.returns-clause-answer
returns-clause-answer c =
    let one = only_one_of _ _ c.stanza-item.result c.as_slice-stanzas.ensures c.in-len1.len_at_least c.in-len1.len_below c.stanza-item.is in
    let read = c.in-Some.ensures.read in
    let log_is : c.in-Some.read.log ≡ read.0 = omega (arith, read.1, c.if-read-self.false, c.self.invariant.most_log) in
    rw (← c.self.view_is)
    (found_or_wrong _ c.args.header.now (only_scrypt c.args.header.now _ _ _ _ one read.2) c.in_ok-wrap_key.wrap_key c.unwrapped_key.result c.ok_or.result
    (omega (arith, log_is, c.if-read-self.false)) (c.in_ok-wrap_key.ensures.key ∙ ap (wrap_key c.self.inside.bytes.now c.in-Some.read.salt) log_is)
    c.unwrapped_key.ensures.key c.unwrapped_key.ensures.none c.ok_or.ensures.value)

pub returns-clause-counted : goal.returns-clause-counted
returns-clause-counted c =
    let fewer : 2 ^ c.in-Some.read.log ≤ 2 ^ c.self.inside.max_log = pow_mono (omega (arith, c.if-read-self.false)) in
    rw (← c.self.view_is) (was_tried _ c.unwrapped_key.result c.ok_or.result c.args.steps.now c.wrap_key.new.steps
    (omega (arith, fewer, c.in_ok-wrap_key.ensures.counted)) c.ok_or.ensures.value)
