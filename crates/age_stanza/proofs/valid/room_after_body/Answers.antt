use Rattle.std.proofs.Common.{◌+◌, ◌/◌, ◌∙◌, ℕ, sym, ap, arith}
use Rattle.age_stanza.proofs.{length-body, leaves}
use Rattle.age_stanza.proofs.valid.room_after_body.Goals as goal

pub returns-then-room-body-clause-leaves : goal.returns-then-room-body-clause-leaves
returns-then-room-body-clause-leaves c =
    let size = length-body c.args.body.now in
    omega arith

pub returns-clause-leaves : goal.returns-clause-leaves
returns-clause-leaves c =
    leaves _ _ _ _ c.checked_sub.ensures (length-body c.args.body.now ∙ ap (λ (n : ℕ). n + n / 64 + 1) (sym c.count_characters-characters.ensures.value))
