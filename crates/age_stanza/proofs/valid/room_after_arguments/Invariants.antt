use Rattle.std.proofs.Common.{◌≡◌, ◌+◌, ◌∷◌, length, drop}
use Rattle.std.specs.List.{flat_map}
use Rattle.age_stanza.proofs.valid.room_after_arguments.Given as goal

-- what is left has room for what the rest leaves of the room for all
abbrev pub invariant-loop-argument : goal.invariant-loop-argument
invariant-loop-argument l = l.left + length (flat_map (λ a. 32 ∷ a) l.args) ≡ l.room + length (flat_map (λ a. 32 ∷ a) (drop l.argument-index l.args))
