use Rattle.std.proofs.Common.{◌≡◌, ◌+◌, ◌∷◌, length, drop}
use Rattle.std.specs.List.{flat_map}
use Rattle.age_c.proofs.text_len.args_len.Given as goal

-- what was counted, and what is left, are all of them
abbrev pub invariant-loop-argument : goal.invariant-loop-argument
invariant-loop-argument l = l.len + length (flat_map (λ a. 32 ∷ a) (drop l.argument-index l.args)) ≡ length (flat_map (λ a. 32 ∷ a) l.args)
