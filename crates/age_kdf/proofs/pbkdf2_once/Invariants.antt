use Rattle.std.proofs.Common.{◌≡◌, ◌*◌, length, take}
use Rattle.age_kdf.proofs.{joined}
use Rattle.age_kdf.proofs.pbkdf2_once.Given as goal

-- the blocks so far stand in front, the last of them as far as there is room
abbrev pub invariant-loop-i : goal.invariant-loop-i
invariant-loop-i l = take (32 * l.i) l.out ≡ take (length l.initial.out) (joined l.pass l.salt l.i)
