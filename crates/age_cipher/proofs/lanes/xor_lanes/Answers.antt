use Rattle.std.proofs.Common.{◌^◌, take, refl}
use lib.Lanes.{digits_l, number_l}
use Rattle.age_cipher.proofs.{lanes_xored}
use Rattle.age_cipher.proofs.lanes.xor_lanes.Goals as goal

pub returns : goal.returns
returns c =
    lanes_xored c.args.text.now c.args.words.now (digits_l 256 32 (number_l (2 ^ 32) (take 8 c.args.words.now)))
    c.requires.text c.requires.words c.type_inv.words refl
