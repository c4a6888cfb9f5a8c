use Rattle.std.proofs.Common.{◌++◌, length, ap₂}
use Rattle.std.proofs.lemmas.List.{drop-replicate}
use Rattle.age_kdf.specs.{key_with_zeros}
use Rattle.age_kdf.proofs.key_with_zeros.Goals as goal

pub returns : goal.returns
unfolding key_with_zeros
returns c = ap₂ ◌++◌ c.copy_from_slice.ensures.after (drop-replicate (length c.args.key.now) 64 0)
