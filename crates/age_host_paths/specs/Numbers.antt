-- The number of a file.
use Rattle.std.specs.Prelude.{◌≡◌, ◌<◌, ℕ, ◌+◌, ◌*◌, ◌^◌}
use Rattle.age_host_paths.specs.declared.metadata.DevIno.{DevIno}

-- The device and inode of a file, as one number.
abbrev pub number_of : DevIno → ℕ
number_of node = node.device * 2 ^ 64 + node.inode

-- Two files have the same number only if they are one file, since the inode of each fits into 64 bits.
abbrev pub NumbersAreApart : Type 0
NumbersAreApart = (one other : DevIno) → one.inode < 2 ^ 64 → other.inode < 2 ^ 64
    → number_of one ≡ number_of other → one ≡ other
