-- Which answers say that a file system has no locks, or no way to wait. Private: no public contract
-- cites this module.
use Rattle.std.specs.Prelude.{◌≡◌, ◌⊎◌, pos, Some, Bool, true, false}
use Rattle.std.specs.declared.fs.locks.TryLockError.{TryLockError}
use Rattle.std.specs.declared.fs.locks.TryLockError.TheVariants as lock
use Rattle.std_io.specs.IoError.{error_kind, raw_os_error}
use Rattle.std_io.specs.declared.io.error.Error.{Error}
use Rattle.std_io.specs.declared.io.kind.ErrorKind.{ErrorKind}
use Rattle.std_io.specs.declared.io.kind.ErrorKind.TheVariants.{InvalidInput, Unsupported}

-- `EINVAL`, `EOPNOTSUPP` and `ENOSYS` have these kinds, and 37 is `ENOLCK`
abbrev pub SaysNoLocks : Error → Type 0
SaysNoLocks e = (error_kind e ≡ InvalidInput) ⊎ ((error_kind e ≡ Unsupported)
    ⊎ (raw_os_error e ≡ Some (pos 37)))

-- the answer is such an error, and not that another run has the lock
abbrev pub HasNoLocks : TryLockError → Type 0
HasNoLocks lock.WouldBlock = ⊥
HasNoLocks (lock.Error e) = SaysNoLocks e

-- this kind of error says that the disk can't be waited for
abbrev pub is_of_no_wait : ErrorKind → Bool
is_of_no_wait InvalidInput = true
is_of_no_wait Unsupported = true
is_of_no_wait kind = false
