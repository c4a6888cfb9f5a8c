-- Which calls are noted. Private: no public contract cites this module.
use Rattle.std.specs.Prelude.{List, [], ◌∷◌}
use Rattle.age_host_model.specs.Calls.{FileCall, Made, Opened, Wrote, Cut, Indeterminate, Synced, Unsyncable, Closed, Locked}
use Rattle.age_host_model.specs.Calls.{Unlockable, Removed, SyncedNames, UnsyncableNames}
use Rattle.age_host_paths.specs.{number_of}
use Rattle.age_host_syscalls.specs.declared.syscall_log.LogUpdate.{LogUpdate}
use Rattle.age_host_syscalls.specs.declared.syscall_log.LogUpdate.TheVariants as note
use Rattle.age_host_syscalls.specs.declared.syscall_log.Syscall.{Syscall}
use Rattle.age_host_syscalls.specs.declared.syscall_log.Syscall.TheVariants as word

-- the call that a word stands for
abbrev pub file_call_of : Syscall → FileCall
file_call_of (word.Made path node) = Made path.now (number_of node)
file_call_of (word.Opened path node kind) = Opened path.now (number_of node) kind
file_call_of (word.Wrote node at bytes) = Wrote (number_of node) at bytes.now
file_call_of (word.Cut node len) = Cut (number_of node) len
file_call_of (word.Indeterminate node) = Indeterminate (number_of node)
file_call_of (word.Synced node) = Synced (number_of node)
file_call_of (word.Unsyncable node cant) = Unsyncable (number_of node)
file_call_of (word.Closed node) = Closed (number_of node)
file_call_of (word.Locked node) = Locked (number_of node)
file_call_of (word.Unlockable node) = Unlockable (number_of node)
file_call_of (word.Removed path) = Removed path.now
file_call_of (word.SyncedNames path) = SyncedNames path.now
file_call_of (word.UnsyncableNames path) = UnsyncableNames path.now

-- the calls that a note stands for
abbrev pub calls_of : LogUpdate → List FileCall
calls_of note.Nothing = []
calls_of (note.All cell) = cell.now.value
calls_of (note.More cell word) = file_call_of word ∷ cell.now.value
