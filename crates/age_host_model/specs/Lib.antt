pub mod Calls
pub mod Disk
pub mod Closing
pub mod Laws
pub mod Output
pub mod Durable
pub use Calls.{Indeterminate, Closed, ClosesLast, CountsFailure, Cut, FileCall, Locked, Made, MayHave}
pub use Calls.{Opened, Removed, Synced, SyncedNames, Unlockable, Unsyncable}
pub use Calls.{UnsyncableNames, Waited, Wrote}
pub use Disk.{IsAmong, MayLead, MayLeave, MayLeaveFile, after_call, after_calls, at_path, for_file, sized}
pub use Closing.{Closes, Discards, EndedFile, IsAtName, IsDurable, IsAtPathWithBytes, IsUntouched, TouchesItself}
pub use Laws.{ChangedIfLockedLate, HasOneLock, IsUnchanged, CallsAreAnswered, CanLeave}
pub use Laws.{OthersAreKept, OutsAreAnswered, SecondRunIsHarmless, TornIfCutLast, TornIfUnsynced, bare}
pub use Laws.{bare_but, overwritten, put_out}
pub use Output.{AllOn, IsClaimed, IsOn, LocksFirst, MayChange, OutFile, OutView, TouchesFile, is_making}
pub use Output.{is_waited, opening_of, text_of}
pub use Durable.{AllAnswered, AllWaited, AtEachMoment, HasMade, IsAnswered, IsSafe}
pub use Durable.{IsThereAs, LeadsTo, SavesWhole, Throughout}
pub use Rattle.age_host_model.specs.declared.opened.FileKind.TheVariants.{Regular}
