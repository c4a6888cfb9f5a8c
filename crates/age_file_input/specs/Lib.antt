pub mod Views
pub mod Headers
pub mod Pulls
pub mod Buffer
pub mod inner
pub use Views.{NoneFailed, Ports, ReadFailed, WriteFailed, ports}
pub use Headers.{HeadFails, InHeader, IsByAllPulls, IsHeadFault, NeverEnds, NoHeadFault}
pub use Headers.{ReportsFault, pull_room}
pub use Pulls.{Passes, PullFails, Pulled, ReaderView, ReadsHead, Refills, SameReader, Start, Uses}
pub use Pulls.{reader_view, start_at, view_of_reader}
pub use Buffer.{Unread}
