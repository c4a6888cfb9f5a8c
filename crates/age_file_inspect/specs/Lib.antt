pub mod Reports
pub mod inner
pub use Reports.{Inspects, IsReport}
