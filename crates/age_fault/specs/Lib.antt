pub mod HeadFaults
pub mod KeyFaults
pub mod Faults
pub mod inner
pub use Faults.{fault_number, fault_place}
pub use HeadFaults.{memory_fault}
pub use KeyFaults.{is_before_work}
