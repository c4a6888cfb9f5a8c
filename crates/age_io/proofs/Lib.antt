pub mod SupplyLemmas
pub mod TakenLemmas
pub use SupplyLemmas.{Consumes-kept, Consumes-nil, Consumes-trans}
pub use TakenLemmas.{Appends-kept, Appends-nil, Appends-trans}
