pub mod DiskLemmas
pub mod LawLemmas
