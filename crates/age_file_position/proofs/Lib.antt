pub mod MarkLemmas
pub mod PositionTextLemmas
