pub mod StartLemmas
pub mod CountLemmas
pub mod PayloadLemmas
pub mod RunLemmas
pub mod ResumeLemmas
pub mod UndamagedLemmas
pub mod GivenLemmas
