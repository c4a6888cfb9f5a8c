pub mod CutLemmas
pub mod FileLemmas
pub mod ResultLemmas
pub use CutLemmas.{cut_in_two, front_length}
pub use FileLemmas.{given_if, given_so}
pub use ResultLemmas.{always_ok, no_value, this_error}
