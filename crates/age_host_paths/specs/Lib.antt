pub mod Numbers
pub mod Places
pub use Numbers.{NumbersAreApart, number_of}
