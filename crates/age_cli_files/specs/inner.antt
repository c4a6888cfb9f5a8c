pub mod Coding
pub mod Notes
