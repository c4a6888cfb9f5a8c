pub mod FileLemmas
unfoldable pub use FileLemmas.*
