pub mod SalsaLemmas
pub mod PartLemmas
pub mod RomixLemmas
unfoldable pub use SalsaLemmas.*
unfoldable pub use PartLemmas.*
unfoldable pub use RomixLemmas.*
