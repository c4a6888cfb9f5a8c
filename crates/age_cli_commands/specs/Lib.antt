pub mod Commands
pub mod Done
pub mod Left
pub mod Effects
pub mod inner
unfoldable pub use Commands.*
unfoldable pub use Done.*
unfoldable pub use Left.*
unfoldable pub use Effects.*
pub use Rattle.age_cli_commands.specs.declared.pending_stop.StopPoint.{StopPoint}
