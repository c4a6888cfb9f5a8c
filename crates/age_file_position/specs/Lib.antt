pub mod Bindings
pub mod Texts
pub mod Chains
pub mod Tallies
pub mod Checkpoints
pub mod inner
pub use Bindings.{chain_over}
unfoldable pub use Bindings.{chain, file_id, position_tag}
pub use Texts.{position_text}
pub use Chains.{IsWithinFourfold, chain_if, link_if}
pub use Tallies.{AdvancesTally}
