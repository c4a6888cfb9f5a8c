pub mod InMemory
pub use InMemory.{Feeding, Flushes, Holding, Pulls, Puts, holds, memory_supply}
