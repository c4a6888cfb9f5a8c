pub mod ThereAndBack
pub use Rattle.age_file_decrypt.specs.Decrypts.{IsUndamagedFile, StopsOutside}
pub use Rattle.age_file_position.specs.declared.position.PositionPolicy.TheVariants.{Kept}
