pub mod Scrypt
pub mod inner
pub use Scrypt.{add32, romix, work_factor_limit, xor_words}
unfoldable pub use Scrypt.{block_mix, bytes_of, columns, double_rounds, integerify, number, part, quarter}
unfoldable pub use Scrypt.{rows, salsa20_8, scrypt, v_block, word_at, words_of, x_block, x_part}
pub use Rattle.age_scrypt.specs.declared.part.Part.{Part}
