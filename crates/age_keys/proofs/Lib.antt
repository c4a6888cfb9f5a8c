pub mod ScryptLemmas
pub mod WorkFactorLemmas
pub mod StanzaLemmas
pub mod PassphraseLemmas
pub use ScryptLemmas.{other_mac, scrypt_has_text, scrypt_head_is, scrypt_size, size_of_one}
pub use WorkFactorLemmas.{work_factor_some}
pub use StanzaLemmas.{all_more, around, if_none, not_beside, only_one, only_one_of, over_the_end, shut, three_arguments, two_arguments}
unfoldable pub use PassphraseLemmas.*
