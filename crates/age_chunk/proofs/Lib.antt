pub mod NonceLemmas
pub mod BeyondLemmas
pub mod FirstChunkLemmas
pub use NonceLemmas.{nonce_bytes-flag, nonce_bytes-length, nonce_bytes-number}
pub use FirstChunkLemmas.{first_chunks-append, first_chunks_more, get_or-first_chunks, length-first_chunks}
