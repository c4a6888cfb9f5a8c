pub mod ChunkBoxes
pub mod Payload
pub mod Beyond
pub mod inner
pub use ChunkBoxes.{IsChunkBox, OfAllBoxes, OpensBlock, Seals, clear_mark, clear_opening, clear_sealing}
pub use ChunkBoxes.{tag_length, text_length}
pub use Payload.{block_bytes, block_length, chunk_count, chunk_length, chunk_limit, chunks, last_chunk}
pub use Payload.{last_index, nonce_bytes, pair, payload, sealed, sealed_before_last, stream_fault_number}
unfoldable pub use Beyond.*
