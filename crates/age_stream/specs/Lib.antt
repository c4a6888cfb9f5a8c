pub mod Laws
pub mod Segment
pub mod Headline
pub mod Opener
pub mod Sealer
pub mod Rows
pub mod Replay
pub mod inner
pub use Laws.{AreChunks, AreWhole, ChunksAreCounted, ChunksAreOne, ClearIsSealable, ClosedStays, EndCloses}
pub use Laws.{FreshIsOpen, GivesBack, HasUnambiguousEnd, IsCounted, IsSealable, IsSettled, IsTextLength}
pub use Laws.{IsTextLengthOf, LengthsAreOne, NoncesDiffer, PayloadIsLonger, PayloadRoundTrip, PiecesJoin}
pub use Laws.{ReleasedGrows, ReleasedIsWritten, RestIsAuthentic, SealedGrows, SealingsDiffer, SealsChunks}
pub use Laws.{UndamagedIsAuthentic, WholeIsAuthentic, chunks_for, counted_chunks}
pub use Segment.{Frontier, Outcome, Standing, accepts, after_delivery, begin, block_at, failed, first_line}
pub use Segment.{fresh, leading_plaintexts, is_empty_last, is_tried}
pub use Segment.{is_waiting, released, rest_bytes, reader_state, standing_from, stays, stop, text_before_last}
pub use Segment.{released_text, text_then, unless_greatest, verdict, whole_blocks, with_end, with_piece}
unfoldable pub use Segment.{outcome}
pub use Headline.{AreAuthentic, HoldsWritten, IsAuthentic, IsFirstWrong, IsInPlace, IsPrefixOf, IsRest}
pub use Headline.{IsRight, IsStart, IsUndamaged, IsWriters, ReleasesWritten, compared, sealed_as}
pub use Opener.{Ends, IsEnded, OpenerView, Stands, chunk_bytes, chunk_texts, has_failed, held_bytes}
pub use Opener.{opener_view, whole_text}
pub use Sealer.{Holds, IsTaken, SealerView, Takes, needs_too_many, sealer_view, step_len, too_many}
unfoldable pub use Replay.*
pub use Rattle.age_stream.specs.declared.delivery.Delivery.{Delivery}
pub use Rattle.age_stream.specs.declared.delivery.Delivery.TheVariants.{End, Piece, Restart}
pub use Rattle.age_stream.specs.declared.step.Status.{Status}
pub use Rattle.age_stream.specs.declared.step.Status.TheVariants.{Done, Failed, LastSeen, Open}
