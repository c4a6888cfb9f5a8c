-- What any calls of an encoder write is an age file.
use Rattle.std.proofs.Common.{◌≡◌, ◌≤◌, ℕ, refl, List, ◌++◌, true}
use Rattle.age_chunk.specs.{chunk_count, chunk_length, chunk_limit}
use Rattle.age_stanza.specs.declared.header.Header.{Header}
use Rattle.age_keys.specs.{FileOf}
use Rattle.age_c.specs.{AreTextCalls, EncodersWriteFiles, IsBegun, IsTextCallOn, TextCall, bytes_written, stream_after, text_taken}
use Rattle.age_c.specs.declared.write_stream.WriteStream.{WriteStream}
use Rattle.age_c.proofs.WriterLemmas.{texts_are_files}

pub writes : (header : Header) (key nonce front : List ℕ) (s : WriteStream) (calls : List TextCall) (last : TextCall) → IsBegun header key nonce front s.writer
    → s.held ≡ 0 → AreTextCalls s calls → IsTextCallOn (stream_after s calls) last → last.is_end ≡ true → last.answer ≡ 0
    → FileOf header key nonce (text_taken calls) (front ++ (bytes_written calls ++ last.bytes))
    × (chunk_count chunk_length (text_taken calls) ≤ chunk_limit)
writes header key nonce front s calls last begins empty are is_call is_end zero = texts_are_files header key nonce front s calls last (record {
  begins = begins;
  empty = empty;
  are = are;
  is_call = is_call;
  is_end = is_end;
  zero = zero;
})

pub encoders_write_files : EncodersWriteFiles
encoders_write_files s written before after calls last are is_call is_end zero = (
  λ pass work random it. (writes _ _ _ _ s calls last (it.begun refl) it.empty are is_call is_end zero).0,
  λ lines random it. let begun = it.begun refl in
      (begun.0, begun.1, (writes begun.0 _ _ _ s calls last begun.3 it.empty are is_call is_end zero).0),
)
