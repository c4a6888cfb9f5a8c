-- Public laws, each with its proof: what the proofs of other crates cite of this one. Each is a clause in `src/laws.rt`.
use Rattle.std.proofs.lemmas.Grind.{common_steps}
use Rattle.std.proofs.Common.{◌≡◌, ℕ, ◌+◌, ◌*◌, ap, sym, ◌∙◌, List, length, arith}
use Rattle.std.specs.Simd.{first_chunks}
use Rattle.std.proofs.lemmas.List.{length-append, length-drop}
use Rattle.age_chunk.specs.{IsChunkBox, tag_length, Seals, OpensBlock, last_index, sealed_before_last, block_bytes}
use Rattle.age_chunk.specs.declared.fault.StreamFault.{StreamFault}
use Rattle.age_chunk.proofs.{length-first_chunks}
use Rattle.age_stream.specs.{Outcome, with_end, Status, Failed, IsSettled, ClosedStays, EndCloses, PayloadIsLonger, LengthsAreOne, SealingsDiffer}
use Rattle.age_stream.proofs.GoingLemmas.{going, after_piece, after_end, stands_at}
use Rattle.age_stream.proofs.TableLemmas.{after, fault_after}
use Rattle.age_stream.proofs.ChunkLemmas.{last_index_le, all_full}
use Rattle.age_stream.proofs.SegmentLemmas.{length-bytes_of}

pub sealings_differ : SealingsDiffer
sealings_differ sealing opening valid nonce text other len same = grind (arith, common_steps)

-- ---- closed segments

settled : (f : ℕ → Status → Status) (old new : Outcome) → ((i : ℕ) (fault : StreamFault) → f i (Failed fault) ≡ Failed fault) → new ≡ after f old
    → IsSettled old new
settled f old new stays is = grind (arith, common_steps)

pub closed_stays : ClosedStays
closed_stays opening n s timely shut = grind (arith, common_steps, after_end, after_piece, fault_after, settled)

pub end_closes : EndCloses
end_closes opening n s = (
  λ o. let u = (going opening n (with_end s) o).unended in cc,
  (stands_at opening n (with_end s)).index ∙ sym (stands_at opening n s).index,
)

-- ---- lengths

module _ (sealing : Seals) (opening : OpensBlock) (valid : IsChunkBox sealing opening) (n : ℕ) where
  front_length : (text : List ℕ) → length (block_bytes (sealed_before_last sealing n text)) ≡ last_index n text * (n + tag_length)
  front_length text =
      let q = last_index n text in
      let cs = first_chunks n q text in
      omega (
        arith,
        length-bytes_of sealing opening valid n 0 cs (all_full n q text (omega (arith, last_index_le n text))),
        ap (λ (k : ℕ). (n + tag_length) * k) (length-first_chunks n q text),
      )

pub payload_is_longer : PayloadIsLonger
payload_is_longer sealing opening valid n text =
    grind (arith, common_steps, front_length, last_index_le, length-append, length-drop)

-- ---- lengths

pub lengths_are_one : LengthsAreOne
lengths_are_one = grind (arith, common_steps, payload_is_longer)
