-- How a payload key seals and opens a chunk, and that this is valid by the laws of the cipher. The
-- code cites that proof, so it can't stand in `proofs/`.
use Rattle.std.specs.Prelude.{ℕ, List, []}
use Rattle.std.proofs.Common.{sym}
use Rattle.age_cipher.specs.{sealing, opening}
use Rattle.age_cipher.proofs.SealingLemmas.{length-sealing, opening_of_sealing, sealing_of_opening}
use Rattle.age_chunk.specs.{IsChunkBox, Seals, OpensBlock}

-- without associated data (RFC 8439, 2.8)
abbrev pub seals : List ℕ → Seals
seals key nonce text = sealing key nonce [] text

abbrev pub opens : List ℕ → OpensBlock
opens key nonce block = opening key nonce [] block

pub box_valid : (key : List ℕ) → IsChunkBox (seals key) (opens key)
box_valid key =
    record {
      longer = λ nonce text h. length-sealing key nonce [] text;
      opens = λ nonce text h. opening_of_sealing key nonce [] text;
      only = λ nonce text block h e. sym (sealing_of_opening key nonce [] block text e);
    }
