-- Worked examples of the definitions, by computation.
use Rattle.std.proofs.Common.{◌≡◌, ◌-◌, rules, ℕ, List, [], ◌∷◌, ◌++◌, Bool, true, false, take, drop, map}
use Rattle.std.specs.Prelude.{codes}
use Rattle.age_chunk.specs.{clear_sealing, clear_opening, clear_mark, nonce_bytes, chunk_limit, payload}
use Rattle.age_chunk.specs.declared.fault.StreamKind.TheVariants.{ChunkDamaged, ChunkCut, EmptyLast, Truncated, Trailing, TooManyChunks}
use Rattle.age_stream.specs.{reader_state, released_text, Outcome, outcome, failed, Status, Delivery, Piece, End, Restart, Open, LastSeen, Done}

abbrev first : List ℕ
first = 97 ∷ 98 ∷ 99 ∷ 100 ∷ 0 ∷ 0 ∷ 0 ∷ 0 ∷ 0 ∷ 0 ∷ 0 ∷ 0 ∷ 0 ∷ 0 ∷ 0 ∷ 0 ∷ 0 ∷ 0 ∷ 0 ∷ 0 ∷ []

abbrev second : List ℕ
second = 101 ∷ 102 ∷ 103 ∷ 104 ∷ 0 ∷ 0 ∷ 0 ∷ 0 ∷ 0 ∷ 0 ∷ 0 ∷ 0 ∷ 0 ∷ 0 ∷ 1 ∷ 1 ∷ 0 ∷ 0 ∷ 0 ∷ 0 ∷ []

abbrev both : List ℕ
both = first ++ second

abbrev given : ℕ → List ℕ → Bool → Bool → Outcome
given start bytes ended late = outcome clear_opening 4 (record { start = start; bytes = bytes; ended = ended; late = late })

abbrev out : List (List ℕ) → ℕ → Status → Outcome
out texts index status = record { texts = texts; index = index; status = status }

abbrev greatest : ℕ
greatest = chunk_limit - 1

abbrev piece : List ℕ → Delivery
piece bytes = Piece (record { ref_ptr = (0, 0); now = bytes })

abbrev held : List Delivery → (List ℕ × Status) × (ℕ × ℕ)
held deliveries =
    let s = reader_state clear_opening 4 deliveries in
    let o = outcome clear_opening 4 s.segment in
    ((released_text clear_opening 4 s, o.status), (o.index, s.refused))

record Examples : Type 0 where
  eight_bytes_sealed : payload clear_sealing 4 (codes "abcdefgh") ≡ both
  empty_text_sealed : payload clear_sealing 4 [] ≡ 0 ∷ 0 ∷ 0 ∷ 0 ∷ 0 ∷ 0 ∷ 0 ∷ 0 ∷ 0 ∷ 0 ∷ 0 ∷ 1 ∷ 0 ∷ 0 ∷ 0 ∷ 0 ∷ []
  empty_text_opened : given 0 (payload clear_sealing 4 []) true false ≡ out ([] ∷ []) 0 Done
  two_blocks_opened : given 0 both true false ≡ out (codes "abcd" ∷ codes "efgh" ∷ []) 1 Done
  swapped_blocks : given 0 (second ++ first) true false ≡ out [] 0 (failed ChunkDamaged 0)
  last_block_missing : given 0 first true false ≡ out (codes "abcd" ∷ []) 1 (failed Truncated 1)
  cut_in_second_block : given 0 (take 25 both) true false ≡ out (codes "abcd" ∷ []) 1 (failed ChunkCut 1)
  byte_after_last_block : given 0 (both ++ 0 ∷ []) false false ≡ out (codes "abcd" ∷ codes "efgh" ∷ []) 1 (failed Trailing 1)
  byte_after_last_block_then_end : given 0 (both ++ 0 ∷ []) true false ≡ out (codes "abcd" ∷ codes "efgh" ∷ []) 1 (failed Trailing 1)
  byte_after_end : given 0 both true true ≡ out (codes "abcd" ∷ codes "efgh" ∷ []) 1 (failed Trailing 1)
  first_block_twice : given 0 (first ++ first) false false ≡ out (codes "abcd" ∷ []) 1 (failed ChunkDamaged 1)
  empty_last_block : given 0 (first ++ drop 4 second) true false ≡ out (codes "abcd" ∷ []) 1 (failed EmptyLast 1)
  greatest_not_last : given greatest (codes "XXXX" ++ clear_mark (nonce_bytes greatest false)) false false ≡ out [] greatest (failed TooManyChunks greatest)
  greatest_last : given greatest (codes "XXXX" ++ clear_mark (nonce_bytes greatest true)) false false ≡ out (codes "XXXX" ∷ []) greatest LastSeen
  fed_byte_by_byte : held (map (λ (b : ℕ). piece (b ∷ [])) both ++ End ∷ []) ≡ ((codes "abcdefgh", Done), (1, 0))
  restart_at_first_chunk : held (piece first ∷ Restart 0 ∷ piece both ∷ End ∷ []) ≡ ((codes "abcdefgh", Done), (1, 0))
  restart_after_text_refused : held (piece both ∷ Restart 3 ∷ []) ≡ ((codes "abcdefgh", LastSeen), (1, 1))
  restart_at_end_of_text : held (piece both ∷ Restart 3 ∷ Restart 2 ∷ []) ≡ ((codes "abcdefgh", Open), (2, 1))
  end_after_that : held (piece both ∷ Restart 3 ∷ Restart 2 ∷ End ∷ []) ≡ ((codes "abcdefgh", failed Truncated 2), (2, 1))
  restart_in_cut_block : held (piece (take 27 both) ∷ Restart 1 ∷ piece (drop 20 both) ∷ End ∷ []) ≡ ((codes "abcdefgh", Done), (1, 0))

examples : Examples
unfolding outcome
examples = search rules
