use Rattle.std.proofs.Common.{◌≡◌, ◌<◌, ℕ, get_or}
use Rattle.age_cipher.proofs.aead.is_tag.Given as goal

abbrev pub invariant-loop-i : goal.invariant-loop-i
invariant-loop-i l = record {
  same : l.differences ≡ 0 → (k : ℕ) → k < l.i → get_or l.tag k 0 ≡ get_or l.bytes k 0;
  none : l.tag ≡ l.bytes → l.differences ≡ 0;
}
