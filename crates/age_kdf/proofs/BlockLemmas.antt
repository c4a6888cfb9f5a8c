-- Keys as blocks, blocks of 32 bytes that are joined, and an array's map.
use Rattle.std.proofs.lemmas.Grind.{common_steps, flat_map-append}
use Rattle.std.proofs.lemmas.Bool.Decides.{leb_tells}
use Rattle.std.proofs.Common.{◌≡◌, ℕ, zero, suc, ◌+◌, ◌*◌, ◌≤◌, List, [], ◌++◌, length, take, drop, refl, sym, ap, ◌∙◌, arith, ◌⊎◌, ◌<◌, map, get_or, subst}
use Rattle.std.proofs.Common.{ap₂, ◌∷◌}
use Rattle.std.specs.Array.{MapsFrom, IsMapOf}
use Rattle.std.specs.Fn.{Called, Mut}
use Rattle.std.specs.List.{range_with_len, flat_map}
use Rattle.std.proofs.Math.Seq.{take-append-add}
use Rattle.std.proofs.lemmas.List.{append-nil, append_assoc, length-append, length-take, take_all, take_at, drop_all, length-drop, ext_get_or, length-map}
use Rattle.std.proofs.lemmas.List.{get_or-map}
use Rattle.std.proofs.lemmas.List.Folds.{flat_map-map}
use Rattle.std.proofs.lemmas.List.FromFn.{map-range_with_len_more}
use Rattle.age_kdf.specs.{hmac, pbkdf2_block}
use Rattle.sha2.proofs.Facts256.{length-sha256}

-- ---- what decides whether a key fits into a block

pub ruleset length_tests = (leb_tells)

-- ---- blocks of 32 bytes that are joined, and a slice that takes them one by one

length-hmac : (key message : List ℕ) → length (hmac key message) ≡ 32
unfolding hmac
length-hmac key message = length-sha256 _

pub length-pbkdf2_block : (pass salt : List ℕ) (i : ℕ) → length (pbkdf2_block pass salt i) ≡ 32
unfolding pbkdf2_block
length-pbkdf2_block pass salt i = length-hmac pass _

-- the first q blocks of a key, joined
abbrev pub joined : List ℕ → List ℕ → ℕ → List ℕ
joined pass salt q = flat_map (pbkdf2_block pass salt) (range_with_len 1 q)

pub joined_more : (pass salt : List ℕ) (q : ℕ) → joined pass salt (q + 1) ≡ joined pass salt q ++ pbkdf2_block pass salt (q + 1)
joined_more pass salt q =
    let block : ℕ → List ℕ = pbkdf2_block pass salt in
    let parts : (n : ℕ) → flat_map (λ x. x) (map block (range_with_len 1 n)) ≡ joined pass salt n = λ n. flat_map-map (λ x. x) block (range_with_len 1 n) in
    sym (parts (q + 1)) ∙ ap (flat_map (λ x. x)) (map-range_with_len_more block 1 q (q + 1) (omega arith))
    ∙ flat_map-append (λ x. x) (map block (range_with_len 1 q)) (block (q + 1) ∷ []) ∙ ap₂ ◌++◌ (parts q) (append-nil (block (q + 1)))

pub length-joined : (pass salt : List ℕ) (q : ℕ) → length (joined pass salt q) ≡ 32 * q
length-joined pass salt zero = refl
length-joined pass salt (suc q) =
    let next : q + 1 ≡ suc q = omega arith in
    omega (
      arith,
      ap (λ n. length (joined pass salt n)) next,
      ap length (joined_more pass salt q),
      length-append {A = ℕ},
      length-pbkdf2_block pass salt (q + 1),
      length-joined pass salt q,
    )

-- in a list that begins with the a items of `front`, the k items after them become the first of a
-- block of 32
pub chunk_written : (front block out written : List ℕ) (a k n : ℕ) → length front ≡ a → length block ≡ 32 → length out ≡ n
    → a + k ≤ n → k ≤ 32 → (k ≡ 32) ⊎ (a + k ≡ n) → written ≡ take k block → take a out ≡ front
    → take (a + 32) (take a out ++ (written ++ drop k (drop a out))) ≡ take n (front ++ block)
chunk_written front block out written a k n len_front len_block len_out fits small reach is before =
    grind (arith, common_steps, append-nil, append_assoc, drop_all, length-append, length-drop, length-take, take-append-add, take_all, take_at)

-- ---- an array's `map` by a closure that keeps what it captured

module _ {F : Type 0} (g : Mut F (ℕ × Unit {0}) ℕ) (h : ℕ → ℕ) (f : F) (same : (x y : ℕ) (q : F) → Called g f (x, tt) y q → (y ≡ h x) × (q ≡ f)) where
  get_or_mapped : (xs ys : List ℕ) (i n : ℕ) → MapsFrom g f xs ys i n → (j : ℕ) → j < n → get_or ys (i + j) 0 ≡ h (get_or xs (i + j) 0)
  get_or_mapped xs ys i zero m j l = grind (arith, common_steps)
  get_or_mapped xs ys i (suc n) m zero l = grind (arith, common_steps)
  get_or_mapped xs ys i (suc n) m (suc j) l =
      grind (arith, common_steps, get_or_mapped xs ys (i + 1) n (subst (λ q. MapsFrom g q xs ys (i + 1) n) (same m.1 m.2 m.0 m.5).1 m.6) j (omega arith))

  pub mapped_is : (xs ys : List ℕ) (n : ℕ) → length xs ≡ n → IsMapOf g f xs ys n → ys ≡ map h xs
  mapped_is xs ys n len m =
      ext_get_or 0 ys (map h xs) (m.long ∙ sym (length-map xs h ∙ len))
      (λ j l.
      let in_xs : j < length xs = omega (arith, m.long) in
      let from_start : 0 + j ≡ j = omega arith in
      rw from_start at (get_or_mapped xs ys 0 n m.each j (omega (arith, m.long))) ∙ sym (get_or-map h xs j 0 0 in_xs))
