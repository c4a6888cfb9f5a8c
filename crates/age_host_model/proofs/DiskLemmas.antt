-- A disk and calls, by values, namely what is at a path, how long a file is, and what calls contain.
use Rattle.std.proofs.lemmas.Grind.{common_steps}
use Rattle.std.proofs.Common.{◌≡◌, ◌⊎◌, inl, inr, ℕ, zero, suc, ◌-◌, ◌≤◌, List, [], ◌∷◌, ◌++◌, Bool, refl, ap}
use Rattle.std.proofs.Common.{length, take, arith, ◌∙◌}
use Rattle.std.specs.Prelude.{if◌then◌else◌, Contains, replicate}
use Rattle.std.proofs.lemmas.Bool.{eq-eqb, ne_eqb}
use Rattle.std.proofs.lemmas.Slice.Eq.{bytes_eq-Decides}
use Rattle.std.proofs.lemmas.List.{append-nil}
use Rattle.std.proofs.lemmas.List.Elements.{Contains-append_left, Contains-append_right}
use Rattle.age_host_model.specs.{FileCall, Made, Opened, Locked, Unlockable, at_path, for_file, sized, opening_of}
use Rattle.age_host_model.specs.{IsClaimed}
use Rattle.age_host_model.specs.declared.opened.FileKind.{FileKind}
use Rattle.age_host_model.specs.declared.opened.OpenOutcome.{OpenOutcome}

-- ---- Values at one path, or for one file.

pub path_same : {X : Type 0} (p : List ℕ) (x : X) (f : List ℕ → X) → at_path p x f p ≡ x
path_same p x f = ap (λ (b : Bool). if b then x else f p) ((bytes_eq-Decides p p).1 refl)

pub file_same : {X : Type 0} (n : ℕ) (x : X) (f : ℕ → X) → for_file n x f n ≡ x
file_same n x f = ap (λ (b : Bool). if b then x else f n) (eq-eqb n n refl)

pub file_other : {X : Type 0} (n m : ℕ) (x : X) (f : ℕ → X) → (n ≡ m → ⊥) → for_file n x f m ≡ f m
file_other n m x f other = ap (λ (b : Bool). if b then x else f m) (ne_eqb n m other)

-- ---- What a file holds.

none_missing : (n : ℕ) → n ≡ 0 → replicate {A = ℕ} n 0 ≡ []
none_missing n is = ap (λ (k : ℕ). replicate {A = ℕ} k 0) is

pub sized_within : (len : ℕ) (bytes : List ℕ) → len ≤ length bytes → sized len bytes ≡ take len bytes
sized_within len bytes within =
    ap (λ (l : List ℕ). take len bytes ++ l) (none_missing (len - length bytes) (omega arith)) ∙ append-nil (take len bytes)

-- ---- What calls contain.

pub contains_first : (call : FileCall) (calls : List FileCall) → Contains (call ∷ calls) call
contains_first call calls = Contains-append_left (call ∷ []) calls call (0, omega arith, refl)

pub contains_later : (call other : FileCall) (calls : List FileCall) → Contains calls other → Contains (call ∷ calls) other
contains_later call other calls held = Contains-append_right (call ∷ []) calls other held

pub contains_none : (call : FileCall) → Contains [] call → ⊥
contains_none call held = omega (arith, held.1)

pub contains_cases : (call first : FileCall) (calls : List FileCall) → Contains (first ∷ calls) call → (first ≡ call) ⊎ Contains calls call
contains_cases call first calls (zero, short, is) = inl is
contains_cases call first calls (suc k, short, is) = inr (k, omega arith, is)

pub claimed_later : (n : ℕ) (call : FileCall) (calls : List FileCall) → IsClaimed n calls → IsClaimed n (call ∷ calls)
claimed_later n call calls (inl held) = inl (contains_later call (Locked n) calls held)
claimed_later n call calls (inr held) = inr (contains_later call (Unlockable n) calls held)

-- ---- A file that was only opened.

module _ (path : List ℕ) (n : ℕ) where
  no_lock : (opening : OpenOutcome) (call : FileCall) → (Made path n ≡ call → ⊥) → ((kind : FileKind) → Opened path n kind ≡ call → ⊥)
      → Contains (opening_of path n opening ∷ []) call → ⊥
  no_lock opening call h0 h1 h2 = grind (arith, common_steps, contains_cases, contains_none)

  pub no_claim : (opening : OpenOutcome) → IsClaimed n (opening_of path n opening ∷ []) → ⊥
  no_claim opening (inl held) = no_lock opening (Locked n) (λ same. cc) (λ kind same. cc) held
  no_claim opening (inr held) = no_lock opening (Unlockable n) (λ same. cc) (λ kind same. cc) held
