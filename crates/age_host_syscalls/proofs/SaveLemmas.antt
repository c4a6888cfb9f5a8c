-- What a call leaves unchanged, what a power cut leaves after it, and what holds of an answer.
use Rattle.std.proofs.lemmas.Grind.{common_steps}
use Rattle.std.proofs.lemmas.Bool.Decides.{eqb_tells}
use Rattle.std.proofs.Common.{◌≡◌, ◌⊎◌, inl, inr, ℕ, List, [], ◌∷◌, Option, Some, None, refl, sym, ◌∙◌, ap}
use Rattle.std.proofs.Common.{subst, ⊎_elim, ◌+◌, ◌++◌, arith}
use Rattle.std.specs.Prelude.{Result, Ok, Err, OnOk, OnErr}
use Rattle.age_host_model.specs.{FileCall, Closed, SyncedNames, after_call, IsAmong, MayLead, MayLeaveFile}
use Rattle.age_host_model.specs.{MayLeave, UnsyncableNames, MayHave, Waited, after_calls, AllAnswered, AllWaited}
use Rattle.age_host_model.specs.{AtEachMoment, Throughout, SavesWhole, IsSafe}
use Rattle.age_host_model.specs.Disk.{Disk}
use Rattle.age_host_model.proofs.DiskLemmas.{path_same}
use Rattle.age_host_syscalls.specs.inner.{Has, IsAtPath}

-- ---- What a power cut leaves.

pub led : (x y : Option ℕ) (xs ys : List (Option ℕ)) (to : Option ℕ) → x ≡ y → xs ≡ ys → IsAmong to (x ∷ xs) → IsAmong to (y ∷ ys)
led x y xs ys to first rest one = grind (arith, common_steps)

-- as much as before, where the path leads nowhere else, and the files there hold what they held
pub leaves_fewer : (path : List ℕ) (old new : Disk) → ((to : Option ℕ) → MayLead new path to → MayLead old path to)
    → ((m : ℕ) → MayLead old path (Some m) → (new.bytes m ≡ old.bytes m) × (new.is_durable m ≡ old.is_durable m))
    → (left : Option (List ℕ)) → MayLeave new path left → MayLeave old path left
leaves_fewer path old new fewer same left leaves =
    let may = fewer leaves.0 leaves.1 in
    (leaves.0, may, files leaves.0 may leaves.2) where
      files : (to : Option ℕ) → MayLead old path to → MayLeaveFile new to left → MayLeaveFile old to left
      files None may leaves = leaves
      files (Some m) may leaves = (leaves.0, leaves.1, λ kept. leaves.2 ((same m may).1 ∙ kept) ∙ (same m may).0)

pub leaves_synced : (path : List ℕ) (disk : Disk) (left : Option (List ℕ))
    → MayLeave (after_call (SyncedNames path) disk) path left → MayLeave disk path left
leaves_synced path disk =
    leaves_fewer path disk (after_call (SyncedNames path) disk)
    (λ to may. first to (led _ _ _ _ to refl (path_same path [] disk.before) may)) (λ m may. (refl, refl)) where
      first : (to : Option ℕ) → IsAmong to (disk.file path ∷ []) → MayLead disk path to
      first to (inl is) = inl is
      first to (inr none) = absurd none

-- a file of these bytes that is kept leaves them
pub leaves_kept : (n : ℕ) (bytes : List ℕ) (disk : Disk) (to : Option ℕ)
    (left : Option (List ℕ)) → Has n bytes disk → to ≡ Some n → MayLeaveFile disk to left → left ≡ Some bytes
leaves_kept n bytes disk to left h0 h1 h2 = grind (arith, common_steps)

-- at a path that leads to it alone
pub leaves_only : (n : ℕ) (path bytes : List ℕ) (disk : Disk) → disk.file path ≡ Some n → disk.before path ≡ [] → Has n bytes disk
    → (left : Option (List ℕ)) → MayLeave disk path left → left ≡ Some bytes
leaves_only n path bytes disk file before has left leaves =
    leaves_kept n bytes disk leaves.0 left has (first leaves.0 (led _ _ _ _ leaves.0 file before leaves.1)) leaves.2 where
      first : (to : Option ℕ) → IsAmong to (Some n ∷ []) → to ≡ Some n
      first to (inl is) = is
      first to (inr none) = absurd none

-- where the path comes to lead to it, and no other file is changed
pub leaves_new : (n : ℕ) (path bytes : List ℕ) (old new : Disk) → Has n bytes new → ((m : ℕ) → (n ≡ m → ⊥) → new.bytes m ≡ old.bytes m)
    → ((m : ℕ) → (n ≡ m → ⊥) → new.is_durable m ≡ old.is_durable m) → new.file path ≡ Some n → new.before path ≡ old.file path ∷ old.before path
    → (left : Option (List ℕ)) → MayLeave new path left → MayLeave old path left ⊎ (left ≡ Some bytes)
leaves_new n path bytes old new has same_bytes same_kept file before left leaves =
    cases leaves.0 leaves.2 (led _ _ _ _ leaves.0 file before leaves.1) where
      cases : (to : Option ℕ) → MayLeaveFile new to left → IsAmong to (Some n ∷ old.file path ∷ old.before path)
          → MayLeave old path left ⊎ (left ≡ Some bytes)
      cases to leaves (inl is) = inr (leaves_kept n bytes new to left has is leaves)
      cases None leaves (inr may) = inl (None, may, leaves)
      cases (Some m) leaves (inr may) = elim (eqb_tells n m) [
        | inl same ↦ inr (leaves_kept n bytes new (Some m) left has (ap Some (sym same.1)) leaves)
        | inr other ↦ inl (Some m, may, (leaves.0, leaves.1, λ kept. leaves.2 (same_kept m other.1 ∙ kept) ∙ same_bytes m other.1))
      ]

-- ---- What holds after calls that were made or not.

-- if one may have been made
pub if_made : (P : List FileCall → Type 0) (call : FileCall) (old new : List FileCall) → P old → P (call ∷ old) → MayHave call old new → P new
if_made P call old new none one = ⊎_elim (λ same. subst P (sym same) none) (λ made. subst P (sym made) one)

-- if one of two was
pub if_waited : (P : List FileCall → Type 0) (waits cant : FileCall) (old new : List FileCall) → P (waits ∷ old) → P (cant ∷ old)
    → Waited waits cant old new → P new
if_waited P waits cant old new one other = ⊎_elim (λ is. subst P (sym is) one) (λ is. subst P (sym is) other)

-- if one of two may have been
pub if_either : (P : List FileCall → Type 0) (waits cant : FileCall) (old new : List FileCall) → P old → P (waits ∷ old) → P (cant ∷ old)
    → (new ≡ old) ⊎ Waited waits cant old new → P new
if_either P waits cant old new none one other = ⊎_elim (λ same. subst P (sym same) none) (if_waited P waits cant old new one other)

-- ---- What holds at each moment.

module _ (path : List ℕ) (P : Disk → List FileCall → Type 0) (old : List FileCall) where
  pub throughout_none : ((disk : Disk) → P disk old) → Throughout path P old old
  throughout_none here = record { since = []; are = refl; each = λ disk answers waited. here disk }

  pub throughout_more : (call : FileCall) (calls : List FileCall) → Throughout path P old calls
      → ((disk : Disk) → AllAnswered path (call ∷ calls) disk → AllWaited (call ∷ calls) → P disk (call ∷ calls)) → Throughout path P old (call ∷ calls)
  throughout_more call calls before here = record {
    since = call ∷ before.since;
    are = ap (λ (l : List FileCall). call ∷ l) before.are;
    each = λ disk answers waited. (
      subst (λ (l : List FileCall). P disk (call ∷ l)) before.are (here disk answers waited),
      before.each disk answers.1 waited.1,
    );
  }

  at_last : (Q : List FileCall → Type 0) (since : List FileCall) → AtEachMoment Q since old → Q (since ++ old)
  at_last Q [] each = each
  at_last Q (call ∷ since) each = each.0

  pub throughout_last : (calls : List FileCall) → Throughout path P old calls → (disk : Disk) → AllAnswered path calls disk → AllWaited calls → P disk calls
  throughout_last calls all disk answers waited = subst (P disk) (sym all.are) (at_last (P disk) all.since (all.each disk answers waited))

-- ---- What a power cut leaves.

pub saves_none : (path bytes : List ℕ) (old : List FileCall) → SavesWhole path bytes old old
saves_none path bytes old = throughout_none path _ old (λ disk left leaves. inl leaves)

-- after a call that lets the path lead to these bytes
pub saves_loudly : (path bytes : List ℕ) (old : List FileCall) (call : FileCall) (calls : List FileCall) → SavesWhole path bytes old calls
    → ((disk : Disk) → AllAnswered path (call ∷ calls) disk → AllWaited (call ∷ calls) → (left : Option (List ℕ))
    → MayLeave (after_calls (call ∷ calls) disk) path left → MayLeave (after_calls calls disk) path left ⊎ (left ≡ Some bytes)) → SavesWhole path bytes old (call ∷ calls)
saves_loudly path bytes old call calls saves loud =
    throughout_more path _ old call calls saves (λ disk answers waited left leaves.
    ⊎_elim (λ was. throughout_last path _ old calls saves disk answers.1 waited.1 left was) (λ is. inr is) (loud disk answers waited left leaves))

-- where the path leads nowhere else
pub saves_quietly : (path bytes : List ℕ) (old : List FileCall) (call : FileCall) (calls : List FileCall) → SavesWhole path bytes old calls
    → ((disk : Disk) → AllAnswered path (call ∷ calls) disk → AllWaited (call ∷ calls) → (left : Option (List ℕ))
    → MayLeave (after_calls (call ∷ calls) disk) path left → MayLeave (after_calls calls disk) path left) → SavesWhole path bytes old (call ∷ calls)
saves_quietly path bytes old call calls saves quiet =
    saves_loudly path bytes old call calls saves (λ disk answers waited left leaves. inl (quiet disk answers waited left leaves))

-- ---- Answers.

-- where a call answers, whatever it answers
pub either_way : {X E P Q G : Type 0} (r : Result X E) → OnOk r P → OnErr r Q → (P → G) → (Q → G) → G
either_way (Ok x) done failed if_done if_failed = if_done done
either_way (Err e) done failed if_done if_failed = if_failed failed

pub on_ok_both : {X E : Type 0} (P Q : Type 0) (r : Result X E) → OnOk r P → OnOk r Q → OnOk r (P × Q)
on_ok_both P Q (Ok x) first second = (first, second)
on_ok_both P Q (Err e) first second = tt

pub on_ok : {X E P : Type 0} (r : Result X E) → P → OnOk r P
on_ok (Ok x) holds = holds
on_ok (Err e) holds = tt

-- ---- How a file that was written comes to its path.

pub placed_closed : (path : List ℕ) (n : ℕ) (bytes : List ℕ) (calls : List FileCall) → IsAtPath path n bytes calls
    → IsAtPath path n bytes (Closed n ∷ calls)
placed_closed path n bytes calls put =
    record { file = λ disk answers. put.file disk answers.1; has = λ disk answers waited. put.has disk answers.1 waited.1 }

pub safe_named : (path : List ℕ) (n : ℕ) (bytes : List ℕ) (calls new : List FileCall) → IsAtPath path n bytes calls
    → Waited (SyncedNames path) (UnsyncableNames path) calls new → IsSafe path bytes new
safe_named path n bytes calls new put = grind (arith, common_steps, if_waited, leaves_only, path_same)
