-- A disk, and what a power cut leaves of it, for each law.
use Rattle.std.proofs.lemmas.Grind.{common_steps}
use Rattle.std.proofs.Common.{◌≡◌, inl, inr, ⊎_elim, ℕ, List, [], ◌∷◌, ◌++◌, Some, true, false, length, refl}
use Rattle.std.proofs.Common.{sym, ◌∙◌, ap, subst, arith}
use Rattle.std.specs.Prelude.{Contains}
use Rattle.std.proofs.lemmas.Bool.{false≢true}
use Rattle.std.proofs.lemmas.List.{append-nil, drop_all, take_all}
use Rattle.age_host_model.specs.{FileCall, Made, Opened, Wrote, Cut, Synced, SyncedNames, Locked, Regular}
use Rattle.age_host_model.specs.{after_call, after_calls, MayLead, MayLeave, IsAnswered, AllAnswered, IsSafe}
use Rattle.age_host_model.specs.{CanLeave, bare, bare_but, overwritten, put_out, HasOneLock, IsUnchanged, OutFile}
use Rattle.age_host_model.specs.{opening_of, is_waited, IsOn, AllOn, MayChange, IsClaimed, LocksFirst, TouchesFile}
use Rattle.age_host_model.specs.{HasMade}
use Rattle.age_host_model.specs.declared.opened.OpenOutcome.{OpenOutcome}
use Rattle.age_host_model.specs.declared.opened.OpenOutcome.TheVariants as way
use Rattle.age_host_model.specs.Disk.{Disk}
use Rattle.age_host_model.proofs.DiskLemmas.{path_same, file_same, file_other, sized_within, contains_first}
use Rattle.age_host_model.proofs.DiskLemmas.{contains_later, contains_none, contains_cases, claimed_later}
use Rattle.age_host_model.proofs.DiskLemmas.{no_claim}

-- ---- What a power cut may leave.

-- no path of a bare disk leads to a file
nowhere : (path : List ℕ) (n : ℕ) → MayLead bare path (Some n) → ⊥
nowhere path n (inl is) = cc
nowhere path n (inr none) = none

-- what isn't kept may hold anything
torn : (n : ℕ) (path bytes : List ℕ) (disk : Disk) → disk.file path ≡ Some n → disk.is_durable n ≡ false → MayLeave disk path (Some (0 ∷ bytes))
torn n path bytes disk leads unkept = (Some n, inl (sym leads), (0 ∷ bytes, refl, λ kept. absurd (false≢true (sym unkept ∙ kept))))

garbage : (bytes : List ℕ) → Some (0 ∷ bytes) ≡ Some bytes → ⊥
garbage bytes same = let same_list : (0 ∷ bytes) ≡ bytes = cc in omega (arith, ap length same_list)

-- ---- Two runs.

-- without a lock nothing in a file is changed
never_changed : (n : ℕ) (calls : List FileCall) → LocksFirst n calls → (IsClaimed n calls → ⊥)
    → (call : FileCall) → Contains calls call → MayChange n call → ⊥
never_changed n [] locks none call held may = contains_none call held
never_changed n (first ∷ calls) locks none call held may =
    ⊎_elim (λ same. earlier (locks.0 (subst (λ (c : FileCall). MayChange n c) (sym same) may)))
    (λ later. never_changed n calls locks.1 earlier call later may) (contains_cases call first calls held) where
      earlier : IsClaimed n calls → ⊥
      earlier claimed = none (claimed_later n first calls claimed)

kept_by : (n : ℕ) (call : FileCall) (disk : Disk) → (MayChange n call → ⊥)
    → ((path : List ℕ) → call ≡ Made path n → ⊥) → (after_call call disk).bytes n ≡ disk.bytes n
kept_by n call disk h0 h1 = grind (arith, common_steps, file_other)

kept_by_all : (n : ℕ) (calls : List FileCall) → ((call : FileCall) → Contains calls call → MayChange n call → ⊥) → (HasMade n calls → ⊥)
    → (disk : Disk) → (after_calls calls disk).bytes n ≡ disk.bytes n
kept_by_all n [] none made disk = refl
kept_by_all n (call ∷ calls) none made disk =
    kept_by n call (after_calls calls disk) (λ may. none call (contains_first call calls) may)
    (λ path is. made (
      path,
      subst (λ (c : FileCall). Contains (c ∷ calls) (Made path n)) (sym is) (contains_first (Made path n) calls),
    )) ∙ kept_by_all n calls (λ other held may. none other (contains_later call other calls held) may)
    (λ has. made (has.0, contains_later call (Made has.0 n) calls has.1)) disk

pub second_unchanged : (n : ℕ) (one other : List FileCall) → HasOneLock n one other → IsUnchanged n other
second_unchanged n one other lock = record {
  none = none;
  same = λ made disk. kept_by_all n other none made disk;
} where
  none : (call : FileCall) → Contains other call → MayChange n call → ⊥
  none = never_changed n other lock.first (⊎_elim (lock.once lock.has) lock.lockable)

pub late : (n : ℕ) (path bytes : List ℕ) → LocksFirst n (Locked n ∷ Wrote n 0 bytes ∷ Opened path n (Regular true) ∷ []) → ⊥
late n path bytes locks = no_claim path n (way.Found true true) (locks.1.0 refl)

-- another run that has only opened the file
pub opened_beside : (n : ℕ) (path : List ℕ) (one : List FileCall) → Contains one (Locked n) → HasOneLock n one (Opened path n (Regular true) ∷ [])
opened_beside n path one has = grind (arith, common_steps, no_claim)

-- ---- Other files.

module _ (path : List ℕ) (n m : ℕ) (other : m ≡ n → ⊥) where
  apart_by : (k : ℕ) → k ≡ n → k ≡ m → ⊥
  apart_by k is same = other (sym same ∙ is)

  other_kept : (before : List FileCall) (call : FileCall) → IsOn path n before call → (disk : Disk) → (after_call call disk).bytes m ≡ disk.bytes m
  other_kept before call h0 disk = grind (arith, common_steps, apart_by, file_other)

  pub others_kept : (calls : List FileCall) → AllOn path n calls → (disk : Disk) → (after_calls calls disk).bytes m ≡ disk.bytes m
  others_kept [] on disk = refl
  others_kept (call ∷ calls) on disk = other_kept calls call on.0 (after_calls calls disk) ∙ others_kept calls on.1 disk

-- ---- A file that is written in place.

module _ (n : ℕ) (path bytes : List ℕ) where
  there_already : (bare_but path n).file path ≡ Some n
  there_already = path_same path (Some n) bare.file

  pub unsynced : IsSafe path bytes (SyncedNames path ∷ Wrote n 0 bytes ∷ Locked n ∷ Made path n ∷ []) → ⊥
  unsynced safe =
      let made : Disk = after_call (Made path n) bare in
      garbage bytes (safe bare (tt, (tt, (tt, ((refl, nowhere path n), tt)))) (tt, (tt, (tt, (tt, tt)))) (Some (0 ∷ bytes))
      (torn n path bytes (after_calls (SyncedNames path ∷ Wrote n 0 bytes ∷ Locked n ∷ Made path n ∷ []) bare)
      (path_same path (Some n) bare.file) (file_same n false made.is_durable)))

  pub cut_last : IsSafe path bytes (SyncedNames path ∷ Cut n (length bytes) ∷ Synced n ∷ Wrote n 0 bytes ∷ Locked n ∷ Opened path n (Regular true) ∷ []) → ⊥
  cut_last safe =
      let synced : Disk = after_calls (Synced n ∷ Wrote n 0 bytes ∷ Locked n ∷ Opened path n (Regular true) ∷ []) (bare_but path n) in
      garbage bytes (safe (bare_but path n) (tt, (tt, (tt, (tt, (tt, ((refl, there_already, refl), tt)))))) (tt, (tt, (tt, (tt, (tt, (tt, tt))))))
      (Some (0 ∷ bytes))
      (torn n path bytes (after_calls (SyncedNames path ∷ Cut n (length bytes) ∷ Synced n ∷ Wrote n 0 bytes
      ∷ Locked n ∷ Opened path n (Regular true) ∷ []) (bare_but path n)) there_already (file_same n false synced.is_durable)))

-- it gets its bytes by two writes
module _ (n : ℕ) (path bytes more : List ℕ) where
  -- a file holds what was written, and what is written after that
  wrote_first : (disk : Disk) → disk.bytes n ≡ [] → (after_call (Wrote n 0 bytes) disk).bytes n ≡ bytes
  wrote_first disk empty = grind (arith, common_steps, append-nil, drop_all, file_same)

  wrote_more : (disk : Disk) → disk.bytes n ≡ bytes → (after_call (Wrote n (length bytes) more) disk).bytes n ≡ bytes ++ more
  wrote_more disk holds = grind (arith, common_steps, append-nil, drop_all, file_same, sized_within, take_all)

  cut_there : (disk : Disk) → disk.bytes n ≡ bytes → (after_call (Cut n (length bytes)) disk).bytes n ≡ bytes
  cut_there disk holds = grind (arith, common_steps, file_same, sized_within, take_all)

  leaves_both : (disk : Disk) → disk.file path ≡ Some n → disk.bytes n ≡ bytes ++ more → MayLeave disk path (Some (bytes ++ more))
  leaves_both disk leads holds = (Some n, inl (sym leads), (bytes ++ more, refl, λ kept. sym holds))

  pub outs_answered : (CanLeave path (bytes ++ more) (overwritten n path bytes more) (bare_but path n)
      × HasOneLock n (overwritten n path bytes more) (Opened path n (Regular true) ∷ []))
      × (CanLeave path (bytes ++ more) (put_out n path bytes more) bare × HasOneLock n (put_out n path bytes more) (Opened path n (Regular true) ∷ []))
  outs_answered = (
    (
      record {
        answered = (tt, (tt, (tt, (tt, (tt, (tt, (tt, ((refl, there_already n path bytes, refl), tt))))))));
        waited = (tt, (tt, (tt, (tt, (tt, (tt, (tt, (tt, tt))))))));
        leaves =
            leaves_both (after_calls (overwritten n path bytes more) (bare_but path n)) (there_already n path bytes)
            (wrote_more cut (cut_there wrote (wrote_first (bare_but path n) refl)));
      },
      opened_beside n path (overwritten n path bytes more) (6, omega arith, refl),
    ),
    (
      record {
        answered = (tt, (tt, (tt, (tt, (tt, (tt, ((refl, nowhere path n), tt)))))));
        waited = (tt, (tt, (tt, (tt, (tt, (tt, (tt, tt)))))));
        leaves =
            leaves_both (after_calls (put_out n path bytes more) bare) (path_same path (Some n) bare.file)
            (wrote_more (after_call (Wrote n 0 bytes) made) (wrote_first made (file_same n [] bare.bytes)));
      },
      opened_beside n path (put_out n path bytes more) (5, omega arith, refl),
    ),
  ) where
    wrote : Disk
    wrote = after_call (Wrote n 0 bytes) (bare_but path n)

    cut : Disk
    cut = after_call (Cut n (length bytes)) wrote

    made : Disk
    made = after_call (Made path n) bare

-- ---- All calls of an output.

module _ (path : List ℕ) (n : ℕ) where
  -- a disk that answers the call that opened it
  abbrev disk_for : OpenOutcome → Disk
  disk_for way.New = bare
  disk_for (way.Found named waited) = bare_but path n

  opening_answered : (opening : OpenOutcome) → is_waited opening ≡ true → IsAnswered path (opening_of path n opening) (disk_for opening)
  opening_answered way.New waits = (refl, nowhere path n)
  opening_answered (way.Found named waited) waits = (ap Regular waits, path_same path (Some n) bare.file, refl)

  -- no call after the first opens it
  none_before : (first : FileCall) (calls : List FileCall) → first ∷ calls ≡ [] → ⊥
  none_before first calls none = omega (arith, ap length none)

  opens_first : (opening : OpenOutcome) (first : FileCall) (calls : List FileCall) → IsOn path n (first ∷ calls) (opening_of path n opening) → ⊥
  opens_first way.New first calls on = none_before first calls on.2
  opens_first (way.Found named waited) first calls on = none_before first calls on.2

  later_answered : (call first : FileCall) (calls : List FileCall) (disk : Disk) → IsOn path n (first ∷ calls) call → IsAnswered path call disk
  later_answered (Made p m) first calls disk on = absurd (none_before first calls on.2)
  later_answered (Opened p m kind) first calls disk on = absurd (none_before first calls on.2)
  later_answered call first calls disk on = tt

  all_answered : (opening : OpenOutcome) → is_waited opening ≡ true → (calls : List FileCall) → AllOn path n calls
      → Contains calls (opening_of path n opening) → AllAnswered path calls (disk_for opening)
  all_answered opening waits [] on has = absurd (contains_none (opening_of path n opening) has)
  all_answered opening waits (call ∷ []) on has = (
    ⊎_elim (λ same. subst (λ (c : FileCall). IsAnswered path c (disk_for opening)) (sym same) (opening_answered opening waits))
        (λ later. absurd (contains_none (opening_of path n opening) later)) (contains_cases (opening_of path n opening) call [] has),
    tt,
  )
  all_answered opening waits (call ∷ (first ∷ calls)) on has = (
    later_answered call first calls (after_calls (first ∷ calls) (disk_for opening)) on.0,
    all_answered opening waits (first ∷ calls) on.1
        (⊎_elim (λ same. absurd (opens_first opening first calls (subst (λ (c : FileCall). IsOn path n (first ∷ calls) c) same on.0)))
        (λ later. later) (contains_cases (opening_of path n opening) call (first ∷ calls) has)),
  )

pub calls_answered : (file : OutFile) (calls : List FileCall) (touches : TouchesFile file calls) → is_waited touches.opening ≡ true
    → (disk : Disk) × AllAnswered file.path calls disk
calls_answered file calls touches waits =
    (disk_for file.path file.number touches.opening, all_answered file.path file.number touches.opening waits calls touches.on touches.opened)
