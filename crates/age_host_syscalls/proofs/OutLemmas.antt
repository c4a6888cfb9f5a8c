-- A file that is written in place, call by call.
use Rattle.std.proofs.lemmas.Grind.{common_steps}
use Rattle.std.proofs.Common.{◌≡◌, ◌⊎◌, inl, inr, ⊎_elim, ℕ, ◌+◌, ◌<◌, List, [], ◌∷◌, ◌++◌, Bool, true, false}
use Rattle.std.proofs.Common.{Option, None, length, refl, sym, ◌∙◌, ap, subst, arith, length-append}
use Rattle.std.proofs.Common.{length-take}
use Rattle.std.specs.Prelude.{Contains, Result, Ok, Err, OnOk, OnErr, is_ok}
use Rattle.std.proofs.lemmas.Bool.{cases_Bool}
use Rattle.std.proofs.lemmas.List.{append-nil, take_at, drop_all}
use Rattle.age_host_model.specs.{FileCall, Made, Opened, Wrote, Indeterminate, Synced, Unsyncable, ClosesLast, Locked}
use Rattle.age_host_model.specs.{Unlockable, Removed, SyncedNames, UnsyncableNames, CountsFailure, Waited, sized}
use Rattle.age_host_model.specs.{after_call, after_calls, IsAmong, MayLead, MayLeave, IsAnswered, AllAnswered}
use Rattle.age_host_model.specs.{SavesWhole, LeadsTo, OutFile, opening_of, is_making, is_waited, text_of, IsOn}
use Rattle.age_host_model.specs.{MayChange, IsClaimed, TouchesFile}
use Rattle.age_host_model.specs.declared.opened.OpenOutcome.{OpenOutcome}
use Rattle.age_host_model.specs.declared.opened.OpenOutcome.TheVariants as way
use Rattle.age_host_model.specs.declared.opened.FileKind.{FileKind}
use Rattle.age_host_model.specs.declared.opened.FileKind.TheVariants.{Regular}
use Rattle.age_host_syscalls.specs.{HasWritten, AlwaysHasWritten, IsJustOpened, IsOut}
use Rattle.age_host_model.specs.Disk.{Disk}
use Rattle.age_host_syscalls.specs.inner.{IsHeld, IsAtPath, StaysHeld, RemovesAt}
use Rattle.age_host_model.proofs.DiskLemmas.{path_same, file_same, file_other, sized_within, contains_first}
use Rattle.age_host_model.proofs.DiskLemmas.{contains_later, contains_none, contains_cases, claimed_later}
use Rattle.age_host_model.proofs.DiskLemmas.{no_claim}
use Rattle.age_host_syscalls.proofs.SaveLemmas.{led, leaves_fewer, leaves_new, leaves_synced, if_either, if_made}
use Rattle.age_host_syscalls.proofs.SaveLemmas.{if_waited, saves_loudly, saves_none, saves_quietly}

-- ---- A file that was only opened.

module _ (path : List ℕ) (n : ℕ) where
  pub no_text : (opening : OpenOutcome) → text_of (opening_of path n opening ∷ []) ≡ []
  no_text way.New = refl
  no_text (way.Found named waited) = refl

-- ---- What stays true.

pub held_more : (path : List ℕ) (n : ℕ) (opening call : FileCall) (calls : List FileCall) → IsOn path n calls call
    → IsHeld path n opening calls → IsHeld path n opening (call ∷ calls)
held_more path n opening call calls on held = grind (arith, common_steps, claimed_later, contains_later)

pub held_one : (path : List ℕ) (n : ℕ) (opening call : FileCall) (old new : List FileCall) → IsOn path n old call → new ≡ call ∷ old
    → StaysHeld path n opening old new
held_one path n opening call old new on is held = rw is (held_more path n opening call old on held)

pub held_named : (path : List ℕ) (n : ℕ) (opening : FileCall) (old new : List FileCall)
    → (new ≡ old) ⊎ Waited (SyncedNames path) (UnsyncableNames path) old new → StaysHeld path n opening old new
held_named path n opening old new either held =
    if_either (IsHeld path n opening) (SyncedNames path) (UnsyncableNames path) old new held (held_more path n opening (SyncedNames path) old refl held)
    (held_more path n opening (UnsyncableNames path) old refl held) either

pub held_settled : (path : List ℕ) (n : ℕ) (opening : FileCall) (old new : List FileCall)
    → (new ≡ old) ⊎ Waited (Synced n) (Unsyncable n) old new → StaysHeld path n opening old new
held_settled path n opening old new either held =
    if_either (IsHeld path n opening) (Synced n) (Unsyncable n) old new held (held_more path n opening (Synced n) old refl held)
    (held_more path n opening (Unsyncable n) old refl held) either

-- It was closed, and then its name was waited for, or not.
pub closed_named : (path : List ℕ) (n : ℕ) (mid new : List FileCall) → ClosesLast n mid
    → (new ≡ mid) ⊎ Waited (SyncedNames path) (UnsyncableNames path) mid new → ClosesLast n new
closed_named path n mid new closed =
    if_either (ClosesLast n) (SyncedNames path) (UnsyncableNames path) mid new closed closed closed

-- ---- What is known by the call that opened it.

answered_in : (path : List ℕ) (call : FileCall) (calls : List FileCall) (disk : Disk) → Contains calls call
    → AllAnswered path calls disk → (d : Disk) × IsAnswered path call d
answered_in path call [] disk held answers = absurd (contains_none call held)
answered_in path call (first ∷ calls) disk held answers =
    ⊎_elim (λ same. (
      after_calls calls disk,
      subst (λ (c : FileCall). IsAnswered path c (after_calls calls disk)) same answers.0,
    )) (λ later. answered_in path call calls disk later answers.1) (contains_cases call first calls held)

-- A disk answers only for a file whose name is waited for.
pub waited_for : (path : List ℕ) (n : ℕ) (opening : OpenOutcome) (calls : List FileCall) (disk : Disk)
    → Contains calls (opening_of path n opening) → AllAnswered path calls disk → is_waited opening ≡ true
waited_for path n way.New calls disk held answers = refl
waited_for path n (way.Found named waited) calls disk held answers =
    is_true (answered_in path (Opened path n (Regular waited)) calls disk held answers).1.0 where
      is_true : Regular waited ≡ Regular true → waited ≡ true
      is_true same = cc

pub touches_held : (file : OutFile) (opening : OpenOutcome) (calls : List FileCall) → is_making opening ≡ file.is_made
    → IsHeld file.path file.number (opening_of file.path file.number opening) calls → TouchesFile file calls
touches_held file opening calls made held =
    record { opening = opening; is_made = made; opened = held.opened; on = held.on; locked = held.locked }

-- it is removed, or not
module _ (file : OutFile) where
  touches_more : (call : FileCall) (calls : List FileCall) → IsOn file.path file.number calls call → (MayChange file.number call → ⊥)
      → TouchesFile file calls → TouchesFile file (call ∷ calls)
  touches_more call calls on quiet touches = grind (arith, common_steps, contains_later)

  pub touches_removed : (calls later : List FileCall) → RemovesAt file.path calls later → TouchesFile file calls → TouchesFile file later
  touches_removed calls later removes touches =
      if_either (TouchesFile file) (SyncedNames file.path) (UnsyncableNames file.path) removes.mid later mid
      (touches_more (SyncedNames file.path) removes.mid refl (λ may. may) mid)
      (touches_more (UnsyncableNames file.path) removes.mid refl (λ may. may) mid) removes.named where
        mid : TouchesFile file removes.mid
        mid =
            if_made (TouchesFile file) (Removed file.path) calls removes.mid touches
            (touches_more (Removed file.path) calls refl (λ may. may) touches) removes.removed

-- ---- What it holds.

module _ (path : List ℕ) (n : ℕ) (is_stale : Bool) (text : List ℕ) (disk : Disk) (holds : HasWritten path n is_stale text disk) where
  front : sized (length text) (disk.bytes n) ≡ text
  front = sized_within (length text) (disk.bytes n) (omega (arith, ap length holds.front, length-take (length text) (disk.bytes n))) ∙ holds.front

  holds_wrote : (part : List ℕ) → HasWritten path n is_stale (text ++ part) (after_call (Wrote n (length text) part) disk)
  holds_wrote part = grind (arith, common_steps, append-nil, drop_all, file_same, front, take_at)

begun_wrote : (path : List ℕ) (n : ℕ) (is_stale : Bool) (text part : List ℕ) (calls : List FileCall) → AlwaysHasWritten path n is_stale text calls
    → AlwaysHasWritten path n is_stale (text ++ part) (Wrote n (length text) part ∷ calls)
begun_wrote path n is_stale text part calls begun disk answers = holds_wrote path n is_stale text (after_calls calls disk) (begun disk answers.1) part

-- it stays so while it is waited for
pub begun_settled : (path : List ℕ) (n : ℕ) (is_stale : Bool) (text : List ℕ) (calls later : List FileCall)
    → (later ≡ calls) ⊎ Waited (Synced n) (Unsyncable n) calls later → AlwaysHasWritten path n is_stale text calls → AlwaysHasWritten path n is_stale text later
begun_settled path n is_stale text calls later either begun = grind (arith, common_steps, front, if_either)

-- it has reached the disk
pub place_waited : (path : List ℕ) (n : ℕ) (text : List ℕ) (calls waited : List FileCall)
    → Waited (Synced n) (Unsyncable n) calls waited → AlwaysHasWritten path n false text calls → IsAtPath path n text waited
place_waited path n text calls waited is begun = grind (arith, common_steps, file_same, if_waited)

-- ---- What holds between the calls.

module _ (path : List ℕ) (n : ℕ) (opening : OpenOutcome) (is_stale is_indeterminate is_claimed : Bool) (written failed : ℕ)
    (calls : List FileCall) (out : IsOut path n (opening_of path n opening) is_stale is_indeterminate is_claimed written failed calls) where
  abbrev call : FileCall
  call = opening_of path n opening

  not_unclaimed : IsClaimed n calls → is_claimed ≡ false → ⊥
  not_unclaimed claimed is = no_claim path n opening (subst (IsClaimed n) (out.unclaimed is) claimed)

  pub some_claimed : 0 < written → IsClaimed n calls
  some_claimed some = ⊎_elim out.claimed none (cases_Bool is_claimed) where
    none : is_claimed ≡ false → IsClaimed n calls
    none is =
        absurd (omega (arith, some, out.written, ap (λ (l : List FileCall). length (text_of l)) (out.unclaimed is), ap length (no_text path n opening)))

  pub out_wrote : (part : List ℕ) (sum now : ℕ) (later : List FileCall) → IsClaimed n calls → later ≡ Wrote n written part ∷ calls → 0 < length part
      → sum ≡ written + length part → now ≡ failed → IsOut path n call is_stale is_indeterminate is_claimed sum now later
  out_wrote part sum now later claimed is some added same =
      rw is (record {
        opened = contains_later (Wrote n written part) call calls out.opened;
        on = ((refl, sym out.written), out.on);
        written =
            length-append (text_of calls) part ∙ (ap (λ (k : ℕ). k + length part) out.written ∙ sym added);
        same = λ none. absurd (empty none);
        fresh = λ sound none. absurd (empty none);
        begun = λ sound. subst (λ (k : ℕ). AlwaysHasWritten path n is_stale (text_of calls ++ part) (Wrote n k part ∷ calls)) out.written
            (begun_wrote path n is_stale (text_of calls) part calls (out.begun (sym same ∙ sound)));
        indeterminate = λ is. omega (arith, out.indeterminate is, same);
        locked = (λ may. claimed, out.locked);
        claimed = λ is. claimed_later n (Wrote n written part) calls claimed;
        unclaimed = λ is. absurd (not_unclaimed claimed is);
      }) where
        empty : text_of calls ++ part ≡ [] → ⊥
        empty none = omega (arith, ap length none, length-append (text_of calls) part, some)

  -- a call has failed after which it may hold anything
  pub out_broke : (indeterminate : Bool) (now : ℕ) (later : List FileCall) → IsClaimed n calls
      → later ≡ Indeterminate n ∷ calls → failed < now → IsOut path n call is_stale indeterminate is_claimed written now later
  out_broke indeterminate now later claimed is more =
      rw is (record {
        opened = contains_later (Indeterminate n) call calls out.opened;
        on = (refl, out.on);
        written = out.written;
        same = out.same;
        fresh = λ sound none. absurd (omega (arith, sound, more));
        begun = λ sound. absurd (omega (arith, sound, more));
        indeterminate = λ is. omega (arith, more);
        locked = (λ may. claimed, out.locked);
        claimed = λ is. claimed_later n (Indeterminate n) calls claimed;
        unclaimed = λ is. absurd (not_unclaimed claimed is);
      })

  pub touches_now : (is_made : Bool) → is_making opening ≡ is_made
      → TouchesFile (record { path = path; number = n; is_made = is_made }) calls
  touches_now is_made made =
      record { opening = opening; is_made = made; opened = out.opened; on = out.on; locked = out.locked }

  pub out_held : IsClaimed n calls → IsHeld path n call calls
  out_held claimed = record { opened = out.opened; on = out.on; claimed = claimed; locked = out.locked }

  -- after it was to be claimed
  pub out_claimed : {E : Type 0} (r : Result (Unit {0}) E) (now : ℕ) (later : List FileCall) → is_claimed ≡ false
      → OnOk r (Waited (Locked n) (Unlockable n) calls later) → OnErr r (later ≡ calls) → CountsFailure r failed now
      → IsOut path n call is_stale is_indeterminate (is_ok r) written now later
  out_claimed (Ok x) now later free waited same counted =
      let opened : Contains later call = ⊎_elim (λ is. rw is (contains_later (Locked n) call calls out.opened)) (λ is. rw is (contains_later (Unlockable n) call calls out.opened)) waited in
      let claimed : IsClaimed n later = ⊎_elim (λ is. rw is (inl (contains_first (Locked n) calls))) (λ is. rw is (inr (contains_first (Unlockable n) calls))) waited in
      grind (arith, common_steps)
  out_claimed (Err e) now later free waited same counted = grind (arith, common_steps)

  -- after a call that changes nothing in what was written, which isn't empty
  pub out_after : (stale indeterminate : Bool) (now : ℕ) (later : List FileCall) → 0 < written
      → StaysHeld path n call calls later → text_of later ≡ text_of calls → (now ≡ 0 → AlwaysHasWritten path n stale (text_of calls) later)
      → (indeterminate ≡ true → 0 < now) → IsOut path n call stale indeterminate is_claimed written now later
  out_after stale indeterminate now later some stays text begun caused = record {
    opened = held.opened;
    on = held.on;
    written = ap length text ∙ out.written;
    same = λ none. absurd (empty none);
    fresh = λ sound none. absurd (empty none);
    begun = λ sound. subst (λ (l : List ℕ). AlwaysHasWritten path n stale l later) (sym text) (begun sound);
    indeterminate = caused;
    locked = held.locked;
    claimed = λ is. held.claimed;
    unclaimed = λ is. absurd (not_unclaimed (some_claimed some) is);
  } where
    held : IsHeld path n call later
    held = stays (out_held (some_claimed some))

    empty : text_of later ≡ [] → ⊥
    empty none = omega (arith, ap length none, ap length text, out.written, some)

  -- it was waited for
  pub out_waited : (now : ℕ) (later : List FileCall) → 0 < written → Waited (Synced n) (Unsyncable n) calls later → now ≡ failed
      → IsOut path n call is_stale is_indeterminate is_claimed written now later
  out_waited now later some waited same =
      out_after is_stale is_indeterminate now later some (held waited) (⊎_elim (λ is. ap text_of is) (λ is. ap text_of is) waited)
      (λ sound. begun_settled _ _ _ _ _ _ (inr waited) (out.begun (sym same ∙ sound))) (λ is. omega (arith, out.indeterminate is, same)) where
        held : Waited (Synced n) (Unsyncable n) calls later → StaysHeld path n call calls later
        held waited it =
            if_waited (IsHeld path n call) (Synced n) (Unsyncable n) calls later (held_more path n call (Synced n) calls refl it)
            (held_more path n call (Unsyncable n) calls refl it) waited

-- ---- Where nothing was written.

saves_made : (path : List ℕ) (n : ℕ) → SavesWhole path [] [] (Made path n ∷ [])
saves_made path n = grind (arith, common_steps, file_other, file_same, leaves_new, path_same, saves_loudly, saves_none)

saves_opened : (path : List ℕ) (n : ℕ) (kind : FileKind) → SavesWhole path [] [] (Opened path n kind ∷ [])
saves_opened path n kind = saves_quietly path [] [] (Opened path n kind) [] (saves_none path [] []) (λ disk answers waited left leaves. leaves)

-- what was made where nothing was is removed
leaves_taken : (path : List ℕ) (n : ℕ) (disk : Disk) → disk.file path ≡ None → (left : Option (List ℕ))
    → MayLeave (after_call (Removed path) (after_call (Made path n) disk)) path left → MayLeave (after_call (Made path n) disk) path left
leaves_taken path n disk nothing =
    leaves_fewer path made (after_call (Removed path) made)
    (λ to may. among to (led _ _ _ _ to (path_same path None made.file) (path_same path _ made.before) may)) (λ m may. (refl, refl)) where
      made : Disk
      made = after_call (Made path n) disk

      among : (to : Option ℕ) → IsAmong to (None ∷ made.file path ∷ made.before path) → MayLead made path to
      among to h0 = grind (arith, common_steps, path_same)

-- a file that was opened or made, and perhaps claimed
saves_claimed : (path : List ℕ) (n : ℕ) (calls later : List FileCall) → SavesWhole path [] [] calls
    → (later ≡ calls) ⊎ Waited (Locked n) (Unlockable n) calls later → SavesWhole path [] [] later
saves_claimed path n calls later saves = grind (arith, common_steps, if_either, saves_quietly)

-- a file that was made, and perhaps claimed, is unchanged since
fresh_made : (path : List ℕ) (n : ℕ) (calls : List FileCall) → IsJustOpened n (Made path n) calls → (disk : Disk) → AllAnswered path calls disk
    → (after_calls calls disk ≡ after_call (Made path n) disk) × (disk.file path ≡ None)
fresh_made path n calls h0 = grind (arith, common_steps)

-- and it is removed
saves_removed : (path : List ℕ) (n : ℕ) (calls : List FileCall) → IsJustOpened n (Made path n) calls → SavesWhole path [] [] (Removed path ∷ calls)
saves_removed path n calls fresh =
    saves_quietly path [] [] (Removed path) calls (saves_claimed path n (Made path n ∷ []) calls (saves_made path n) fresh) (λ disk answers waited left leaves.
    let made = fresh_made path n calls fresh disk answers.1 in
    rw made.0 (leaves_taken path n disk made.1 left (rw made.0 at leaves)))

saves_named : (path : List ℕ) (calls later : List FileCall) → SavesWhole path [] [] calls
    → (later ≡ calls) ⊎ Waited (SyncedNames path) (UnsyncableNames path) calls later → SavesWhole path [] [] later
saves_named path calls later saves = grind (arith, common_steps, if_either, leaves_synced, saves_quietly)

-- nothing was written, and it is removed, or not
pub saves_discarded : (path : List ℕ) (n : ℕ) (opening : OpenOutcome) (calls later : List FileCall)
    → IsJustOpened n (opening_of path n opening) calls → RemovesAt path calls later → (is_making opening ≡ false → later ≡ calls)
    → SavesWhole path [] [] later
saves_discarded path n (way.Found named waited) calls later fresh removes same =
    subst (SavesWhole path [] []) (sym (same refl))
    (saves_claimed path n (Opened path n (Regular waited) ∷ []) calls (saves_opened path n (Regular waited)) fresh)
saves_discarded path n way.New calls later fresh removes same =
    saves_named path removes.mid later (if_made (SavesWhole path [] []) (Removed path) calls removes.mid
    (saves_claimed path n (Made path n ∷ []) calls (saves_made path n) fresh) (saves_removed path n calls fresh) removes.removed) removes.named

-- ---- It was ended.

pub leads_begun : (path : List ℕ) (n : ℕ) (bytes : List ℕ) (calls : List FileCall) → AlwaysHasWritten path n false bytes calls → LeadsTo path n bytes calls
leads_begun path n bytes calls begun disk answers = let holds = begun disk answers in (holds.file, holds.whole refl, holds.is_indeterminate)
