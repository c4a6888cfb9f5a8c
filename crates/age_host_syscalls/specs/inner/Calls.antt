-- How calls are kept as ghost state. Private: no public contract cites this module.
use Rattle.std.specs.Prelude.{◌≡◌, ℕ, List, [], ◌∷◌, true, false, get_or, refl}
use Rattle.std.specs.Coded.{Coded, coded_ℕ, coded_list, coded×, code_by}
use Rattle.age_host_model.specs.Calls.{FileCall, Made, Opened, Wrote, Cut, Indeterminate, Synced, Unsyncable, Closed, Locked}
use Rattle.age_host_model.specs.Calls.{Unlockable, Removed, SyncedNames, UnsyncableNames}
use Rattle.age_host_model.specs.declared.opened.FileKind.TheVariants.{Regular, Device}

-- which call it is, its text, and its numbers
abbrev CallParts : Type 0
CallParts = ℕ × (List ℕ × (ℕ × ℕ))

abbrev parts_of : FileCall → CallParts
parts_of (Made path n) = (0, (path, (n, 0)))
parts_of (Opened path n (Regular false)) = (1, (path, (n, 0)))
parts_of (Opened path n (Regular true)) = (2, (path, (n, 0)))
parts_of (Opened path n Device) = (3, (path, (n, 0)))
parts_of (Wrote n at bytes) = (4, (bytes, (n, at)))
parts_of (Cut n len) = (5, ([], (n, len)))
parts_of (Indeterminate n) = (6, ([], (n, 0)))
parts_of (Synced n) = (7, ([], (n, 0)))
parts_of (Unsyncable n) = (8, ([], (n, 0)))
parts_of (Locked n) = (9, ([], (n, 0)))
parts_of (Unlockable n) = (10, ([], (n, 0)))
parts_of (Removed path) = (11, (path, (0, 0)))
parts_of (SyncedNames path) = (12, (path, (0, 0)))
parts_of (UnsyncableNames path) = (13, (path, (0, 0)))
parts_of (Closed n) = (14, ([], (n, 0)))

abbrev from_parts : CallParts → FileCall
from_parts (which, (text, (n, k))) =
    get_or {A = FileCall} (
    Made text n ∷ Opened text n (Regular false) ∷ Opened text n (Regular true) ∷ Opened text n Device
    ∷ Wrote n k text ∷ Cut n k ∷ Indeterminate n ∷ Synced n ∷ Unsyncable n ∷ Locked n ∷ Unlockable n ∷ Removed text
    ∷ SyncedNames text ∷ UnsyncableNames text ∷ Closed n ∷ []) which (Indeterminate n)

pub from_parts-parts_of : (call : FileCall) → from_parts (parts_of call) ≡ call
from_parts-parts_of (Opened path n (Regular false)) = refl
from_parts-parts_of (Opened path n (Regular true)) = refl
from_parts-parts_of (Opened path n Device) = refl
from_parts-parts_of call = refl

abbrev pub coded_call : Coded FileCall
coded_call = code_by CallParts (coded× coded_ℕ (coded× (coded_list coded_ℕ) (coded× coded_ℕ coded_ℕ)))
    parts_of from_parts from_parts-parts_of
