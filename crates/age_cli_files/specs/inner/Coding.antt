-- How code notes what came of a set of files. Private: no public contract cites this module.
use Rattle.std.specs.Prelude.{◌≡◌, ℕ, Bool, false, List, [], ◌∷◌, refl, Option, Some, None}
use Rattle.std.specs.Prelude.{get_or, unwrap_or}
use Rattle.std.specs.Coded.{Coded, coded_ℕ, coded_bool, coded_list, coded_option, coded×, code_by}
use Rattle.age_host_model.specs.declared.options.Durability.TheVariants.{Synced, Buffered}
use Rattle.age_cli_files.specs.declared.file_set.IfMissing.TheVariants.{Fails, Empty}
use Rattle.age_cli_files.specs.FileSet.{Outcome, Found, Absent, Present, Gave, Settled, Put, Reading}

abbrev coded_bytes : Coded (List ℕ)
coded_bytes = coded_list coded_ℕ

-- which outcome it is; two texts; what a file has to give, and its size; a flag
abbrev Pieces : Type 0
Pieces = ℕ × ((List ℕ × List ℕ) × ((Option (List ℕ) × Option ℕ) × Bool))

abbrev cut : Outcome → Pieces
cut (Found Fails name left size) = (0, ((name, []), ((left, size), false)))
cut (Found Empty name left size) = (1, ((name, []), ((left, size), false)))
cut (Gave r) = (2, ((r.name, r.given), ((None, None), r.is_at_end)))
cut (Settled Synced took size) = (3, ((took, []), ((None, Some size), false)))
cut (Settled Buffered took size) = (4, ((took, []), ((None, Some size), false)))
cut (Put name bytes) = (5, ((name, bytes), ((None, None), false)))
cut (Absent name) = (6, ((name, []), ((None, None), false)))
cut (Present name) = (7, ((name, []), ((None, None), false)))

abbrev glue : Pieces → Outcome
glue (which, ((one, other), ((left, size), is_at_end))) =
    let read : Reading = record { name = one; given = other; is_at_end = is_at_end } in
    get_or {A = Outcome} (Found Fails one left size ∷ Found Empty one left size ∷ Gave read
    ∷ Settled Synced one (unwrap_or size 0) ∷ Settled Buffered one (unwrap_or size 0)
    ∷ Put one other ∷ Absent one ∷ Present one ∷ []) which (Absent one)

pub glue-cut : (o : Outcome) → glue (cut o) ≡ o
glue-cut (Found Fails name left size) = refl
glue-cut (Found Empty name left size) = refl
glue-cut (Settled Synced took size) = refl
glue-cut (Settled Buffered took size) = refl
glue-cut o = refl

abbrev pub coded_outcomes : Coded (List Outcome)
coded_outcomes = coded_list (code_by Pieces (coded× coded_ℕ (coded× (coded× coded_bytes coded_bytes)
    (coded× (coded× (coded_option coded_bytes) (coded_option coded_ℕ)) coded_bool))) cut glue glue-cut)
