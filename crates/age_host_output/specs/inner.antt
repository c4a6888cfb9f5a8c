-- What is done to a file that is written. Private: no public contract cites this module.
pub mod Devices
pub mod Closing
use Rattle.std.specs.Prelude.{◌≡◌, ℕ, List, [], ◌++◌, take, Bool, true, false, Option, Some, None}
use Rattle.std.specs.Prelude.{Result, Ok, Err}
use Rattle.age_host_model.specs.{FileCall, OutView, text_of}
use Rattle.age_host_output.specs.Targets.{regular_of, unmade_of}
use Rattle.age_host_output.specs.declared.target.OutputTarget.{OutputTarget}
use Rattle.age_host_output.specs.declared.target.OutputTarget.TheVariants as target

-- the calls that opened what isn't a regular file
abbrev pub opening_calls : OutputTarget → List FileCall
opening_calls (target.Device device) = device.machine.calls
opening_calls other = []

-- what a put took of these bytes
abbrev pub part_of : {E : Type 0} → Result ℕ E → List ℕ → List ℕ
part_of (Ok n) from = take n from
part_of (Err e) from = []

-- a part was written to a file; if that succeeded, no call has failed, unless the file can't be
-- relied on, nor in any case while nothing is written
pub record PutsPart (old new : OutView) (is_ok : Bool) (part : List ℕ) : Type 0 where
  pub file : new.file ≡ old.file
  pub text : text_of new.calls ≡ text_of old.calls ++ part
  pub sound : is_ok ≡ true → new.is_indeterminate ≡ false
      → (new.failed ≡ old.failed) × (old.is_indeterminate ≡ false)
  pub still : is_ok ≡ true → text_of old.calls ≡ [] → part ≡ [] → new.failed ≡ old.failed

-- the same for the regular file of a target, if it has one
abbrev pub TargetPuts : Option OutView → Option OutView → Bool → List ℕ → Type 0
TargetPuts None None is_ok part = Unit {0}
TargetPuts None (Some new) is_ok part = ⊥
TargetPuts (Some old) None is_ok part = ⊥
TargetPuts (Some old) (Some new) is_ok part = PutsPart old new is_ok part

-- the same for a target, when no file is made for it
abbrev pub TargetGoes : OutputTarget → OutputTarget → Bool → List ℕ → Type 0
TargetGoes old new is_ok part =
    TargetPuts (regular_of old) (regular_of new) is_ok part × (unmade_of new ≡ unmade_of old)
