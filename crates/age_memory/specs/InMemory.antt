-- The contract views of sources and sinks in memory, and what each call returns and leaves, by their
-- plan of failures.
use Rattle.std.specs.Prelude.{ℕ, List, Option, Bool, ◌-◌, min, Result, Ok, Err, ◌≡◌, []}
use Rattle.std.specs.Prelude.{◌++◌, Some, ◌≢◌, ◌⊎◌, length, take, drop, true, false}
use Rattle.std.specs.Prelude.{nat_eq, nat_lt, ◌&&◌}
use Rattle.age_io.specs.{one_more}
use Rattle.age_io.specs.Supply.{Supply}
use Rattle.age_io.specs.Taken.{Taken}
use Rattle.age_io.specs.declared.failed.Failed.{Failed}

-- the bytes of a source in memory
abbrev pub memory_supply : List ℕ → List ℕ → Bool → Supply
memory_supply given left is_at_end = record { given = given; left = Some left; is_at_end = is_at_end }

-- the bytes of a sink in memory
abbrev pub holds : List ℕ → Taken
holds held = record { bytes = held; contents = Some held; label = [] }

-- a source in memory: the bytes that it gave and those to come, the most bytes that a pull gives,
-- the number of the pull that fails, how many pulls were made and have failed, whether the last one
-- did, and whether the last that did not found the end
pub record Feeding : Type 0 where
  pub given : List ℕ
  pub left : List ℕ
  pub step : ℕ
  pub fail_call : Option ℕ
  pub calls : ℕ
  pub failures : ℕ
  pub failing : Bool
  pub is_at_end : Bool

-- a pull into a slice of this many bytes
abbrev pub Pulls : Feeding → ℕ → Result ℕ Failed → Feeding → Type 0
Pulls old room (Ok n) new = (old.fail_call ≢ Some old.calls)
    × (n ≡ min (min old.step room) (length old.left))
    × (new ≡ record old {
      given = new.given;
      left = drop n old.left;
      calls = one_more old.calls;
      failing = false;
      is_at_end = nat_eq n 0 && nat_lt 0 room;
    })
Pulls old room (Err failed) new = (old.fail_call ≡ Some old.calls)
    × (new ≡ record old {
      calls = one_more old.calls;
      failures = one_more old.failures;
      failing = true;
    })

-- a sink in memory: the bytes that it took, its limit, the most bytes that a put takes, the number
-- of the put or flush that fails, how many of both were made and have failed, whether the last one
-- did, and whether the last that did not was a flush
pub record Holding : Type 0 where
  pub held : List ℕ
  pub room : ℕ
  pub step : ℕ
  pub fail_call : Option ℕ
  pub calls : ℕ
  pub failures : ℕ
  pub failing : Bool
  pub flushed : Bool

-- a put of these bytes; it fails by plan, or if there are bytes and no room
abbrev pub Puts : Holding → List ℕ → Result ℕ Failed → Holding → Type 0
Puts old from (Ok n) new = (old.fail_call ≢ Some old.calls)
    × (n ≡ min (min old.step (length from)) (old.room - length old.held))
    × (new ≡ record old {
      held = old.held ++ take n from;
      calls = one_more old.calls;
      failing = false;
      flushed = false;
    })
Puts old from (Err failed) new = ((old.fail_call ≡ Some old.calls)
    ⊎ ((from ≢ []) × (length old.held ≡ old.room)))
    × (new ≡ record old {
      calls = one_more old.calls;
      failures = one_more old.failures;
      failing = true;
    })

-- a flush; it fails by plan
abbrev pub Flushes : Holding → Result (Unit {0}) Failed → Holding → Type 0
Flushes old (Ok done) new = (old.fail_call ≢ Some old.calls)
    × (new ≡ record old { calls = one_more old.calls; failing = false; flushed = true })
Flushes old (Err failed) new = (old.fail_call ≡ Some old.calls)
    × (new ≡ record old {
      calls = one_more old.calls;
      failures = one_more old.failures;
      failing = true;
    })
