-- The contract views of sources and sinks.
use Rattle.std.specs.Prelude.{ℕ, List, Bool, ◌+◌, ◌-◌, ◌^◌, min, Result, ◌≡◌, []}
use Rattle.std.specs.Prelude.{◌++◌, ◌⊎◌, length, true, ◌<◌, MatchResult, OnErr}
use Rattle.age_io.specs.Supply.{Supply}
use Rattle.age_io.specs.Taken.{Taken, Appends}

-- ---- The contract view of a source, and of a sink.

-- the view of a source: the bytes that it gave and those to come; how many pulls have failed, at
-- most the greatest value of the count's type, and whether the last one did; and the source's name,
-- which no call changes
pub record SourceView : Type 0 where
  pub supply : Supply
  pub failed : ℕ
  pub failing : Bool
  pub label : List ℕ

-- the view of a sink: the bytes that it took; how many puts and flushes have failed, and whether
-- the last of them did; and whether it was flushed, which is true if the sink doesn't say
pub record SinkView : Type 0 where
  pub taken : Taken
  pub failed : ℕ
  pub failing : Bool
  pub flushed : Bool

-- ---- Counts of failures.

-- a count after one more; it stays at the greatest value of its type
abbrev pub one_more : ℕ → ℕ
one_more n = min (n + 1) (2 ^ 64 - 1)

-- a count of failures rose by one, or stayed at its greatest value, and the last call is the one
-- that failed: no call came after it
abbrev pub HasFailed : ℕ → ℕ → Bool → Type 0
HasFailed old new failing = (new ≡ one_more old) × (failing ≡ true)

-- a count of failures rose, or is at its greatest value
abbrev pub HasRisen : ℕ → ℕ → Type 0
HasRisen old new = (old < new) ⊎ (new ≡ 2 ^ 64 - 1)

-- ---- The write of some bytes.

-- the front of the bytes was taken and counted: all of them; or fewer, once a put failed, which is
-- the only one that did, and the last
pub record Writes {E : Type 0} (old new : SinkView) (written_old written_new : ℕ)
    (bytes : List ℕ) (result : Result (Unit {0}) E) : Type 0 where
  pub out : List ℕ
  pub unwritten : List ℕ
  pub parts : bytes ≡ out ++ unwritten
  pub wrote : Appends old.taken new.taken out
  pub count : written_new ≡ written_old + length out
  pub answered : MatchResult result (λ _. (unwritten ≡ []) × (new.failed ≡ old.failed))
      (λ _. HasFailed old.failed new.failed new.failing)
  pub stopped : OnErr result (0 < length unwritten)
