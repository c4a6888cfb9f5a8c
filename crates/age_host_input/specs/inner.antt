-- What a file gave. Private: no public contract cites this module.
use Rattle.std.specs.Prelude.{ℕ, List, Bool, None}
use Rattle.age_io.specs.Supply.{Supply}

-- what a file gave; what is to come isn't shown
abbrev pub supply_of : List ℕ → Bool → Supply
supply_of given is_at_end = record { given = given; left = None; is_at_end = is_at_end }
