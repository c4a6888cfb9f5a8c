-- The faults of headers that weren't opened: their numbers among all faults, and when they are
-- found.
use Rattle.std.specs.Prelude.{ℕ, Bool, true, false}
use Rattle.age_fault.specs.declared.key.KeyFault.{KeyFault}
use Rattle.age_fault.specs.declared.key.KeyFault.TheVariants.{ScryptNotAlone, BadScrypt, WorkTooHigh, NoMatch}
use Rattle.age_fault.specs.declared.key.KeyFault.TheVariants.{WrongKey, MacMismatch, BadX25519, Memory}

-- the fault is found before any work: by looking at the header, before a body is opened
abbrev pub is_before_work : KeyFault → Bool
is_before_work ScryptNotAlone = true
is_before_work BadScrypt = true
is_before_work WorkTooHigh = true
is_before_work NoMatch = true
is_before_work BadX25519 = true
is_before_work other = false

-- the number of the fault in the list of all faults
abbrev pub key_fault_number : KeyFault → ℕ
key_fault_number ScryptNotAlone = 9
key_fault_number BadScrypt = 10
key_fault_number WorkTooHigh = 11
key_fault_number NoMatch = 12
key_fault_number WrongKey = 13
key_fault_number MacMismatch = 14
key_fault_number BadX25519 = 15
key_fault_number Memory = 28
