-- What only private code cites, here of how long texts are, and what they leave of some room.
use Rattle.std.specs.Prelude.{◌≡◌, ℕ, ◌+◌, ◌<◌, ◌≤◌, length, Option, Some, None}
use Rattle.std.specs.List.{AllByRecursion}
use Rattle.base64.specs.GeneralPurpose.{IsBytes}
use Rattle.age_stanza.specs.Grammar.{IsArgument, stanza_text, head_text, header_limit}
use Rattle.age_stanza.specs.declared.header.Header.{Header}
use Rattle.age_stanza.specs.declared.header.Stanza.{Stanza}
pub mod Closing
pub mod LineMachine
unfoldable pub use Closing.*
unfoldable pub use LineMachine.*

-- the part of a stanza's validity that its type leaves open
abbrev pub HasArguments : Stanza → Type 0
HasArguments s = (0 < length s.args) × AllByRecursion IsArgument s.args

-- what is left of some room after a text, or that it has no room
abbrev pub Leaves : ℕ → ℕ → Option ℕ → Type 0
Leaves room size (Some left) = left + size ≡ room
Leaves room size None = room < size

abbrev pub LeavesAfterStanza : ℕ → Stanza → Option ℕ → Type 0
LeavesAfterStanza room s (Some left) = (left + length (stanza_text s) ≡ room) × IsBytes s.body
LeavesAfterStanza room s None = room < length (stanza_text s)

-- the length of a header's text, if it is within the limit; and what the types show of the MAC and
-- of the bytes
abbrev pub IsHeaderLength : Header → Option ℕ → Type 0
IsHeaderLength h (Some size) = (size ≡ length (head_text h)) × (size ≤ header_limit)
    × (length h.mac ≡ 32) × IsBytes h.mac × AllByRecursion (λ s. IsBytes s.body) h.stanzas
IsHeaderLength h None = header_limit < length (head_text h)
