-- The report on the header that bytes begin with, before it is opened.
use Rattle.std.specs.Prelude.{◌≡◌, ◌≢◌, ℕ, ◌≤◌, ◌<◌, ◌⊎◌, List, [], ◌∷◌, ◌++◌, length, take, drop, min, ◌+◌}
use Rattle.std.specs.List.{flat_map}
use Rattle.age_stanza.specs.{stanzas_text}
use Rattle.age_stanza.specs.declared.header.Header.{Header}
use Rattle.age_stanza.specs.declared.header.Stanza.{Stanza}
use Rattle.age_keys.specs.{OnlyScrypt}
use Rattle.age_c.specs.Calls.{misused}
use Rattle.age_c.specs.Readers.{HasHead, HasNoHead, start_fault_number}
use Rattle.age_c.specs.declared.stanza_place.StanzaPlace.{StanzaPlace}
use Rattle.age_c.specs.declared.start.StartFault.{StartFault}

-- the answer is that of no header: more bytes are needed, or it is faulty, or took too much memory
abbrev pub IsHeadRefusal : List ℕ → ℕ → Type 0
IsHeadRefusal front answer =
    (fault : StartFault) × (answer ≡ start_fault_number fault) × HasNoHead front fault

-- ---- A complete header.

-- the work factor of the header's only stanza, which is a scrypt stanza, or 2^32 - 1 if it is above
-- that; 0 says that the header isn't one that a passphrase opens
pub record IsWork (header : Header) (work : ℕ) : Type 0 where
  pub some : work ≢ 0 → (only : OnlyScrypt header) × (work ≡ min only.log 4294967295)
  pub none : work ≡ 0 → ¬ OnlyScrypt header

-- the result of a report on a header: its length, its number of stanzas, and its work factor
pub record TellsHeader (front : List ℕ) (answer header_len stanzas work : ℕ) : Type 0 where
  pub told : answer ≡ 0 → (header : Header) × HasHead front header header_len
      × (stanzas ≡ length header.stanzas) × IsWork header work
  pub refused : answer ≢ 0 → IsHeadRefusal front answer
  pub nothing : answer ≢ 0 → (header_len ≡ 0) × (stanzas ≡ 0) × (work ≡ 0)

-- ---- One stanza.

-- the stanza of this index: where its arguments stand in the bytes, with one space between two of
-- them, and the bytes of its body
pub record HasStanza (front : List ℕ) (header : Header) (index args_at args_len : ℕ)
    (body : List ℕ) : Type 0 where
  pub before : List Stanza
  pub stanza : Stanza
  pub after : List Stanza
  pub parts : header.stanzas ≡ before ++ stanza ∷ after
  pub index_is : index ≡ length before
  -- they stand after the lines before the stanza's and the mark of its first line
  pub at : args_at ≡ length (stanzas_text before) + 3
  -- the space of that mark is before the first of them
  pub args : 32 ∷ take args_len (drop args_at front) ≡ flat_map (λ a. 32 ∷ a) stanza.args
  pub within : args_at + args_len ≤ length front
  pub body_is : body ≡ stanza.body

-- ---- All stanzas.

-- the bodies of stanzas, one after the other
abbrev pub bodies_of : List Stanza → List ℕ
bodies_of stanzas = flat_map (λ (s : Stanza). s.body) stanzas

-- the places are those of the header's stanzas, of all of them in their order, and `bodies` are the
-- bytes of their bodies
pub record HasStanzas (front : List ℕ) (header : Header) (places : List StanzaPlace) (bodies : List ℕ)
    : Type 0 where
  pub all : length places ≡ length header.stanzas
  pub bodies_are : bodies ≡ bodies_of header.stanzas
  -- the place of an index is that of the stanza of this index, and its body is within the bodies
  pub each : (before : List StanzaPlace) (it : StanzaPlace) (after : List StanzaPlace)
      → places ≡ before ++ it ∷ after
      → HasStanza front header (length before) it.args_at it.args_len
      (take it.body_len (drop it.body_at bodies))
      × (it.body_at + it.body_len ≤ length bodies)

-- the result of a report on a header's stanzas. `most` is the room for their places, and `room`
-- that for the bytes of their bodies
pub record TellsStanzas (front : List ℕ) (most room answer : ℕ) (places : List StanzaPlace)
    (bodies : List ℕ) : Type 0 where
  pub told : answer ≡ 0 → (header : Header) × (len : ℕ) × HasHead front header len
      × HasStanzas front header places bodies
  pub room_is : room < length front → answer ≡ misused
  -- 255 says that there is less room than bytes, or than stanzas
  pub misused_is : answer ≡ misused → (room < length front)
      ⊎ ((header : Header) × (len : ℕ) × HasHead front header len × (most < length header.stanzas))
  pub refused : answer ≢ 0 → answer ≢ misused → IsHeadRefusal front answer
  pub nothing : answer ≢ 0 → (places ≡ []) × (bodies ≡ [])
