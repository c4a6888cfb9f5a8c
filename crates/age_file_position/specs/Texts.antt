-- The text of a position. Not of the age format.
use Rattle.std.specs.Prelude.{◌≡◌, ◌≢◌, ℕ, List, ◌++◌, length, codes}
use Rattle.base64.specs.GeneralPurpose.{IsBytes}
use Rattle.age_stanza.specs.{base64_text}
use Rattle.age_file_position.specs.declared.position.Position.{Position}
use Rattle.age_file_position.specs.Bindings.{position_front}

-- the text of a position
abbrev pub position_text : Position → List ℕ
position_text p = position_front p.index p.file_id p.chain ++ base64_text p.tag ++ codes "\n"

-- 32 bytes, as a digest has
pub record IsDigest (bytes : List ℕ) : Type 0 where
  pub fits : IsBytes bytes
  pub size : length bytes ≡ 32

-- the text isn't a position's
abbrev pub NoPosition : List ℕ → Type 0
NoPosition words = (p : Position) → IsDigest p.file_id → IsDigest p.chain → IsDigest p.tag
    → words ≢ position_text p
