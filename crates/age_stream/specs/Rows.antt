-- The types of an opener and of a sealer, as the logic has them.
use Rattle.std.specs.Prelude.{[]}
use Rattle.std.specs.Borrow.{RattleType}
use mir.Syntax.{named}
use Rattle.age_chunk.specs.declared.chunk_box.ChunkBox.{Ghosts}
use Rattle.age_stream.specs.contracts.opener.Opener.{the_row as the_opener_row}
use Rattle.age_stream.specs.contracts.sealer.Sealer.{the_row as the_sealer_row}

-- ---- The type of an opener, as the logic has it.

module _ (B N : RattleType) (box : Ghosts B.Denot) where
  -- the type of an opener of a box
  abbrev pub opener_row : RattleType
  opener_row = the_opener_row (record { mir = named 0; lft = [] }) B N box

-- ---- The type of a sealer, as the logic has it.

module _ (B N : RattleType) (box : Ghosts B.Denot) where
  -- the type of a sealer of a box
  abbrev pub sealer_row : RattleType
  sealer_row = the_sealer_row (record { mir = named 0; lft = [] }) B N box
