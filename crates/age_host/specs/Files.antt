-- The files that are open, as contracts see them.
use Rattle.std.specs.Prelude.{◌≢◌, List, Some, IfSome, Contains}
use Rattle.age_host_paths.specs.declared.resolve_name.FileId.{FileId}
use Rattle.age_host_output.specs.{HasNode, OutputView}

-- The output's file is none of those that were opened.
pub record IsApart (opened : List FileId) (out : OutputView) : Type 0 where
  -- (in any order: each of these files is open, whichever came first)
  pub none : (one : FileId) → Contains opened one → out.id ≢ Some one
  pub node : IfSome out.file (HasNode out.id)

-- The files that were opened are all among those opened later.
-- (in any order: each of these files is open, whichever came first)
abbrev pub HasAll : List FileId → List FileId → Type 0
HasAll opened later = (one : FileId) → Contains opened one → Contains later one
