-- A file that is read, as contracts see it.
use Rattle.std.specs.Prelude.{◌≡◌, ℕ, List, [], Bool, false, Option, None}
use Rattle.age_io.specs.{SourceView}
use Rattle.age_host_paths.specs.declared.resolve_name.FileId.{FileId}

-- A file that is read, or standard input, as contracts see it.
pub record InputView : Type 0 where
  -- the name under which it was opened
  pub name : List ℕ
  -- how many pulls have failed, and whether the last one did
  pub failed : ℕ
  pub failing : Bool
  -- the bytes that it gave or skipped, and whether the last pull that didn't fail found the end
  pub given : List ℕ
  pub is_at_end : Bool
  -- how many it still has to give, by its length when it was opened, if it is a regular file
  pub size : Option ℕ
  -- what tells it from other files, if that is known
  pub id : Option FileId

-- The file was opened under this name, and nothing was read from it yet.
pub record IsFresh (name : List ℕ) (source : InputView) : Type 0 where
  pub named : source.name ≡ name
  pub failed : source.failed ≡ 0
  pub failing : source.failing ≡ false
  pub given : source.given ≡ []
  pub is_at_end : source.is_at_end ≡ false

-- The file as a source, which doesn't show what is to come.
abbrev pub as_source : InputView → SourceView
as_source source = record {
  supply = record {
    given = source.given;
    left = None;
    is_at_end = source.is_at_end;
  };
  failed = source.failed;
  failing = source.failing;
  label = source.name;
}
