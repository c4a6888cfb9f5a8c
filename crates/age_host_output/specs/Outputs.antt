-- A file that is written, as contracts see it.
use Rattle.std.specs.Prelude.{◌≡◌, ◌<◌, ◌^◌, ◌⊎◌, ℕ, List, [], Bool, true, false, Option, None, Some, is_none}
use Rattle.age_io.specs.{SinkView}
use Rattle.age_host_model.specs.{OutFile}
use Rattle.age_host_paths.specs.{number_of}
use Rattle.age_host_paths.specs.declared.resolve_name.FileId.{FileId}
use Rattle.age_host_paths.specs.declared.metadata.DevIno.{DevIno}
use Rattle.age_host_paths.specs.declared.resolve_name.FileId.TheVariants.{File}

-- A file that is written, or a standard stream, as contracts see it.
pub record OutputView : Type 0 where
  -- the name under which it was opened or made, and whether that is a link
  pub name : List ℕ
  pub is_link : Bool
  -- how many puts have failed, and whether the last call did
  pub failed : ℕ
  pub failing : Bool
  -- the bytes that it took, and how many of them it had taken at the last sync
  pub took : List ℕ
  pub settled : ℕ
  -- which regular file it is, if it is one
  pub file : Option OutFile
  -- the path at which it is to be made, if it doesn't exist yet
  pub unmade : Option (List ℕ)
  -- what tells it from other files, if that is known
  pub id : Option FileId

-- The identity of a regular file is the device and inode that make the number of its calls.
pub record HasNode (id : Option FileId) (file : OutFile) : Type 0 where
  pub node : DevIno
  pub fits : node.inode < 2 ^ 64
  pub known : id ≡ Some (File node)
  pub number : file.number ≡ number_of node

-- A sink of this name that took these bytes, and doesn't show what its file holds.
abbrev pub sink_of : (name : List ℕ) (failed : ℕ) (failing : Bool) (took : List ℕ) → SinkView
sink_of name failed failing took = record {
  taken = record { bytes = took; contents = None; label = name };
  failed = failed;
  failing = failing;
  flushed = true;
}

-- The file as a sink, which has flushed nothing before its file is made.
abbrev pub as_sink : OutputView → SinkView
as_sink out = record (sink_of out.name out.failed out.failing out.took) { flushed = is_none out.unmade }

-- Nothing was put into the file yet, and no put has failed.
pub record IsNew (out : OutputView) : Type 0 where
  pub failed : out.failed ≡ 0
  pub failing : out.failing ≡ false
  pub took : out.took ≡ []

-- A regular file was made at this path.
pub record IsMadeAt (path : List ℕ) (now : Option OutFile) : Type 0 where
  pub file : OutFile
  pub is : now ≡ Some file
  pub at : file.path ≡ path
  pub made : file.is_made ≡ true

-- The file is the same as before. One that didn't exist yet still doesn't, or was made at its path.
abbrev pub Stays : (unmade later : Option (List ℕ)) (file now : Option OutFile) (id known : Option FileId)
    → Type 0
Stays None later file now id known = (later ≡ None) × (now ≡ file) × (known ≡ id)
Stays (Some path) later file now id known = ((later ≡ Some path) × (now ≡ file) × (known ≡ id))
    ⊎ ((later ≡ None) × IsMadeAt path now)

-- The file of an output is the same as before, or was made, as `Stays` says.
abbrev pub KeepsFile : (old new : OutputView) → Type 0
KeepsFile old new = Stays old.unmade new.unmade old.file new.file old.id new.id
