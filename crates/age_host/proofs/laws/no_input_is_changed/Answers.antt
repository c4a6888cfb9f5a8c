use Rattle.std.proofs.Common.{◌≡◌, ◌<◌, ◌^◌, ℕ, List, Option, Some, sym, ◌∙◌, ap, subst}
use Rattle.std.specs.Prelude.{Contains, IfSome}
use Rattle.age_host_model.specs.{OutFile}
use Rattle.age_host_paths.specs.{NumbersAreApart, number_of}
use Rattle.age_host_paths.specs.declared.resolve_name.FileId.{FileId}
use Rattle.age_host_paths.specs.declared.metadata.DevIno.{DevIno}
use Rattle.age_host_paths.specs.declared.resolve_name.FileId.TheVariants.{File}
use Rattle.age_host_output.specs.{HasNode, OutputView}
use Rattle.age_host.specs.{IsApart}
use Rattle.age_host.proofs.laws.no_input_is_changed.Goals as goal

-- no input has the number of an output that is none of them
no_number : NumbersAreApart → (opened : List FileId) (out : OutputView) (file : OutFile) → IsApart opened out
    → out.file ≡ Some file → (input : DevIno) → input.inode < 2 ^ 64 → Contains opened (File input) → number_of input ≡ file.number → ⊥
no_number numbers opened out file apart is input fits held same =
    let has = subst (λ (o : Option OutFile). IfSome o (HasNode out.id)) is apart.node in
    apart.none (File input) held (has.known ∙ ap (λ (n : DevIno). Some (File n)) (sym (numbers input has.node fits has.fits (same ∙ has.number))))

pub returns-clause-opened : goal.returns-clause-opened
returns-clause-opened c = λ opened out file calls apart is on input fits held disk. c.others_are_kept.ensures file.path file.number (number_of input) calls on
    (no_number c.numbers_are_apart.ensures opened out file apart is input fits held) disk

pub returns-clause-made : goal.returns-clause-made
returns-clause-made c = λ file calls on disk new path other leads. c.others_are_kept.ensures file.path file.number other calls on
    (λ same. new path (leads ∙ ap (λ (n : ℕ). Some n) same)) disk
