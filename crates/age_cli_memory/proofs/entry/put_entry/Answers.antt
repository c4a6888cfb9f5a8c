use Rattle.std.proofs.Common.{◌≡◌, ℕ, List, refl, rules, position, Some, None}
use Rattle.age_cli_memory.specs.{MemEntry, has_name}
use Rattle.age_cli_memory.proofs.{entry_of-set, entry_of-set-other, entry_of-push, entry_of-push-other, place_of_entry}
use Rattle.age_cli_memory.proofs.entry.put_entry.Goals as goal

pub returns-in-Some-clause-puts : goal.returns-in-Some-clause-puts
returns-in-Some-clause-puts c =
    let es : List MemEntry = c.args.entries.now.items in
    let name : List ℕ = c.args.name in
    let e : MemEntry = record { name = name; bytes = c.args.bytes } in
    let at : position (has_name name) es ≡ Some c.in-Some.at = search rules in
    record {
      put = entry_of-set es c.in-Some.at name e c.index_mut.result.now at refl;
      others = λ q other. entry_of-set-other es c.in-Some.at name q e c.index_mut.result.now at refl other;
      err = tt;
    }

pub returns-in_ok-push-in-None-clause-puts : goal.returns-in_ok-push-in-None-clause-puts
returns-in_ok-push-in-None-clause-puts c =
    let es : List MemEntry = c.args.entries.now.items in
    let name : List ℕ = c.args.name in
    let e : MemEntry = record { name = name; bytes = c.args.bytes } in
    let none : position (has_name name) es ≡ None = search rules in
    rw c.in_ok-push-in-None.ensures.items (record {
      put = entry_of-push es name e none refl;
      others = λ q other. entry_of-push-other es q e other;
      err = tt;
    })

pub returns-in_err-push-in-None-clause-there : goal.returns-in_err-push-in-None-clause-there
returns-in_err-push-in-None-clause-there c =
    let none : position (has_name c.args.name) c.args.entries.now.items ≡ None = search rules in
    λ there. absurd (place_of_entry c.args.entries.now.items c.args.name there none)
