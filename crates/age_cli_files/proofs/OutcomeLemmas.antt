-- What came of a set of files, in the parts of a run.
use Rattle.std.proofs.Common.{◌≡◌, ◌∙◌, ◌++◌, [], ◌∷◌, refl, ap, sym, List, ℕ, Option, Some, None, append-nil, append_assoc, subst, true, false, Bool}
use Rattle.std.specs.Prelude.{Result, Ok, Err, IfOk, if◌then◌else◌}
use Rattle.std.specs.Io.KnownBytes.{prepend_known}
use Rattle.std.specs.Io.KnownBytes as known
use Rattle.age_io.specs.{SourceView, Consumes, IsAtEnd}
use Rattle.age_host_model.specs.declared.options.Durability.{Durability}
use Rattle.age_host_model.specs.declared.options.ClobberOption.{ClobberOption}
use Rattle.age_host_model.specs.declared.options.ClobberOption.TheVariants.{Allowed, Refused}
use Rattle.age_cli_files.specs.declared.file_set.OpenFault.{OpenFault}
use Rattle.age_cli_files.specs.declared.file_set.IfMissing.{IfMissing}
use Rattle.age_cli_files.specs.declared.file_set.IfMissing.TheVariants.{Fails}
use Rattle.age_cli_files.specs.{Outcome, Found, Absent, Present, Gave, Settled, Put, Reading, Entry, entry, FilesView, Does, PutsOnly, NotedSince, HasGiven, HasGivenAll}
use Rattle.age_cli_files.specs.{puts_in, with_outcomes, opened_as, created_as, made_as, looked_as, reading_of}

pub puts_then : (a b : List Outcome) → puts_in (a ++ b) ≡ puts_in a ++ puts_in b
unfolding puts_in
puts_then [] b = refl
puts_then (Put name bytes ∷ a) b = ap (λ l. entry name bytes ∷ l) (puts_then a b)
puts_then (o ∷ a) b = puts_then a b

-- ---- Parts of a run, one after the other.

pub does_none : (old : FilesView) → Does old old
unfolding puts_in
does_none old = record { more = []; is = rw (append-nil old.outcomes) refl; none_put = refl }

pub does_same : (old new : FilesView) → new ≡ old → Does old new
does_same old new same = subst (Does old) (sym same) (does_none old)

pub does_only : (old new : FilesView) (more : List Outcome) → new ≡ with_outcomes more old → puts_in more ≡ [] → Does old new
does_only old new more is none = record { more = more; is = is; none_put = none }

pub does_then : (old mid new : FilesView) → Does old mid → Does mid new → Does old new
does_then old mid new first next = record {
  more = first.more ++ next.more;
  is = next.is ∙ rw (first.is, append_assoc old.outcomes first.more next.more) refl;
  none_put = puts_then first.more next.more ∙ rw (first.none_put, next.none_put) refl;
}

pub did_ended : (old new : FilesView) → Does old new → new.ended ≡ old.ended
did_ended old new d = ap (λ v. v.ended) d.is

pub grows_by : (old new : FilesView) → Does old new → PutsOnly [] old new
grows_by old new d = record { more = d.more; is = ap (λ v. v.outcomes) d.is; puts_are = d.none_put }

pub grows_none : (old : FilesView) → PutsOnly [] old old
unfolding puts_in
grows_none old = record { more = []; is = sym (append-nil old.outcomes); puts_are = refl }

pub grows_so : (old new : FilesView) (more : List Outcome) → new.outcomes ≡ old.outcomes ++ more → PutsOnly (puts_in more) old new
grows_so old new more is = record { more = more; is = is; puts_are = refl }

pub grows_then : (a b : List Entry) (old mid new : FilesView) → PutsOnly a old mid → PutsOnly b mid new → PutsOnly (a ++ b) old new
grows_then a b old mid new first next = record {
  more = first.more ++ next.more;
  is = next.is ∙ ap (λ l. l ++ next.more) first.is ∙ append_assoc old.outcomes first.more next.more;
  puts_are = puts_then first.more next.more ∙ rw (first.puts_are, next.puts_are) refl;
}

-- ---- What came in a part came in the whole.

pub came_one : (old new : FilesView) (o : Outcome) → new.outcomes ≡ old.outcomes ++ o ∷ [] → NotedSince old new o
came_one old new o is = record { before = []; later = []; is = is }

abbrev pub came_then : (puts : List Entry) (old mid new : FilesView) → PutsOnly puts mid new → (o : Outcome) → NotedSince old mid o → NotedSince old new o
came_then puts old mid new more o c = record {
  before = c.before;
  later = c.later ++ more.more;
  is = more.is ∙ ap (λ x. x ++ more.more) c.is ∙ append_assoc old.outcomes (c.before ++ o ∷ c.later) more.more
      ∙ ap (λ x. old.outcomes ++ x) (append_assoc c.before (o ∷ c.later) more.more);
}

abbrev pub then_came : (puts : List Entry) (old mid new : FilesView) → PutsOnly puts old mid → (o : Outcome) → NotedSince mid new o → NotedSince old new o
then_came puts old mid new more o c = record {
  before = more.more ++ c.before;
  later = c.later;
  is = c.is ∙ ap (λ x. x ++ (c.before ++ o ∷ c.later)) more.is ∙ append_assoc old.outcomes more.more (c.before ++ o ∷ c.later)
      ∙ ap (λ x. old.outcomes ++ x) (sym (append_assoc more.more c.before (o ∷ c.later)));
}

-- ---- What was noted of a call.

-- a file was to be opened
module _ {In : Type 0} (read : In → SourceView) (size : In → Option ℕ) (missing : IfMissing) (name : List ℕ) (old new : FilesView) where
  pub opened_does : (r : Result In OpenFault) → new ≡ with_outcomes (opened_as read size missing name r) old → Does old new
  unfolding puts_in
  opened_does (Ok s) is = does_only old new _ is refl
  opened_does (Err fault) is = does_only old new _ is refl

  pub opened_came : (r : Result In OpenFault) → new ≡ with_outcomes (opened_as read size missing name r) old
      → IfOk r (λ s. NotedSince old new (Found missing name (read s).supply.left (size s)))
  opened_came (Ok s) is = came_one old new (Found missing name (read s).supply.left (size s)) (ap (λ v. v.outcomes) is)
  opened_came (Err fault) is = tt

created_plain : (clobber : ClobberOption) (name : List ℕ) → puts_in (created_as clobber name) ≡ []
unfolding puts_in
created_plain Allowed name = refl
created_plain Refused name = refl

-- one was to be created
module _ {A : Type 0} (clobber : ClobberOption) (name : List ℕ) (old new : FilesView) where
  pub made_does : (r : Result A OpenFault) → new ≡ with_outcomes (made_as clobber name r) old → Does old new
  unfolding puts_in
  made_does (Ok out) is = does_only old new _ is (created_plain clobber name)
  made_does (Err fault) is = does_only old new _ is refl

-- no file had the name of one that was created, if an existing one was refused
pub created_absent : (clobber : ClobberOption) (name : List ℕ) (old new : FilesView) → new ≡ with_outcomes (created_as clobber name) old
    → clobber ≡ Refused → NotedSince old new (Absent name)
created_absent clobber name old new is refused = came_one old new (Absent name) (ap (λ v. v.outcomes) is ∙ ap (λ c. old.outcomes ++ created_as c name) refused)

-- a name was looked at
module _ (name : List ℕ) (answer : Bool) (old new : FilesView) (is : new ≡ with_outcomes (looked_as name answer) old) where
  pub looked_does : Does old new
  unfolding puts_in
  looked_does = does_only old new (looked_as name answer) is (none answer) where
    none : (b : Bool) → puts_in (looked_as name b) ≡ []
    none true = refl
    none false = refl

  pub looked_came : (b : Bool) → answer ≡ b → NotedSince old new (if b then Absent name else Present name)
  looked_came b answered = came_one old new (if b then Absent name else Present name)
      (ap (λ v. v.outcomes) is ∙ ap (λ a. old.outcomes ++ looked_as name a) answered)

pub gave_puts : (r : Reading) → puts_in (Gave r ∷ []) ≡ []
unfolding puts_in
gave_puts r = refl

pub settled_does : (durability : Durability) (took : List ℕ) (size : ℕ) (old new : FilesView) → new ≡ with_outcomes (Settled durability took size ∷ []) old → Does old new
unfolding puts_in
settled_does durability took size old new is = does_only old new (Settled durability took size ∷ []) is refl

-- ---- What was read.

-- what a source of this file had to give, once it gave these bytes
pub left_after : (old new : Option (List ℕ)) (bytes : List ℕ) → known.Consumes old new bytes → (left : Option (List ℕ)) × (old ≡ prepend_known bytes left)
    × ((rest : List ℕ) → left ≡ Some rest → new ≡ Some rest)
left_after None new bytes read = (None, refl, λ rest is. cc)
left_after (Some all) None bytes read = absurd read
left_after (Some all) (Some rest) bytes read = (Some rest, ap Some read, λ same is. is)

none_left : (left new : Option (List ℕ)) → ((rest : List ℕ) → left ≡ Some rest → new ≡ Some rest) → known.IsAtEnd new → known.IsAtEnd left
none_left None new same end = tt
none_left (Some rest) new same end = rw (same rest refl) at end

-- a file was opened and read, and then its reading was over
module _ (Came : Outcome → Type 0) (name bytes : List ℕ) (first last : SourceView) (size : Option ℕ) (unread : first.supply.given ≡ [])
    (found : Came (Found Fails name first.supply.left size)) (read : Consumes first.supply last.supply bytes) (over : Came (Gave (reading_of last)))
    (named : last.label ≡ name) where
  abbrev pub gave_by : HasGiven Came name bytes
  gave_by =
      let left = left_after first.supply.left last.supply.left bytes read.left in
      record {
        reading = reading_of last;
        over = over;
        named = named;
        given = read.given ∙ ap (λ x. x ++ bytes) unread;
        left = left.0;
        size = size;
        found = subst (λ l. Came (Found Fails name l size)) left.1 found;
      }

  pub all_by : IsAtEnd last.supply → HasGivenAll Came name bytes
  all_by end = record {
    gave = gave_by;
    whole = end.0;
    none = none_left _ last.supply.left (left_after first.supply.left last.supply.left bytes read.left).2 end.1;
  }

module _ (Came Later : Outcome → Type 0) (so : (o : Outcome) → Came o → Later o) (name bytes : List ℕ) where
  abbrev pub given_as : HasGiven Came name bytes → HasGiven Later name bytes
  given_as g = record {
    reading = g.reading;
    over = so (Gave g.reading) g.over;
    named = g.named;
    given = g.given;
    left = g.left;
    size = g.size;
    found = so (Found Fails name (prepend_known bytes g.left) g.size) g.found;
  }

  abbrev pub all_as : HasGivenAll Came name bytes → HasGivenAll Later name bytes
  all_as g = record { gave = given_as g.gave; whole = g.whole; none = g.none }
